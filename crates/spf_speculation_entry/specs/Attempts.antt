-- Attempts: performances of blocks that share only the cells of their own spans.
use Rattle.std.specs.Prelude.{◌≡◌, ◌<◌, ℕ, Bool, false, if◌then◌else◌, List, [], ◌∷◌, Some, ℤ}
use Rattle.spf_ast.specs.Carried.{Carried}
use Rattle.spf_ast.specs.Event.{Event, Load, Store, Turn, word_at}
use Rattle.spf_ast.specs.Interaction.{Performed, HasReadAll, Ended, Stopped, Ending, perform}
use Rattle.spf_speculation_entry.specs.Entry.{Entry, own, asks_at}

-- What an attempt of block n at a carried row comes to, where these are its events. It shares the cells of its
-- spans; all other cells have the words of the entry. A turn that polls the attempt's number or more stops it.
abbrev pub attempted : Entry → ℕ → Carried → (attempt : ℕ) → List Event → Performed (Ending Carried)
attempted e n v attempt log = perform (own e n) e.memory (Some attempt) (asks_at e n v) log

-- the log of an attempt: it is read to its end, so the attempt is whole or chopped
abbrev pub IsAttempt : Entry → ℕ → Carried → ℕ → List Event → Type 0
IsAttempt e n v attempt log = HasReadAll (attempted e n v attempt log)

-- the log of a whole attempt, with its answer
abbrev pub IsWhole : Entry → ℕ → Carried → ℕ → List Event → Ending Carried → Type 0
IsWhole e n v attempt log answer = attempted e n v attempt log ≡ Ended answer []

-- the log of a chopped attempt, with the number that its last turn polled
abbrev pub IsChopped : Entry → ℕ → Carried → ℕ → List Event → ℕ → Type 0
IsChopped e n v attempt log seen = attempted e n v attempt log ≡ Stopped seen []

-- ---- where attempts come from

-- the events without the loads of other cells than these
abbrev pub on_cells : (ℕ → Bool) → List Event → List Event
on_cells cells [] = []
on_cells cells (Load cell word ∷ events) = if cells cell then Load cell word ∷ on_cells cells events else on_cells cells events
on_cells cells (Store cell word ∷ events) = Store cell word ∷ on_cells cells events
on_cells cells (Turn number ∷ events) = Turn number ∷ on_cells cells events

-- each load of another cell gave its word in the memory
abbrev pub OthersAreOf : List ℤ → (ℕ → Bool) → List Event → Type 0
OthersAreOf memory cells [] = Unit {0}
OthersAreOf memory cells (Load cell word ∷ events) = (cells cell ≡ false → word ≡ word_at memory cell) × OthersAreOf memory cells events
OthersAreOf memory cells (Store cell word ∷ events) = OthersAreOf memory cells events
OthersAreOf memory cells (Turn number ∷ events) = OthersAreOf memory cells events

-- each turn polled a number below this one
abbrev pub TurnsAreBelow : ℕ → List Event → Type 0
TurnsAreBelow stop [] = Unit {0}
TurnsAreBelow stop (Load cell word ∷ events) = TurnsAreBelow stop events
TurnsAreBelow stop (Store cell word ∷ events) = TurnsAreBelow stop events
TurnsAreBelow stop (Turn number ∷ events) = (number < stop) × TurnsAreBelow stop events

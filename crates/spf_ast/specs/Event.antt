-- Events on a memory, which is a list of words, one for each cell.
use Rattle.std.specs.Prelude.{◌≡◌, ℕ, List, [], ◌∷◌, ℤ, pos, slice_index_or, slice_set}

-- an event: a load of a cell with the word that it gave, a store of a word to a cell, or a turn with the number that was polled there
pub data Event : Type 0 where
  Load : ℕ → ℤ → Event
  Store : ℕ → ℤ → Event
  Turn : ℕ → Event

-- the word of a cell
abbrev pub word_at : List ℤ → ℕ → ℤ
word_at memory cell = slice_index_or memory cell (pos 0)

-- the memory with the events' stores made in their order
abbrev pub after : List Event → List ℤ → List ℤ
after [] memory = memory
after (Load cell word ∷ events) memory = after events memory
after (Store cell word ∷ events) memory = after events (slice_set memory cell word)
after (Turn number ∷ events) memory = after events memory

-- each Load's word is that of the memory after the events before it
abbrev pub IsConsistent : List Event → List ℤ → Type 0
IsConsistent [] memory = Unit {0}
IsConsistent (Load cell word ∷ events) memory = (word ≡ word_at memory cell) × IsConsistent events memory
IsConsistent (Store cell word ∷ events) memory = IsConsistent events (slice_set memory cell word)
IsConsistent (Turn number ∷ events) memory = IsConsistent events memory

-- nothing was polled: the number of each Turn is 0
abbrev pub IsUnpolled : List Event → Type 0
IsUnpolled [] = Unit {0}
IsUnpolled (Load cell word ∷ events) = IsUnpolled events
IsUnpolled (Store cell word ∷ events) = IsUnpolled events
IsUnpolled (Turn number ∷ events) = (number ≡ 0) × IsUnpolled events

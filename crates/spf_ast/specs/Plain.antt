-- Plain runs: what is asked of one memory, from left to right, with no guess and nothing that stops a turn.
use Rattle.std.specs.Prelude.{◌≡◌, List, [], ◌∷◌, None, ℤ, slice_set}
use Rattle.spf_ast.specs.Event.{Event, Load, Store, Turn, word_at, after, IsConsistent, IsUnpolled}
use Rattle.spf_ast.specs.Interaction.{Interaction, Answer, AskLoad, AskStore, AskTurn, Ended, perform, every_cell}

-- the events of a tree on a memory, each load with that memory's word, and each turn with 0
abbrev pub plain_events : {A : Type 0} → Interaction A → List ℤ → List Event
plain_events (Answer a) memory = []
plain_events (AskLoad cell given) memory = Load cell (word_at memory cell) ∷ plain_events (given (word_at memory cell)) memory
plain_events (AskStore cell word then_) memory = Store cell word ∷ plain_events then_ (slice_set memory cell word)
plain_events (AskTurn then_) memory = Turn 0 ∷ plain_events then_ memory

-- the answer of a tree on a memory
abbrev pub plain_answer : {A : Type 0} → Interaction A → List ℤ → A
plain_answer (Answer a) memory = a
plain_answer (AskLoad cell given) memory = plain_answer (given (word_at memory cell)) memory
plain_answer (AskStore cell word then_) memory = plain_answer then_ (slice_set memory cell word)
plain_answer (AskTurn then_) memory = plain_answer then_ memory

-- the memory after a tree's events
abbrev pub plain_memory : {A : Type 0} → Interaction A → List ℤ → List ℤ
plain_memory tree memory = after (plain_events tree memory) memory

-- the events lead along the tree to its end, with this answer; they are consistent with the memory, and nothing was polled
pub record IsPlainRun {A : Type 0} (tree : Interaction A) (memory : List ℤ) (events : List Event) (answer : A) : Type 0 where
  pub ends : perform every_cell [] None tree events ≡ Ended answer []
  pub consistent : IsConsistent events memory
  pub unpolled : IsUnpolled events

-- ---- with no shared cell

-- The answer of a tree with no shared cell: each load gives the memory's word, whatever was stored before, and no turn stops it.
abbrev pub unshared_answer : {A : Type 0} → Interaction A → List ℤ → A
unshared_answer (Answer a) memory = a
unshared_answer (AskLoad cell given) memory = unshared_answer (given (word_at memory cell)) memory
unshared_answer (AskStore cell word then_) memory = unshared_answer then_ memory
unshared_answer (AskTurn then_) memory = unshared_answer then_ memory

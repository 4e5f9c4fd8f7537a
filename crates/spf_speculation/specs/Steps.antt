-- Steps of blocks on one memory, and the logs that they merge.
use Rattle.std.specs.Prelude.{◌≡◌, ℕ, zero, suc, ◌<◌, ◌==◌, if◌then◌else◌, List, [], ◌∷◌, ◌++◌}
use Rattle.spf_ast.specs.Event.{Event}

-- a step: one event of a block
pub record Step : Type 0 where
  pub block : ℕ
  pub event : Event

-- the events of steps, in their order
abbrev pub events_of : List Step → List Event
events_of [] = []
events_of (step ∷ rest) = step.event ∷ events_of rest

-- the log of one block: its events alone, in their order
abbrev pub log_of : ℕ → List Step → List Event
log_of n [] = []
log_of n (step ∷ rest) = if step.block == n then step.event ∷ log_of n rest else log_of n rest

-- each step is one of a block below this count
abbrev pub AreBelow : ℕ → List Step → Type 0
AreBelow count [] = Unit {0}
AreBelow count (step ∷ rest) = (step.block < count) × AreBelow count rest

-- the steps merge the logs of the first `count` blocks: they are the events of these logs and no others, and keep the
-- order of each log
pub record Merges (count : ℕ) (logs : ℕ → List Event) (steps : List Step) : Type 0 where
  pub below : AreBelow count steps
  pub logs_are : (n : ℕ) → n < count → log_of n steps ≡ logs n

-- the steps of one block with this log
abbrev pub steps_of : ℕ → List Event → List Step
steps_of n [] = []
steps_of n (e ∷ log) = record { block = n; event = e } ∷ steps_of n log

-- the logs of the first blocks, joined block by block from block 0 up
abbrev pub joined : ℕ → (ℕ → List Event) → List Step
joined zero logs = []
joined (suc n) logs = joined n logs ++ steps_of n (logs n)

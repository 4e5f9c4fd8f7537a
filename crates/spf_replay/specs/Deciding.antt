-- What makes steps a speculative run: what is asked of each block's log alone, beside one memory.
use Rattle.std.specs.Prelude.{◌≡◌, ◌<◌, ◌↔◌, ℕ, List, slice_get, Option, Some, None, Result, ℤ}
use Rattle.spf_ast.specs.declared.outcome.Trap.{Trap}
use Rattle.spf_ast.specs.Carried.{Carried}
use Rattle.spf_ast.specs.Event.{Event, IsConsistent}
use Rattle.spf_ast.specs.Interaction.{Ending}
use Rattle.spf_exec.specs.declared.stop.Stop.{Stop}
use Rattle.spf_exec.specs.declared.stop.Stop.TheVariants as stop
use Rattle.spf_ast_laws.specs.Keeping.{StandsInMain}
use Rattle.spf_speculation.specs.Alike.{SlotsLookAlike, with_slots}
use Rattle.spf_speculation_entry.specs.Entry.{Entry, IsEntry, plain_blocks}
use Rattle.spf_speculation.specs.Steps.{Step, events_of, log_of, AreBelow}
use Rattle.spf_speculation.specs.Runs.{IsRealLog, IsGuessedLog, IsSpeculativeRun}

-- the steps are a speculative run, with some real rows and some result
pub record IsRun (e : Entry) (guess : ℕ → Carried) (steps : List Step) : Type 0 where
  pub values : List Carried
  pub result : Result Carried Trap
  pub run : IsSpeculativeRun e guess steps values result

-- the log of block n, whose real row is this, where it has one
abbrev pub IsLogAt : Entry → (ℕ → Carried) → Option Carried → ℕ → List Event → Type 0
IsLogAt e guess (Some v) n log = (answer : Ending Carried) × IsRealLog e guess n v log answer
IsLogAt e guess None n log = IsGuessedLog e guess n log

-- the steps are of the entry's blocks and share its memory, and each block's log is one at the block's real row in the plain run
pub record HasItsLogs (e : Entry) (guess : ℕ → Carried) (steps : List Step) : Type 0 where
  pub below : AreBelow e.header.blocks steps
  pub consistent : IsConsistent (events_of steps) e.memory
  pub logs : (n : ℕ) → n < e.header.blocks → IsLogAt e guess (slice_get (plain_blocks e).values n) n (log_of n steps)

-- the speculative runs are exactly the steps for which this holds
abbrev pub RunsHaveTheirLogs : Type 0
RunsHaveTheirLogs = (e : Entry) (guess : ℕ → Carried) (steps : List Step) → IsEntry e → IsRun e guess steps ↔ HasItsLogs e guess steps

-- ---- ends of attempts

-- an attempt ended with a row or a trap, at the end of a log of this size
abbrev pub IsWholeEnd : Option (Stop × ℕ) → ℕ → Type 0
IsWholeEnd None size = ⊥
IsWholeEnd (Some (stop.Ended value, at)) size = at ≡ size
IsWholeEnd (Some (stop.Trapped trap, at)) size = at ≡ size
IsWholeEnd (Some (stop.Cancelled seen, at)) size = ⊥

-- an attempt was read to the end of a log of this size
abbrev pub IsReadEnd : Option (Stop × ℕ) → ℕ → Type 0
IsReadEnd None size = ⊥
IsReadEnd (Some (stop, at)) size = at ≡ size

-- a run is also one from other slots that agree on those that are visible at the construct, and only then
abbrev pub RunsLookAlike : Type 0
RunsLookAlike =
    (e : Entry) (slots : List ℤ) (stands : StandsInMain e.program e.construct) (guess : ℕ → Carried) (steps : List Step)
    → SlotsLookAlike stands.scope.visible e.slots slots → IsRun e guess steps ↔ IsRun (with_slots e slots) guess steps

-- Sections and the logs of their blocks, as the code reads them.
use Rattle.std.specs.Prelude.{◌≡◌, ◌↔◌, ℕ, Bool, IsTrue, if◌then◌else◌, ◌==◌, List, [], ◌∷◌, ◌++◌, map, drop, length, slice_get, Option, Some, ℤ}
use Rattle.std.specs.Global.{Vec}
use Rattle.spf_ast.specs.Carried.{Carried}
use Rattle.spf_ast.specs.Event.{Event, IsConsistent}
use Rattle.spf_ast.specs.Interaction.{Performed, Ending, perform}
use Rattle.spf_region.specs.Cells.{in_spans}
use Rattle.spf_exec.specs.declared.block_run.BlockRun.{BlockRun}
use Rattle.spf_exec.specs.Instances.{block_asks}
use Rattle.spf_speculation_entry.specs.Entry.{Entry, begins_at}
use Rattle.spf_replay_log.specs.declared.log.Event as logged
use Rattle.spf_replay_log.specs.declared.log.Step as logged_step
use Rattle.spf_replay.specs.declared.context.BlockContext.{BlockContext}
use Rattle.spf_replay.specs.declared.entered.EnteredConstruct.{EnteredConstruct}
use Rattle.spf_replay.specs.Reading.{event_of}
use Rattle.spf_replay.specs.SeenSteps.{seen_steps, log_at}
use Rattle.spf_replay.specs.Contexts.{IsContextOf}
use Rattle.spf_replay.specs.Deciding.{IsLogAt, IsRun}
use Rattle.spf_replay.specs.Entered.{entry_of}

-- what comes of a block's attempt that is read from its log, from this index on
abbrev pub attempt_read : BlockContext → BlockRun → (attempt : ℕ) → List logged.Event → (at : ℕ) → Performed (Ending Carried)
attempt_read context block attempt log at =
    perform (in_spans context.spans.now) context.entry.now (Some attempt) (block_asks context.instance.now block context.frame.now) (map event_of (drop at log))

-- the answer is whether the log is one of the block, whose real row is this, where it has one; of whichever entry it is a block
abbrev pub TellsLog : BlockContext → BlockRun → (real : Option Carried) → List logged.Event → Bool → Type 0
TellsLog context block real log answer = (e : Entry) (guess : ℕ → Carried) (n : ℕ) → IsContextOf e n context block → block.value ≡ begins_at e guess n
    → IsTrue answer ↔ IsLogAt e guess real n (map event_of log)

-- the log is one of block n of the construct, at its real row, where it has one
abbrev pub IsLogOf : EnteredConstruct → (ℕ → Carried) → ℕ → List logged.Event → Type 0
IsLogOf c guess n log = IsLogAt (entry_of c) guess (slice_get c.reals.now n) n (map event_of log)

-- the answer is whether the steps are a speculative run of the construct from these guesses
abbrev pub TellsRun : EnteredConstruct → (ℕ → Carried) → List logged_step.Step → Bool → Type 0
TellsRun c guess steps answer = IsTrue answer ↔ IsRun (entry_of c) guess (seen_steps steps)

-- the answer is whether the memory gives what an event says; the event leads to the memory after it
abbrev pub TellsEvent : Event → (before : List ℤ) → Bool → (after : List ℤ) → Type 0
TellsEvent event before answer after = (rest : List Event) → IsConsistent (event ∷ rest) before ↔ (IsTrue answer × IsConsistent rest after)

-- there are as many logs as before, and this block's has one more event
abbrev pub HasOneMore : (block : ℕ) → Event → (before after : List (Vec logged.Event)) → Type 0
HasOneMore block event before after =
    (length after ≡ length before) × ((n : ℕ) → log_at after n ≡ (if block == n then log_at before n ++ event ∷ [] else log_at before n))

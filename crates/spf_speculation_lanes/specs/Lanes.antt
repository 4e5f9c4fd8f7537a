-- The lanes of a construct's blocks: their logs are merged to speculative runs.
use Rattle.std.specs.Prelude.{◌≡◌, ℕ, List, [], map, slice_index_or, Result, Ok, ℤ}
use mathlib.Core.Option.{some}
use lib.ListN.{get_elem?}
use Rattle.spf_ast.specs.declared.outcome.Trap.{Trap}
use Rattle.spf_ast.specs.Carried.{Carried}
use Rattle.spf_ast.specs.Event.{Event, IsConsistent}
use Rattle.spf_cells.specs.declared.view.Setting.{Setting}
use Rattle.spf_cells.specs.declared.view.LogEntry.{LogEntry}
use Rattle.spf_cells.specs.Log.{events, ArePossibleTurns}
use Rattle.spf_cells.specs.Values.{LaneValue, CellsValue}
use Rattle.spf_cells.specs.Finish.{AreAllLanes, IsFinish}
use Rattle.spf_speculation_entry.specs.Entry.{Entry, IsEntry, plain_blocks}
use Rattle.spf_speculation_entry.specs.Attempts.{TurnsAreBelow}
use Rattle.spf_speculation_entry.specs.Sites.{AreMadeFor}
use Rattle.spf_speculation.specs.Steps.{Step, Merges}
use Rattle.spf_speculation.specs.Runs.{LogsComeTo, IsSpeculativeRun}

-- the logs of lanes, in their order
abbrev pub trace_of : List LaneValue → List (List LogEntry)
trace_of lanes = map (λ lane. lane.log) lanes

-- the events of block n in a trace, which has one log for each block
abbrev pub logs_in : List (List LogEntry) → ℕ → List Event
logs_in trace n = events (slice_index_or trace n [])

-- these are the lanes of all blocks of this entry, and each load of a log gave the lane's own content
pub record AreLanesFor (e : Entry) (cells : CellsValue) (lanes : List LaneValue) : Type 0 where
  pub made : AreMadeFor e cells.setting
  pub all : AreAllLanes cells lanes
  pub consistent : (n : ℕ) (lane : LaneValue) → get_elem? lanes n ≡ some lane → IsConsistent (events lane.log) lane.setting.entry

-- lanes that `finish` took are such lanes, where the cells were made for the entry
abbrev pub FinishedLanesAreForTheEntry : Type 0
FinishedLanesAreForTheEntry =
    (e : Entry) (cells : CellsValue) (lanes : List LaneValue) (trace : List (List LogEntry)) (before after : List ℤ)
    → AreMadeFor e cells.setting → AreAllLanes cells lanes → IsFinish cells lanes trace before after → AreLanesFor e cells lanes

-- every merging of the lanes' logs is a speculative run
abbrev pub EveryMergingOfLanes : Type 0
EveryMergingOfLanes =
    (e : Entry) (guess : ℕ → Carried) (cells : CellsValue) (lanes : List LaneValue) (values : List Carried) (result : Result Carried Trap)
    → IsEntry e → AreLanesFor e cells lanes → LogsComeTo e guess (logs_in (trace_of lanes)) 0 e.header.start values result
    → (steps : List Step) → Merges e.header.blocks (logs_in (trace_of lanes)) steps → IsSpeculativeRun e guess steps values result

-- where no block traps, `finish` writes the lanes back to the entry's memory so that it becomes the plain one
abbrev pub LanesGiveThePlainMemory : Type 0
LanesGiveThePlainMemory =
    (e : Entry) (guess : ℕ → Carried) (cells : CellsValue) (lanes : List LaneValue) (trace : List (List LogEntry))
    (values : List Carried) (value : Carried) (memory : List ℤ)
    → IsEntry e → AreLanesFor e cells lanes → LogsComeTo e guess (logs_in (trace_of lanes)) 0 e.header.start values (Ok value)
    → IsFinish cells lanes trace e.memory memory → memory ≡ (plain_blocks e).memory

-- no turn of a lane stops a second attempt
abbrev pub LanesStopNoSecondAttempt : Type 0
LanesStopNoSecondAttempt = (setting : Setting) (block : ℕ) (log : List LogEntry) → ArePossibleTurns setting block log → TurnsAreBelow 2 (events log)

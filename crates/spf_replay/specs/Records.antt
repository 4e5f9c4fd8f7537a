-- What the code records of attempts.
use Rattle.std.specs.Prelude.{◌≡◌, ℕ, Bool, false, List, [], length, map, take, ℤ}
use Rattle.std.specs.Global.{Vec}
use Rattle.spf_ast.specs.Event.{Event, word_at}
use Rattle.spf_region.specs.Cells.{in_spans}
use Rattle.spf_exec.specs.declared.block_run.BlockRun.{BlockRun}
use Rattle.spf_speculation_entry.specs.Entry.{Entry, IsEntry}
use Rattle.spf_replay_log.specs.declared.log.Event as logged
use Rattle.spf_replay.specs.declared.context.BlockContext.{BlockContext}
use Rattle.spf_replay.specs.declared.recording.Record.{Record}
use Rattle.spf_replay.specs.Contexts.{IsContextOf}
use Rattle.spf_replay.specs.Reading.{event_of}
use Rattle.spf_replay.specs.Recording.{Adds, IsRecordOf}
use Rattle.spf_replay.specs.Schedule.{attempt_events}

-- the first events of a room
abbrev pub first_events : (count : ℕ) → (room : Vec logged.Event) → List Event
first_events count room = map event_of (take count room.items)

-- an event was to be added to a record, which is the first events of a room, and may be full: the record before, the event, the record after
abbrev pub AddsTo : (room : Vec logged.Event) → (count : ℕ) → (full : Bool) → Event → (room : Vec logged.Event) → (count : ℕ) → (full : Bool) → Type 0
AddsTo room count full event later taken over = Adds event (length room.items) full (first_events count room) over (first_events taken later)

-- the events of a record
abbrev pub events_in : Record → List Event
events_in made = first_events made.count made.room

-- the record, with this much room, is of these events
abbrev pub Records : List Event → (room : ℕ) → Record → Type 0
Records events room made = IsRecordOf events room made.full (events_in made)

-- the record, with this much room, is of the block's attempt; of whichever entry it is a block
abbrev pub RecordsAttempt : BlockContext → BlockRun → (room : ℕ) → Record → Type 0
RecordsAttempt context block room made = (e : Entry) (n : ℕ) → IsEntry e → IsContextOf e n context block → Records (attempt_events e n block.value []) room made

-- the cells that aren't the block's keep their words; of whichever entry it is a block
abbrev pub KeepsOthers : BlockContext → BlockRun → (before after : List ℤ) → Type 0
KeepsOthers context block before after = (e : Entry) (n : ℕ) → IsEntry e → IsContextOf e n context block
    → (cell : ℕ) → in_spans context.spans.now cell ≡ false → word_at after cell ≡ word_at before cell

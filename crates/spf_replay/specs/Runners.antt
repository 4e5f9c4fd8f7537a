-- Blocks of a schedule, as the code keeps them: an attempt's first events are recorded, and taken piece by piece.
use Rattle.std.specs.Prelude.{◌≡◌, ◌≢◌, ◌≤◌, ◌<◌, ℕ, Bool, true, false, if◌then◌else◌, nat_le, List, [], ◌++◌, length, map, take, drop, slice_get, Option, Some, None, ℤ}
use Rattle.spf_ast.specs.Carried.{Carried}
use Rattle.spf_ast.specs.Event.{Event, word_at}
use Rattle.spf_speculation_entry.specs.Entry.{Entry, own, plain_blocks}
use Rattle.spf_replay.specs.declared.entered.EnteredConstruct.{EnteredConstruct}
use Rattle.spf_replay.specs.declared.runner.Runner.{Runner}
use Rattle.spf_replay.specs.declared.scratch.Scratch.{Scratch}
use Rattle.spf_replay.specs.Entered.{entry_of}
use Rattle.spf_replay.specs.Reading.{event_of}
use Rattle.spf_replay.specs.Schedule.{Status, Running, Filed, Situation, is_running, attempt_events, after_piece, front, rerun, after_filing}

-- how block n stands
abbrev pub status_of : Entry → ℕ → Runner → Status
status_of e n r = if r.running then Running r.attempt r.row (drop r.taken (attempt_events e n r.row [])) else Filed r.row r.ended

-- the events that are recorded
abbrev pub seen_by : Runner → List Event
seen_by r = map event_of (take r.count r.room.items)

-- of these events the first ones were seen; all of them, where the record isn't full
abbrev pub HasSeen : List Event → Bool → List Event → Type 0
HasSeen events true seen = (later : List Event) × (events ≡ seen ++ later)
HasSeen events false seen = events ≡ seen

-- the record is of the attempt of block n at the row, and no more is taken than it has
pub record IsRunner (e : Entry) (n : ℕ) (r : Runner) : Type 0 where
  pub inside : r.count ≤ length r.room.items
  pub taken : r.taken ≤ r.count
  pub seen : HasSeen (attempt_events e n r.row []) r.full (seen_by r)

-- the record has the next piece whole
abbrev pub HasPiece : Runner → Type 0
HasPiece r = r.full ≡ true → after_piece (drop r.taken (seen_by r)) ≢ None

-- how a block stands after its next piece, where this is what follows the turn: it runs on, or is stopped there, or has ended
abbrev pub next_status : (flag attempt : ℕ) → Carried → Option (List Event) → Status
next_status flag attempt row None = Filed row true
next_status flag attempt row (Some rest) = if nat_le attempt flag then Filed row false else Running attempt row rest

-- ---- records that grow

-- the cells of each block have their words of the entry
abbrev pub AreOwnWords : EnteredConstruct → List ℤ → Type 0
AreOwnWords c cells = (n cell : ℕ) → n < c.header.blocks → own (entry_of c) n cell ≡ true → word_at cells cell ≡ word_at c.cells.now cell

-- as many words as cells, and a frame of the program's size
pub record HasRoom (c : EnteredConstruct) (scratch : Scratch) : Type 0 where
  pub cells : length scratch.cells.items ≡ length c.cells.now
  pub work : length scratch.work ≡ length c.frame.now

-- there is room, and the cells of each block have their words of the entry
pub record IsScratch (c : EnteredConstruct) (scratch : Scratch) : Type 0 where
  pub room : HasRoom c scratch
  pub words : AreOwnWords c scratch.cells.items

-- a block with another one's record
abbrev pub with_record_of : Runner → Runner → Runner
with_record_of other r = record r { room = other.room; count = other.count; full = other.full }

-- ---- all blocks

-- this is block n of the situation
pub record IsBlockOf (e : Entry) (s : Situation) (n : ℕ) (r : Runner) : Type 0 where
  pub runner : IsRunner e n r
  pub status : status_of e n r ≡ s.status n
  pub flag : r.flag ≡ s.flag n

-- these are the blocks of the situation
pub record AreBlocksOf (e : Entry) (s : Situation) (runners : List Runner) : Type 0 where
  pub count : length runners ≡ e.header.blocks
  pub each : (n : ℕ) (r : Runner) → slice_get runners n ≡ Some r → IsBlockOf e s n r

-- where the front block runs again, its attempt has the events that it would have on the entry
abbrev pub RunsAgainOnEntry : Entry → Situation → Type 0
RunsAgainOnEntry e s = front e s.status < e.header.blocks
    → rerun e s.steps (front e s.status) (slice_get (plain_blocks e).values (front e s.status)) (s.status (front e s.status))
    ≡ rerun e [] (front e s.status) (slice_get (plain_blocks e).values (front e s.status)) (s.status (front e s.status))

-- what follows once block n has gone on: something only where its attempt is filed
abbrev pub after_going_on : Entry → ℕ → Situation → Situation
after_going_on e n s = if is_running (s.status n) then s else after_filing e s

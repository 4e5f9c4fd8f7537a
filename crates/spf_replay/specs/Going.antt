-- How the blocks of a schedule go on, as the code keeps them.
use Rattle.std.specs.Prelude.{◌≡◌, ◌<◌, ◌≤◌, ◌+◌, ◌==◌, ℕ, true, if◌then◌else◌, List, [], ◌∷◌, ◌++◌, length, map, drop, Option, Some, None, MatchOption}
use Rattle.std.specs.Global.{Vec}
use Rattle.spf_ast.specs.Carried.{Carried}
use Rattle.spf_ast.specs.Event.{Event}
use Rattle.spf_speculation_entry.specs.Entry.{Entry}
use Rattle.spf_speculation.specs.Steps.{Step, steps_of}
use Rattle.spf_replay_log.specs.declared.log.Event as logged_event
use Rattle.spf_replay_log.specs.declared.log.Step as logged
use Rattle.spf_replay.specs.declared.entered.EnteredConstruct.{EnteredConstruct}
use Rattle.spf_replay.specs.declared.filing.Front.{Front}
use Rattle.spf_replay.specs.declared.runner.Runner.{Runner}
use Rattle.spf_replay.specs.declared.schedule.Schedule.{Schedule}
use Rattle.spf_replay.specs.declared.schedule.ScheduleError.{ScheduleError}
use Rattle.spf_replay.specs.declared.schedule.ScheduleError.TheVariants.{TooManySteps}
use Rattle.spf_replay.specs.Entered.{entry_of, HasGuesses}
use Rattle.spf_replay.specs.Limits.{max_steps}
use Rattle.spf_replay.specs.Reading.{event_of}
use Rattle.spf_replay.specs.Runners.{status_of, next_status, IsBlockOf, AreBlocksOf, RunsAgainOnEntry, after_going_on}
use Rattle.spf_replay.specs.Schedule.{Status, Situation, is_turn, is_running, is_to_raise, rerun, attempt_events, piece, after_piece, beginning, running_blocks, IsScheduled}
use Rattle.spf_replay.specs.SeenSteps.{seen_steps}

-- ---- pieces

-- the events from an index on
abbrev pub events_from : List logged_event.Event → (from : ℕ) → List Event
events_from events from = map event_of (drop from events)

-- the next piece from an index on ends with a turn before this index; or there is no further turn
abbrev pub IsPieceEnd : List logged_event.Event → (from : ℕ) → (end : Option ℕ) → Type 0
IsPieceEnd events from end = MatchOption end (after_piece (events_from events from) ≡ None)
    (λ end. (from < end) × (end ≤ length events) × (after_piece (events_from events from) ≡ Some (events_from events end)))

-- the step is what a piece of a block makes of its first event: a turn ends the piece, and polls the number
abbrev pub BeginsPiece : (block number : ℕ) → Event → Step → Type 0
BeginsPiece block number event step = (rest : List Event)
    → steps_of block (piece number (event ∷ rest)) ≡ (if is_turn event then step ∷ [] else step ∷ steps_of block (piece number rest))

-- events were appended as steps of a block
abbrev pub Appends : (before : Vec logged.Step) → (block : ℕ) → List Event → (after : Vec logged.Step) → Type 0
Appends before block events after = seen_steps after.items ≡ seen_steps before.items ++ steps_of block events

-- with these events there would be more steps than the limit
abbrev pub PassesLimit : (limit : ℕ) → Vec logged.Step → List Event → Type 0
PassesLimit limit steps events = limit < length steps.items + length events

-- the next piece of these events is longer than this, whatever number its turn polls
abbrev pub PieceIsOver : (most : ℕ) → List Event → Type 0
PieceIsOver most events = (number : ℕ) → most < length (piece number events)

-- ---- a block goes on

-- the events of block n's attempt that are not taken yet
abbrev pub events_left : Entry → ℕ → Runner → List Event
events_left e n r = drop r.taken (attempt_events e n r.row [])

-- those up to the next turn, which polls the block's flag
abbrev pub next_piece : Entry → ℕ → Runner → List Event
next_piece e n r = piece r.flag (events_left e n r)

-- how block n stands after them
abbrev pub status_next : Entry → ℕ → Runner → Status
status_next e n r = next_status r.flag r.attempt r.row (after_piece (events_left e n r))

-- ---- what follows when an attempt is filed

-- how block n stands then: the front block runs again, at its real row, where its attempt was at another one
abbrev pub status_settled : Entry → ℕ → Front → Runner → Status
status_settled e n front r = if n == front.block then rerun e [] n front.real (status_of e n r) else status_of e n r

-- what block n's turns poll then: 1 where its attempt is useless
abbrev pub flag_settled : Entry → ℕ → Front → Runner → ℕ
flag_settled e n front r = if is_to_raise front.block n front.real (status_of e n r) then 1 else r.flag

-- the blocks were those of a situation, whichever it was, and became those of what follows it
abbrev pub Become : EnteredConstruct → (Situation → Situation) → (before after : List Runner) → Type 0
Become c next before after = (s : Situation) → AreBlocksOf (entry_of c) s before → RunsAgainOnEntry (entry_of c) s → AreBlocksOf (entry_of c) (next s) after

-- these are the blocks that run, in ascending order
abbrev pub AreRunningIn : Entry → Situation → List ℕ → Type 0
AreRunningIn e s running = running ≡ running_blocks s.status e.header.blocks

-- these blocks run once block n has gone on; where it runs on, they ran before it
abbrev pub RunningBecome : EnteredConstruct → ℕ → List Runner → (before after : List ℕ) → Type 0
RunningBecome c n runners before after = (s : Situation) → AreBlocksOf (entry_of c) s runners → RunsAgainOnEntry (entry_of c) s
    → (is_running (s.status n) ≡ true → AreRunningIn (entry_of c) s before) → AreRunningIn (entry_of c) (after_going_on (entry_of c) n s) after

-- ---- schedules

-- this is block n where the construct's schedule begins, from any state
abbrev pub IsFirst : EnteredConstruct → ℕ → Runner → Type 0
IsFirst c n r = (guess : ℕ → Carried) (state : ℕ) → HasGuesses c guess → IsBlockOf (entry_of c) (beginning (entry_of c) guess state) n r

-- these are all its blocks there
abbrev pub AreFirst : EnteredConstruct → List Runner → Type 0
AreFirst c runners = (guess : ℕ → Carried) (state : ℕ) → HasGuesses c guess → AreBlocksOf (entry_of c) (beginning (entry_of c) guess state) runners

-- this is the construct's schedule from a state of the generator, and the state in which it leaves it
abbrev pub IsScheduleOf : EnteredConstruct → (ℕ → Carried) → (state : ℕ) → Schedule → Type 0
IsScheduleOf c guess state made = IsScheduled (entry_of c) guess state (seen_steps made.steps.items) made.state

-- where the reason is too many steps, the construct's schedule has more than may follow the counted ones
abbrev pub SaysTooMany : EnteredConstruct → (ℕ → Carried) → (state counted : ℕ) → ScheduleError → Type 0
SaysTooMany c guess state counted why =
    why ≡ TooManySteps → (steps : List Step) (last : ℕ) → IsScheduled (entry_of c) guess state steps last → max_steps < counted + length steps

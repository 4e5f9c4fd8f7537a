-- The schedule of a construct: a generator picks which block goes on, and a block goes on to its next turn or to its end.
use Rattle.std.specs.Prelude.{◌≡◌, ◌<◌, ℕ, zero, suc, ◌%◌, ◌+◌, ◌==◌, ◌&&◌, nat_le, not, Bool, true, false, if◌then◌else◌, List, [], ◌∷◌, ◌++◌, slice_get, Option, Some, None}
use Rattle.spf_apps_formats.specs.Draws.{next_state, given_by}
use Rattle.spf_ast.specs.Carried.{Carried, same_carried}
use Rattle.spf_ast.specs.Event.{Event, Load, Store, Turn, after}
use Rattle.spf_ast.specs.Plain.{plain_events}
use Rattle.spf_speculation_entry.specs.Entry.{Entry, own, asks_at, plain_blocks, begins_at}
use Rattle.spf_speculation_entry.specs.Attempts.{on_cells}
use Rattle.spf_speculation.specs.Steps.{Step, log_of, steps_of}

-- ---- the events of an attempt

-- the events of block n's attempt at a row, as they are if nothing stops it, with a 0 at each turn; its cells are as its events so far left them
abbrev pub attempt_events : Entry → ℕ → Carried → List Event → List Event
attempt_events e n row so_far = on_cells (own e n) (plain_events (asks_at e n row) (after so_far e.memory))

-- the events up to and including the next turn, which polls this number
abbrev pub piece : ℕ → List Event → List Event
piece number [] = []
piece number (Load cell word ∷ events) = Load cell word ∷ piece number events
piece number (Store cell word ∷ events) = Store cell word ∷ piece number events
piece number (Turn other ∷ events) = Turn number ∷ []

-- the events after the next turn, where there is one
abbrev pub after_piece : List Event → Option (List Event)
after_piece [] = None
after_piece (Load cell word ∷ events) = after_piece events
after_piece (Store cell word ∷ events) = after_piece events
after_piece (Turn other ∷ events) = Some events

-- an event is a turn
abbrev pub is_turn : Event → Bool
is_turn (Load cell word) = false
is_turn (Store cell word) = false
is_turn (Turn number) = true

-- ---- blocks

-- a block runs an attempt at a row, of which these events are left; or its attempt at a row is filed, which ended or was stopped
pub data Status : Type 0 where
  Running : (attempt : ℕ) → (row : Carried) → (left : List Event) → Status
  Filed : (row : Carried) → (ended : Bool) → Status

-- each block's status and flag, the steps so far, and the state of the generator
pub record Situation : Type 0 where
  pub status : ℕ → Status
  pub flag : ℕ → ℕ
  pub steps : List Step
  pub state : ℕ

abbrev pub is_running : Status → Bool
is_running (Running attempt row left) = true
is_running (Filed row ended) = false

-- the block's attempt at its real row has ended
abbrev pub is_valid : Option Carried → Status → Bool
is_valid None status = false
is_valid (Some real) (Running attempt row left) = false
is_valid (Some real) (Filed row ended) = ended && same_carried row real

-- that of block n, in the plain run
abbrev pub is_valid_in : Entry → (ℕ → Status) → ℕ → Bool
is_valid_in e status n = is_valid (slice_get (plain_blocks e).values n) (status n)

-- how many of `count` numbers from n on pass a test, up to the first that doesn't
abbrev pub leading : (ℕ → Bool) → (n count : ℕ) → ℕ
leading test n zero = 0
leading test n (suc count) = if test n then suc (leading test (suc n) count) else 0

-- the front block: the first that isn't valid
abbrev pub front : Entry → (ℕ → Status) → ℕ
front e status = leading (is_valid_in e status) 0 e.header.blocks

-- ---- what follows when an attempt is filed

-- an attempt of block n at a row is useless: the front block has no real row; or it is block n, with another real row
abbrev pub is_useless : ℕ → ℕ → Carried → Option Carried → Bool
is_useless front n row None = true
is_useless front n row (Some real) = (n == front) && not (same_carried row real)

-- the block runs its first attempt, and it is useless
abbrev pub is_to_raise : ℕ → ℕ → Option Carried → Status → Bool
is_to_raise front n real (Filed row ended) = false
is_to_raise front n real (Running attempt row left) = (attempt == 1) && is_useless front n row real

-- the flags of useless attempts become 1
abbrev pub flag_after : Entry → Situation → ℕ → ℕ
flag_after e s n = if is_to_raise (front e s.status) n (slice_get (plain_blocks e).values (front e s.status)) (s.status n) then 1 else s.flag n

-- a block whose attempt was filed at another row than its real one runs again, at the real one
abbrev pub rerun : Entry → List Step → ℕ → Option Carried → Status → Status
rerun e steps n None status = status
rerun e steps n (Some real) (Running attempt row left) = Running attempt row left
rerun e steps n (Some real) (Filed row ended) =
    if same_carried row real then Filed row ended else Running 2 real (attempt_events e n real (log_of n steps))

-- this is for the front block alone
abbrev pub status_after : Entry → Situation → ℕ → Status
status_after e s n = if n == front e s.status then rerun e s.steps n (slice_get (plain_blocks e).values n) (s.status n) else s.status n

-- the situation after an attempt was filed
abbrev pub after_filing : Entry → Situation → Situation
after_filing e s = record s { status = status_after e s; flag = flag_after e s }

-- ---- a block goes on

-- a function with another value for one number
abbrev pub replace_at : {A : Type 0} → ℕ → A → (ℕ → A) → ℕ → A
replace_at n x f k = if k == n then x else f k

-- a block has reached a turn, before these events: its attempt is filed where the flag stops it; or it has reached its end, and is filed
abbrev pub arrive : Entry → ℕ → ℕ → Carried → Option (List Event) → Situation → Situation
arrive e n attempt row None s = after_filing e (record s { status = replace_at n (Filed row true) s.status })
arrive e n attempt row (Some rest) s =
    if nat_le attempt (s.flag n) then after_filing e (record s { status = replace_at n (Filed row false) s.status })
    else record s { status = replace_at n (Running attempt row rest) s.status }

-- a block that runs performs its next events; a turn polls its flag
abbrev pub advance : Entry → ℕ → Status → Situation → Situation
advance e n (Filed row ended) s = s
advance e n (Running attempt row left) s =
    arrive e n attempt row (after_piece left) (record s { steps = s.steps ++ steps_of n (piece (s.flag n) left) })

-- ---- the schedule

-- how many of the blocks below block n run
abbrev pub running_below : (ℕ → Status) → ℕ → ℕ
running_below status zero = 0
running_below status (suc n) = (if is_running (status n) then 1 else 0) + running_below status n

-- the next draw picks block n: among the blocks that run, its index is the draw modulo their number
pub record IsPicked (e : Entry) (s : Situation) (n : ℕ) : Type 0 where
  pub inside : n < e.header.blocks
  pub running : is_running (s.status n) ≡ true
  pub before : running_below s.status n ≡ given_by (next_state s.state) % running_below s.status e.header.blocks

-- from this situation on the schedule has these steps, and leaves the generator in this state
pub data RunsTo (e : Entry) : Situation → List Step → ℕ → Type 0 where
  none_running : {s : Situation} → running_below s.status e.header.blocks ≡ 0 → RunsTo e s s.steps s.state
  one_more : {s : Situation} {steps : List Step} {last : ℕ} (n : ℕ) → IsPicked e s n
      → RunsTo e (advance e n (s.status n) (record s { state = next_state s.state })) steps last → RunsTo e s steps last

-- all blocks run their first attempts, and no flag is raised
abbrev pub beginning : Entry → (ℕ → Carried) → ℕ → Situation
beginning e guess state = record {
  status = λ n. Running 1 (begins_at e guess n) (attempt_events e n (begins_at e guess n) []);
  flag = λ n. 0;
  steps = [];
  state = state;
}

-- these are the steps of the construct's schedule, which begins in this state of the generator and leaves it in the last one
abbrev pub IsScheduled : Entry → (ℕ → Carried) → ℕ → List Step → ℕ → Type 0
IsScheduled e guess state steps last = RunsTo e (beginning e guess state) steps last

-- the running blocks among the first ones, in ascending order
abbrev pub running_blocks : (ℕ → Status) → ℕ → List ℕ
running_blocks status zero = []
running_blocks status (suc n) = running_blocks status n ++ (if is_running (status n) then n ∷ [] else [])

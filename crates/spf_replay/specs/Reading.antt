-- A memory that is read from a log.
use Rattle.std.specs.Prelude.{◌≡◌, ℕ, Bool, if◌then◌else◌, MatchBool, ◌==◌, ◌&&◌, List, [], ◌∷◌, map, drop, Option, Some, None, MatchOption, ℤ}
use Rattle.std.specs.Ordering.{int_eq}
use Rattle.spf_ast.specs.Event.{Event, Load, Store, Turn, word_at}
use Rattle.spf_region.specs.declared.span.Span.{Span}
use Rattle.spf_region.specs.Cells.{in_spans}
use Rattle.spf_replay_log.specs.declared.log.Event as logged
use Rattle.spf_replay_log.specs.declared.log.Event.TheVariants as entry

-- the event that an entry of a log stands for
abbrev pub event_of : logged.Event → Event
event_of (entry.Load cell word) = Load cell word
event_of (entry.Store cell word) = Store cell word
event_of (entry.Turn number) = Turn number

-- ---- what stands next

-- the word that the next event gave, which is a load of this cell, and the events after it
abbrev pub next_load : ℕ → List Event → Option (ℤ × List Event)
next_load cell [] = None
next_load cell (Load at word ∷ rest) = if cell == at then Some (word, rest) else None
next_load cell (Store at word ∷ rest) = None
next_load cell (Turn number ∷ rest) = None

-- the events after the next one, which is a store of this word to this cell
abbrev pub next_store : ℕ → ℤ → List Event → Option (List Event)
next_store cell stored [] = None
next_store cell stored (Load at word ∷ rest) = None
next_store cell stored (Store at word ∷ rest) = if (cell == at) && int_eq stored word then Some rest else None
next_store cell stored (Turn number ∷ rest) = None

-- the number that the next event polled, which is a turn, and the events after it
abbrev pub next_turn : List Event → Option (ℕ × List Event)
next_turn [] = None
next_turn (Load at word ∷ rest) = None
next_turn (Store at word ∷ rest) = None
next_turn (Turn number ∷ rest) = Some (number, rest)

-- ---- reading

-- A performance went on by these events, over shared cells and a memory that has the words of all others, where these
-- events were left of a log, and these are left now. It read from the log what it asked of the shared cells, and each
-- store and turn; where another event stood next, the log fits no longer, and what is answered from then on says
-- nothing.
abbrev pub Reads : (ℕ → Bool) → List ℤ → List Event → List Event → Option (List Event) → Type 0
Reads shared memory [] left now = now ≡ Some left
Reads shared memory (Load cell word ∷ events) left now =
    MatchBool (shared cell)
    (MatchOption (next_load cell left) (now ≡ None) (λ next. (word ≡ next.0) × Reads shared memory events next.1 now))
    ((word ≡ word_at memory cell) × Reads shared memory events left now)
Reads shared memory (Store cell word ∷ events) left now =
    MatchOption (next_store cell word left) (now ≡ None) (λ rest. Reads shared memory events rest now)
Reads shared memory (Turn number ∷ events) left now =
    MatchOption (next_turn left) (now ≡ None) (λ next. (number ≡ next.0) × Reads shared memory events next.1 now)

-- the same from a log that may not fit any more
abbrev pub ReadsOn : (ℕ → Bool) → List ℤ → List Event → Option (List Event) → Option (List Event) → Type 0
ReadsOn shared memory events None now = now ≡ None
ReadsOn shared memory events (Some left) now = Reads shared memory events left now

-- ---- states

-- what is left of a log from an index on, as long as it fits
abbrev pub left_at : List logged.Event → ℕ → Bool → Option (List Event)
left_at log at fits = if fits then Some (map event_of (drop at log)) else None

-- the cells that are read from the log, the words of all others, the number of the attempt, the log, the index of its
-- next event, and whether it has fitted so far
pub record InLog : Type 0 where
  pub spans : List Span
  pub entry : List ℤ
  pub attempt : ℕ
  pub log : List logged.Event
  pub at : ℕ
  pub fits : Bool

abbrev pub in_log : List Span → List ℤ → ℕ → List logged.Event → ℕ → Bool → InLog
in_log spans entry attempt log at fits = record { spans = spans; entry = entry; attempt = attempt; log = log; at = at; fits = fits }

-- what is left of the log in a state
abbrev pub left_of : InLog → Option (List Event)
left_of a = left_at a.log a.at a.fits

-- these events lead from the first state to the second
pub record LeadsInLog (events : List Event) (a b : InLog) : Type 0 where
  pub spans : b.spans ≡ a.spans
  pub entry : b.entry ≡ a.entry
  pub attempt : b.attempt ≡ a.attempt
  pub log : b.log ≡ a.log
  pub read : ReadsOn (in_spans a.spans) a.entry events (left_of a) (left_of b)

-- ---- the front of a log

-- a list whose first element is this event, where there is one
abbrev pub with_front : Option logged.Event → List Event → List Event
with_front None rest = []
with_front (Some event) rest = event_of event ∷ rest

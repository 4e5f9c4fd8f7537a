-- A memory that records what is done to some of its cells.
use Rattle.std.specs.Prelude.{◌≡◌, ℕ, Bool, true, false, List, [], ◌∷◌, ◌++◌, length, map, take, MatchBool, ℤ}
use Rattle.spf_ast.specs.Event.{Event, Load, Store, Turn, word_at, after, IsConsistent, IsUnpolled}
use Rattle.spf_region.specs.declared.span.Span.{Span}
use Rattle.spf_region.specs.Cells.{in_spans}
use Rattle.spf_ast.specs.Interaction.{Interaction, Performed, Ended}
use Rattle.spf_ast.specs.Plain.{plain_events, plain_answer}
use Rattle.spf_speculation_entry.specs.Attempts.{on_cells}
use Rattle.spf_replay_log.specs.declared.log.Event as logged
use Rattle.spf_replay.specs.Reading.{event_of}

-- the cells whose loads are recorded, their words, the words of all other cells, the record's room, how much of it is taken, and whether an event had no room
pub record InRecord : Type 0 where
  pub spans : List Span
  pub cells : List ℤ
  pub entry : List ℤ
  pub room : List logged.Event
  pub count : ℕ
  pub full : Bool

abbrev pub in_record : List Span → List ℤ → List ℤ → List logged.Event → ℕ → Bool → InRecord
in_record spans cells entry room count full = record { spans = spans; cells = cells; entry = entry; room = room; count = count; full = full }

-- the memory that is seen: it has the words of the cells whose loads are recorded, and those of the entry elsewhere
pub record Shows (a : InRecord) (memory : List ℤ) : Type 0 where
  pub size : length a.cells ≡ length memory
  pub inside : (cell : ℕ) → in_spans a.spans cell ≡ true → word_at a.cells cell ≡ word_at memory cell
  pub outside : (cell : ℕ) → in_spans a.spans cell ≡ false → word_at a.entry cell ≡ word_at memory cell

-- each store is of one of these cells
abbrev pub StoresWithin : (ℕ → Bool) → List Event → Type 0
StoresWithin cells [] = Unit {0}
StoresWithin cells (Load cell word ∷ events) = StoresWithin cells events
StoresWithin cells (Store cell word ∷ events) = (cells cell ≡ true) × StoresWithin cells events
StoresWithin cells (Turn number ∷ events) = StoresWithin cells events

-- what is recorded
abbrev pub recorded : InRecord → List Event
recorded a = map event_of (take a.count a.room)

-- an event is one that is recorded: a load of one of these cells, a store or a turn
abbrev pub IsRecorded : (ℕ → Bool) → Event → Type 0
IsRecorded cells (Load cell word) = cells cell ≡ true
IsRecorded cells (Store cell word) = Unit {0}
IsRecorded cells (Turn number) = Unit {0}

-- the record of these events had no room for one of them, and has all before it, of which no turn was polled
pub record FillsAt (cells : ℕ → Bool) (room : ℕ) (seen : List Event) (events : List Event) (now : List Event) : Type 0 where
  pub before : List Event
  pub event : Event
  pub later : List Event
  pub split : events ≡ before ++ event ∷ later
  pub all : now ≡ seen ++ on_cells cells before
  pub unpolled : IsUnpolled before
  pub is : IsRecorded cells event
  pub size : length now ≡ room

-- all of these events are recorded, and no turn of them was polled
pub record RecordsAll (cells : ℕ → Bool) (seen : List Event) (events : List Event) (now : List Event) : Type 0 where
  pub all : now ≡ seen ++ on_cells cells events
  pub unpolled : IsUnpolled events

-- these events lead from the first state to the second; where they store only cells whose loads are recorded, they are consistent with the memory that is seen, and change it to what is seen afterwards
pub record LeadsInRecord (events : List Event) (a b : InRecord) : Type 0 where
  pub spans : b.spans ≡ a.spans
  pub entry : b.entry ≡ a.entry
  pub room : length b.room ≡ length a.room
  pub size : length b.cells ≡ length a.cells
  pub kept : (cell : ℕ) → in_spans a.spans cell ≡ false → StoresWithin (in_spans a.spans) events → word_at b.cells cell ≡ word_at a.cells cell
  pub made : (memory : List ℤ) → StoresWithin (in_spans a.spans) events → Shows a memory → Shows b (after events memory) × IsConsistent events memory
  pub record_is : MatchBool a.full ((b.full ≡ true) × (recorded b ≡ recorded a))
      (MatchBool b.full (FillsAt (in_spans a.spans) (length a.room) (recorded a) events (recorded b)) (RecordsAll (in_spans a.spans) (recorded a) events (recorded b)))

-- an event was to be added to a record of this room: one that was full stays as it was, and so does one that becomes
-- full; otherwise the event is its last
abbrev pub Adds : Event → ℕ → Bool → List Event → Bool → List Event → Type 0
Adds event room true seen full now = (full ≡ true) × (now ≡ seen)
Adds event room false seen true now = (now ≡ seen) × (length now ≡ room)
Adds event room false seen false now = now ≡ seen ++ event ∷ []

-- ---- what a record is to the events of a tree

-- these events are the front of a tree's events on a memory, before another one of this kind
pub record IsFrontOf {A : Type 0} (cells : ℕ → Bool) (tree : Interaction A) (memory : List ℤ) (events : List Event) : Type 0 where
  pub next : Event
  pub later : List Event
  pub split : plain_events tree memory ≡ events ++ next ∷ later
  pub is : IsRecorded cells next

-- these events are a tree's events on a memory, which led to this answer
pub record AreEventsOf {A : Type 0} (tree : Interaction A) (memory : List ℤ) (events : List Event) (came : Performed A) : Type 0 where
  pub answer_is : came ≡ Ended (plain_answer tree memory) []
  pub events_are : events ≡ plain_events tree memory

-- A record with this much room, full or not, has seen these events of an attempt: the first of them, up to one that had no room; or all.
abbrev pub IsRecordOf : List Event → ℕ → Bool → List Event → Type 0
IsRecordOf events room true seen = (length seen ≡ room) × ((next : Event) × (later : List Event) × (events ≡ seen ++ next ∷ later))
IsRecordOf events room false seen = seen ≡ events

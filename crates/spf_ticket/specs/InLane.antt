-- What a list of events does to a lane beside an entry.
use Rattle.std.specs.Prelude.{◌≡◌, ℕ, Bool, if◌then◌else◌, List, [], ◌∷◌, ◌++◌, ℤ}
use Rattle.spf_ast.specs.Event.{Event, Load, Store, Turn}
use Rattle.spf_region.specs.Cells.{in_spans}
use Rattle.spf_cells.specs.Log.{events}
use Rattle.spf_cells.specs.Values.{LaneValue, IsSameLane, spans_of}
use Rattle.spf_speculation_entry.specs.Attempts.{OthersAreOf}

-- the events without the loads and stores of other cells than these
abbrev pub own_events : (ℕ → Bool) → List Event → List Event
own_events cells [] = []
own_events cells (Load cell word ∷ events) = if cells cell then Load cell word ∷ own_events cells events else own_events cells events
own_events cells (Store cell word ∷ events) = if cells cell then Store cell word ∷ own_events cells events else own_events cells events
own_events cells (Turn number ∷ events) = Turn number ∷ own_events cells events

-- the cells of a lane's spans
abbrev pub is_in : LaneValue → ℕ → Bool
is_in lane cell = in_spans (spans_of lane) cell

-- a lane, the entry's words for all cells that aren't in its spans, and the number of the attempt
pub record InLane : Type 0 where
  pub lane : LaneValue
  pub entry : List ℤ
  pub attempt : ℕ

abbrev pub in_lane : LaneValue → List ℤ → ℕ → InLane
in_lane lane entry attempt = record { lane = lane; entry = entry; attempt = attempt }

-- These events lead from the first to the second: the lane logged those of its own cells, and the turns; a load of
-- another cell gave the entry's word, and a store to another cell changed nothing.
pub record LeadsInLane (es : List Event) (a b : InLane) : Type 0 where
  pub entry : b.entry ≡ a.entry
  pub attempt : b.attempt ≡ a.attempt
  pub lane : IsSameLane a.lane b.lane
  pub logged : events b.lane.log ≡ events a.lane.log ++ own_events (is_in a.lane) es
  pub others : OthersAreOf a.entry (is_in a.lane) es

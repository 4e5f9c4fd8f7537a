-- What a lane's type shows and keeps.
use Rattle.std.specs.Prelude.{◌≡◌, ℕ, ◌+◌, ◌^◌, ◌<◌, [], length}
use Rattle.spf_cells.specs.declared.view.Setting.{Setting}
use Rattle.spf_cells.specs.declared.lane.Lane.TheInside.{Inside}
use Rattle.spf_cells.specs.Log.{IsLogOf}
use Rattle.spf_cells.specs.Spans.{cells_with_blocks, cells_of, Covers}
use Rattle.spf_cells.specs.Rule.{blocks, lane_view, log_of}
use Rattle.spf_cells.specs.Segments.{AreSegmentsOf, IsOneOf, IsSearchable, first_word}
use Rattle.spf_cells.specs.Values.{LaneValue, spans_of}

-- the setting that a lane's view has
abbrev pub setting_of : Inside → Setting
setting_of a = a.seat.me.0.setting

-- what contracts see of a lane
abbrev pub lane_value : Inside → LaneValue
lane_value a = record { table = a.seat.table_id; setting = setting_of a; block = a.block; log = log_of a.seat.me.0.role }

-- what every lane keeps
pub record IsLane (a : Inside) : Type 0 where
  -- its seat has the view of a lane of its block
  pub seat : a.seat.me ≡ (lane_view (setting_of a) a.block (log_of a.seat.me.0.role), [])
  -- its block is in the plan, and the table has a word for each flag and cell, so few that their numbers can be added
  pub block : a.block < blocks (setting_of a)
  pub words : a.seat.table_id.words ≡ blocks (setting_of a) + length (cells_with_blocks (setting_of a).plan)
  pub small : a.seat.table_id.words < 2 ^ 63
  -- its segments hold the cells of its block's spans, in the words after those of the blocks before, and can be searched
  pub segments : AreSegmentsOf a.segments.items (cells_of (spans_of (lane_value a))) (first_word (setting_of a) a.block)
  pub order : IsSearchable a.segments.items
  -- the one that is tried first is one of them
  pub first : IsOneOf a.first a.segments.items
  -- its cells lie in the entry
  pub inside : (c : ℕ) → Covers (spans_of (lane_value a)) c → c < length (setting_of a).entry
  -- each load of its log gave its own content, and each turn a possible flag
  pub log : IsLogOf (setting_of a) a.block (log_of a.seat.me.0.role)

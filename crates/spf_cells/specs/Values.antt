-- What contracts see of cells, lanes and wardens.
use Rattle.std.specs.Prelude.{◌≡◌, ℕ, ◌+◌, length, List, [], ◌∷◌, ◌++◌, slice_index, slice_index_or, slice_set, max, ℤ}
use Rattle.atomic_table.specs.Seated.{TableId}
use Rattle.spf_region.specs.declared.span.Span.{Span}
use Rattle.spf_cells.specs.declared.view.Setting.{Setting}
use Rattle.spf_cells.specs.declared.view.LogEntry.{LogEntry}
use Rattle.spf_cells.specs.declared.view.WardenView.{WardenView}
use mathlib.Core.Option.{some}
use lib.ListN.{get_elem?}
use Rattle.spf_cells.specs.Log.{content}
use Rattle.spf_cells.specs.Spans.{cells_with_blocks}

-- what contracts see of a lane: its table, its setting, its block, and its log
pub record LaneValue : Type 0 where
  pub table : TableId
  pub setting : Setting
  pub block : ℕ
  pub log : List LogEntry

-- the spans of a lane's block
abbrev pub spans_of : LaneValue → List Span
spans_of l = slice_index_or l.setting.plan l.block []

-- the lane's content of a cell: that of the entry with the log's stores made
abbrev pub content_at : LaneValue → ℕ → ℤ
content_at l c = content l.setting l.log c

-- word n of the table is that of the lane's cell c
abbrev pub IsWordOf : LaneValue → ℕ → ℕ → Type 0
IsWordOf l c n = (i : ℕ) × (n ≡ length l.setting.plan + i) × (get_elem? (cells_with_blocks l.setting.plan) i ≡ some (l.block, c))

-- the lane with one more event in its log
abbrev pub logged : LaneValue → LogEntry → LaneValue
logged l e = record l { log = l.log ++ e ∷ [] }

-- what contracts see of cells: their table and their setting
pub record CellsValue : Type 0 where
  pub table : TableId
  pub setting : Setting

-- what contracts see of a warden: its table, its setting, and its view, which has all flags and the lanes that it took over
pub record WardenValue : Type 0 where
  pub table : TableId
  pub setting : Setting
  pub view : WardenView

-- the warden with the flag of block b raised to x, if it was below; all other flags stay
abbrev pub with_flag : WardenValue → ℕ → ℕ → WardenValue
with_flag w b x = record w { view = record w.view { flags = slice_set w.view.flags b (max (slice_index w.view.flags b) x) } }

-- the warden with one more lane taken over
abbrev pub with_lane : WardenValue → LaneValue → WardenValue
with_lane w l = record w { view = record w.view { taken = w.view.taken ++ record { block = l.block; log = l.log } ∷ [] } }

-- the lane is of these cells
abbrev pub IsLaneOf : CellsValue → LaneValue → Type 0
IsLaneOf c l = (l.table ≡ c.table) × (l.setting ≡ c.setting)

-- the warden is of these cells
abbrev pub IsWardenOf : CellsValue → WardenValue → Type 0
IsWardenOf c w = (w.table ≡ c.table) × (w.setting ≡ c.setting)

-- the lane is the same one, perhaps with another log
abbrev pub IsSameLane : LaneValue → LaneValue → Type 0
IsSameLane old new = (new.table ≡ old.table) × (new.setting ≡ old.setting) × (new.block ≡ old.block)

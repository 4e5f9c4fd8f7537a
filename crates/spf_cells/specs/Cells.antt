-- What the type of cells shows and keeps.
use Rattle.std.specs.Prelude.{◌≡◌, ◌+◌, ◌^◌, ◌<◌, length}
use Rattle.spf_cells.specs.declared.cells.Cells.TheInside.{Inside}
use Rattle.spf_cells.specs.Spans.{cells_of_plan, IsDisjointWithin}
use Rattle.spf_cells.specs.Values.{CellsValue}

-- what contracts see of cells
abbrev pub cells_value : Inside → CellsValue
cells_value a = record { table = a.table.shared.table_id; setting = a.table.shared.key.value }

-- what all cells keep
pub record AreCells (c : CellsValue) : Type 0 where
  -- the spans of their plan are disjoint and inside the entry
  pub disjoint : IsDisjointWithin c.setting.plan (length c.setting.entry)
  -- their table has a word for each block's flag and for each cell of the plan, and so few that their numbers can be added
  pub words : c.table.words ≡ length c.setting.plan + length (cells_of_plan c.setting.plan)
  pub small : c.table.words < 2 ^ 63

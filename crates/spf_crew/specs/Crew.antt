-- What a crew's type shows and keeps.
use Rattle.std.specs.Prelude.{◌≡◌, ◌<◌}
use Rattle.spf_cells.specs.Values.{CellsValue}
use Rattle.spf_chain.specs.Sites.{IsGround}
use Rattle.spf_crew.specs.declared.crew.Crew.TheInside.{Inside}
use Rattle.spf_crew.specs.declared.view.CrewSetting.{CrewSetting}
use Rattle.spf_crew.specs.Values.{CrewValue}

-- what contracts see of a crew
abbrev pub crew_value : Inside → CrewValue
crew_value a = record { table = a.table.shared.table_id; setting = a.table.shared.key.value }

-- a crew has mates, and these are its cells, which were made for its site
pub record HasItsCells (k : CrewSetting) (cells : CellsValue) : Type 0 where
  pub mates : 0 < k.mates
  pub same : cells ≡ k.cells
  pub ground : IsGround k.site k.cells

-- what every crew keeps
abbrev pub IsCrew : Inside → Type 0
IsCrew a = HasItsCells a.table.shared.key.value a.cells

-- What a warden's type keeps.
use Rattle.std.specs.Prelude.{◌≡◌, ◌+◌, ◌^◌, ◌<◌, [], length}
use Rattle.spf_cells.specs.declared.view.WardenView.{WardenView}
use Rattle.spf_cells.specs.declared.view.Role.{Role}
use Rattle.spf_cells.specs.declared.view.Role.TheVariants.{Spent, Lane, Warden}
use Rattle.spf_cells.specs.declared.warden.Warden.TheInside.{Inside}
use Rattle.spf_cells.specs.Spans.{cells_with_blocks}
use Rattle.spf_cells.specs.Rule.{blocks, view_of}
use Rattle.spf_cells.specs.Values.{WardenValue}

-- what a seat knows as the warden
abbrev pub warden_of : Role → WardenView
warden_of (Warden p) = p
warden_of Spent = record { made = 0; flags = []; taken = [] }
warden_of (Lane b log) = record { made = 0; flags = []; taken = [] }

-- what contracts see of a warden
abbrev pub warden_value : Inside → WardenValue
warden_value a = record { table = a.seat.table_id; setting = a.seat.me.0.setting; view = warden_of a.seat.me.0.role }

-- what every warden keeps: its seat has the warden's view; the table has a word for each flag and cell, and so few that their numbers can be added
pub record IsWarden (a : Inside) : Type 0 where
  pub seat : a.seat.me ≡ (view_of a.seat.me.0.setting (Warden (warden_of a.seat.me.0.role)), [])
  pub words : a.seat.table_id.words ≡ blocks a.seat.me.0.setting + length (cells_with_blocks a.seat.me.0.setting.plan)
  pub small : a.seat.table_id.words < 2 ^ 63

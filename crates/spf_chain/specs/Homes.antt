-- The reports that came home.
use Rattle.std.specs.Prelude.{◌≡◌, ℕ, List, [], Option, Some, None, slice_get, if◌then◌else◌}
use Rattle.spf_ast.specs.Carried.{Carried, same_carried}
use Rattle.spf_ast.specs.Event.{Event, IsConsistent}
use Rattle.spf_exec.specs.declared.stop.Stop.{Stop}
use Rattle.spf_exec.specs.declared.stop.Stop.TheVariants as stop
use Rattle.spf_cells.specs.Log.{events, ArePossibleTurns}
use Rattle.spf_cells.specs.Values.{CellsValue}
use Rattle.spf_speculation_entry.specs.Entry.{Entry}
use Rattle.spf_ticket.specs.Tickets.{IsLawfulReport}
use Rattle.spf_ticket.specs.declared.ticket.Report.{Report}
use Rattle.spf_chain.specs.declared.block.Settled.{Settled}
use Rattle.spf_chain.specs.declared.block.Settled.TheVariants as settled

-- what an attempt came to: the next carried row, or its trap; one that was cancelled came to nothing
abbrev pub result_of : Stop → Option Settled
result_of (stop.Ended value) = Some (settled.Carried value)
result_of (stop.Trapped trap) = Some (settled.Trapped trap)
result_of (stop.Cancelled seen) = None

-- what a block came to at a row, where its report is home and its attempt was at this row
abbrev pub known_at : Carried → Option Report → Option Settled
known_at v None = None
known_at v (Some r) = if same_carried r.ticket.carried v then result_of r.stop else None

-- what a block came to at a row, where there is such a block and its report is home
abbrev pub known_in : Carried → Option (Option Report) → Option Settled
known_in v None = None
known_in v (Some home) = known_at v home

-- the log of a block's lane, where its report is home
abbrev pub home_log : Option (Option Report) → List Event
home_log None = []
home_log (Some None) = []
home_log (Some (Some r)) = events r.ticket.lane.log

abbrev pub log_in : List (Option Report) → ℕ → List Event
log_in homes n = home_log (slice_get homes n)

-- the report is a lawful one of block n; each load of its log gave the lane's own content, and a turn polled more than 0 only where the block is mispredicted
pub record IsHome (e : Entry) (guess : ℕ → Carried) (c : CellsValue) (n : ℕ) (r : Report) : Type 0 where
  pub lawful : IsLawfulReport e guess c r
  pub block : r.ticket.block ≡ n
  pub consistent : IsConsistent (events r.ticket.lane.log) e.memory
  pub turns : ArePossibleTurns c.setting n r.ticket.lane.log

-- so is each report that is home
abbrev pub AreHomes : Entry → (ℕ → Carried) → CellsValue → List (Option Report) → Type 0
AreHomes e guess c homes = (n : ℕ) (r : Report) → slice_get homes n ≡ Some (Some r) → IsHome e guess c n r

use Rattle.std.proofs.Common.{◌≡◌, ◌+◌, length, take}
use Rattle.spf_cells.specs.Spans.{cells_of_plan}
use Rattle.spf_cells.specs.Made.{spans_in, new_warden, new_lanes}
use Rattle.spf_cells.proofs.warden.Warden.hand_out_all.Given as goal

abbrev pub invariant-loop-block : goal.invariant-loop-block
invariant-loop-block l = record {
  warden : l.self ≡ new_warden l.cells l.block;
  lanes : l.lanes.items ≡ new_lanes l.cells 0 l.block;
  first : l.first ≡ length (spans_in l.plan) + length (cells_of_plan (take l.block (spans_in l.plan)));
}

use Rattle.std.proofs.Common.{◌≡◌, ◌++◌, map, length}
use Rattle.spf_cells.specs.Finish.{write_back_all, taken_as}
use Rattle.spf_cells.proofs.Finished.{KeepLogs}
use Rattle.spf_cells.proofs.cells.Cells.finish.Given as goal

abbrev pub invariant-loop-lane : goal.invariant-loop-lane
invariant-loop-lane l = record {
  can : (goal.iterator-loop-lane).can_next l.lane-iterator;
  ends : (goal.iterator-loop-lane).is_finite l.lane-iterator;
  left : l.initial.lane-iterator.rest.items ≡ l.yielded ++ l.lane-iterator.rest.items;
  len : l.lane-iterator.rest.len ≡ length l.lane-iterator.rest.items;
  table : l.warden.table ≡ l.initial.warden.table;
  setting : l.warden.setting ≡ l.initial.warden.setting;
  taken : l.warden.view.taken ≡ map taken_as l.yielded;
  logs : KeepLogs l.yielded;
  into : l.into ≡ write_back_all l.yielded l.fn.into;
}

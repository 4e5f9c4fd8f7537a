use Rattle.spf_cells.specs.Values.{IsSameLane}
use Rattle.spf_tests_runtime.proofs.cells.store_and_load.Given as goal

abbrev pub invariant-loop-cell : goal.invariant-loop-cell
invariant-loop-cell l = IsSameLane l.fn.lane l.lane

abbrev pub invariant-loop-cell-2 : goal.invariant-loop-cell-2
invariant-loop-cell-2 l = IsSameLane l.fn.lane l.lane

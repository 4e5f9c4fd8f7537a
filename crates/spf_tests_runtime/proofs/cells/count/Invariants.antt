use Rattle.spf_cells.specs.Values.{IsSameLane}
use Rattle.spf_tests_runtime.proofs.cells.count.Given as goal

abbrev pub invariant-loop-cell : goal.invariant-loop-cell
invariant-loop-cell l = IsSameLane l.fn.lane l.lane

abbrev pub invariant-loop : goal.invariant-loop
invariant-loop l = IsSameLane l.fn.lane l.lane

use Rattle.std.proofs.Common.{◌≡◌, drop}
use Rattle.spf_ast.specs.Carried.{same_carried}
use Rattle.spf_ast.proofs.row.are_same.Given as goal

-- the rows are equal where what is left of them is
abbrev pub invariant-loop-i : goal.invariant-loop-i
invariant-loop-i l = record {
  left : same_carried (drop l.i l.one) (drop l.i l.other) ≡ same_carried l.one l.other;
}

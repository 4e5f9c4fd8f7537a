use Rattle.std.proofs.Common.{◌≡◌, drop}
use Rattle.spf_ast.specs.Carried.{with_carried}
use Rattle.spf_ast.proofs.row.set_carried.Given as goal

-- with the words that are left, all are put
abbrev pub invariant-loop-i : goal.invariant-loop-i
invariant-loop-i l = record {
  left : with_carried (drop l.i l.carried) (drop l.i l.words) l.slots ≡ with_carried l.carried l.words l.initial.slots;
}

use Rattle.std.proofs.Common.{sym, subst}
use Rattle.spf_ast.specs.GoingOn.{IsOrderly}
use Rattle.spf_ast.specs.View.{program}
use Rattle.spf_tests_runtime.proofs.jobs.comes_right.Goals as goal

pub make-requires : goal.make-requires
make-requires g c = record {
  orderly = subst (λ p. IsOrderly (program p)) (sym c.program-program.ensures.program) (c.breaks_stay_in_their_loops.ensures.programs _ c.program-program.ensures.lawful);
}

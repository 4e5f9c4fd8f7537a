use Rattle.std.proofs.Common.{sym, subst}
use Rattle.std.specs.Prelude.{IfOk}
use Rattle.spf_ast.specs.ConstructView.{construct_on}
use Rattle.spf_code_lowering.specs.Lowering.{IsConstructCode, callees_in}
use Rattle.spf_code_lowering.proofs.program.construct_code.Goals as goal

pub returns-in-Fold : goal.returns-in-Fold
returns-in-Fold c = record {
  code = λ calls. subst (λ x. IfOk c.fold_code.result (λ k. IsConstructCode (callees_in c.args.scope.now) calls c.args.scope.now.own (construct_on c.args.construct.line x) k)) (sym c.in-Fold.is) (c.fold_code.ensures.code calls);
}

pub returns-in-Pair : goal.returns-in-Pair
returns-in-Pair c = record {
  code = λ calls. subst (λ x. IfOk c.pair_code.result (λ k. IsConstructCode (callees_in c.args.scope.now) calls c.args.scope.now.own (construct_on c.args.construct.line x) k)) (sym c.in-Pair.is) (c.pair_code.ensures.code calls);
}

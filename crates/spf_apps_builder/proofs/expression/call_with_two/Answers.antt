use Rattle.std.proofs.Common.{ap, ◌∙◌}
use Rattle.spf_ast.specs.Syntax.{Call, argument, no_more}
use Rattle.spf_ast.specs.View.{expression, arguments}
use Rattle.spf_ast.proofs.Views.{expression-call}
use Rattle.spf_apps_builder.proofs.expression.call_with_two.Goals as goal

pub returns : goal.returns
returns c = λ _ _ first second.
    let a = ap expression c.into_inner.ensures ∙ c.in_ok-first.ensures _ first in
    let b = ap expression c.into_inner-2.ensures ∙ c.in_ok-second.ensures _ second in
    expression-call c.args.function c.in_ok-given.given
    ∙ ap (λ es. Call c.args.function (arguments es)) c.in_ok-given.ensures.items
    ∙ (λ i. Call c.args.function (argument (a i) (argument (b i) no_more)))

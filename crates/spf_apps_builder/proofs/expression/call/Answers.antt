use Rattle.std.proofs.Common.{ap, ◌∙◌}
use Rattle.std.proofs.lemmas.Result.{IfOk-at_ok}
use Rattle.spf_ast.specs.Syntax.{Call, argument, no_more}
use Rattle.spf_ast.specs.View.{arguments}
use Rattle.spf_ast.proofs.Views.{expression-call}
use Rattle.spf_apps_builder.proofs.expression.call.Goals as goal

pub returns : goal.returns
returns c = λ _ given.
    expression-call c.args.function c.in_ok-vec.field-0
    ∙ ap (λ es. Call c.args.function (arguments es)) c.in_ok-vec.ensures.items
    ∙ ap (λ e. Call c.args.function (argument e no_more)) (IfOk-at_ok _ (c.in_ok-given.was {u = tt}) given)

use Rattle.std.proofs.Common.{◌∙◌}
use Rattle.std.proofs.lemmas.Result.{IfOk-at_ok}
use Rattle.spf_ast.specs.Syntax.{For}
use Rattle.spf_ast.proofs.Views.{statement-for}
use Rattle.spf_apps_builder.proofs.statement.count.Goals as goal

pub returns : goal.returns
returns c = λ _ _ _ low high body.
    let a = IfOk-at_ok _ (c.in_ok-low.was {u = tt}) low in
    let b = IfOk-at_ok _ (c.in_ok-high.was {u = tt}) high in
    let d = IfOk-at_ok _ (c.in_ok-body.was {u = tt}) body in
    statement-for c.args.slot c.in_ok-low.field-0 c.in_ok-high.field-0 c.in_ok-body.body
    ∙ (λ i. For c.args.slot (a i) (b i) (d i))

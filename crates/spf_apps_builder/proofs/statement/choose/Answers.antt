use Rattle.std.proofs.Common.{◌∙◌}
use Rattle.std.proofs.lemmas.Result.{IfOk-at_ok}
use Rattle.spf_ast.specs.Syntax.{If}
use Rattle.spf_ast.proofs.Views.{statement-if}
use Rattle.spf_apps_builder.proofs.statement.choose.Goals as goal

pub returns : goal.returns
returns c = λ _ _ _ test first second.
    let t = IfOk-at_ok _ (c.in_ok-test.was {u = tt}) test in
    let a = IfOk-at_ok _ (c.in_ok-first.was {u = tt}) first in
    let b = IfOk-at_ok _ (c.in_ok-second.was {u = tt}) second in
    statement-if c.in_ok-test.field-0 c.in_ok-first.first c.in_ok-second.second ∙ (λ i. If (t i) (a i) (b i))

use Rattle.std.proofs.Common.{ap, ◌∙◌}
use Rattle.std.proofs.lemmas.Result.{IfOk-at_ok}
use Rattle.spf_ast.specs.Syntax.{on_line}
use Rattle.spf_ast.specs.View.{block}
use Rattle.spf_apps_builder.proofs.statement.on_line.Goals as goal

pub returns : goal.returns
returns c = λ _ _ kind rest.
    let s = IfOk-at_ok _ (c.in_ok-kind.was {u = tt}) kind in
    let b = IfOk-at_ok _ (c.in_ok-block.was {u = tt}) rest in
    ap block c.in_ok-insert.ensures.items ∙ (λ i. on_line c.args.line (s i) (b i))

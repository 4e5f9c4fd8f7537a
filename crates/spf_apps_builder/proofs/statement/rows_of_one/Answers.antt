use Rattle.std.proofs.Common.{ap, ◌∙◌, map, [], ◌∷◌}
use Rattle.std.proofs.lemmas.Result.{IfOk-at_ok}
use Rattle.spf_ast.specs.Syntax.{By, argument, no_more}
use Rattle.spf_ast.specs.View.{arguments, predictor}
use Rattle.spf_apps_builder.proofs.statement.rows_of_one.Goals as goal

pub returns : goal.returns
returns c = λ _ guess.
    let a = IfOk-at_ok _ (c.in_ok-guess.was {u = tt}) guess in
    let start = ap arguments c.in_ok-start.ensures.items ∙ ap (λ e. argument e no_more) c.literal.ensures in
    let predict = ap (map predictor) c.in_ok-predict.ensures.items ∙ ap (λ e. By e ∷ []) a in
    let next = ap arguments c.in_ok-next.ensures.items in
    λ i. record { carried = c.in_ok-slots.ensures.items i; start = start i; predict = predict i; next = next i; next_line = c.args.carried.next_line }

use Rattle.std.proofs.Common.{ap, ◌∙◌, map}
use Rattle.std.proofs.lemmas.Result.{IfOk-at_ok}
use Rattle.spf_ast.specs.Syntax.{Fold}
use Rattle.spf_ast.specs.View.{expression, arguments, predictor, block}
use Rattle.spf_ast.specs.declared.syntax.Fold.{out-Fold, out-roll-Fold}
use Rattle.spf_ast.proofs.Views.{statement-fold}
use Rattle.spf_apps_builder.specs.Built.{head_of}
use Rattle.spf_apps_builder.proofs.statement.fold.Goals as goal

pub returns : goal.returns
returns c = λ _ _ _ rows count body.
    let made = ap out-Fold c.in_ok-new.ensures.ok ∙ out-roll-Fold _ in
    let r = IfOk-at_ok _ (c.in_ok-rows.was {u = tt}) rows in
    let a = IfOk-at_ok _ (c.in_ok-count.was {u = tt}) count in
    let b = IfOk-at_ok _ (c.in_ok-body.was {u = tt}) body in
    statement-fold c.in_ok-new.field-0
    ∙ (λ t. Fold (record { carried = (made t).carried.items; start = arguments (made t).start.items; block = (made t).block; low = expression (made t).low; high = expression (made t).high; predict = map predictor (made t).predict.items; next = arguments (made t).next.items; next_line = (made t).next_line }) (block (made t).body.items))
    ∙ (λ t. Fold (head_of (r t) c.args.slot (a t)) (b t))

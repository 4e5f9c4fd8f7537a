use Rattle.std.proofs.Common.{[], refl, ap, ◌∙◌}
use Rattle.std.proofs.lemmas.Result.{err_from_is_err_and}
use Rattle.spf_ast.specs.RawView.{raw_block}
use Rattle.spf_types_forms.proofs.Blocks.{scope_at_end-is}
use Rattle.spf_types_forms.proofs.Grown.{closed}
use Rattle.spf_types_forms.proofs.Steps.{behind, none_in}
use Rattle.spf_types_forms.proofs.statement.statements_and_number.Goals as goal

pub returns-clause-after : goal.returns-clause-after
returns-clause-after c =
    closed c.args.locals.now c.args.locals.now c.block.new.locals c.close.new.self [] (raw_block c.args.raw.now) c.count-count.result refl (c.in_ok-statements.ensures {u = tt}).after c.count-count.ensures c.close.ensures

pub returns-clause-answers : goal.returns-clause-answers
returns-clause-answers c =
    let b = c.in_ok-statements.ensures {u = tt} in
    let v = rw (b.after, scope_at_end-is) at (c.in_ok-value.ensures {u = tt}) in
    (none_in _ _ b.answers.0 v.0, λ i. (b.answers.1 i, v.1 i))

pub returns-in_err-value-clause-answers : goal.returns-in_err-value-clause-answers
returns-in_err-value-clause-answers c =
    let b = c.in_ok-statements.ensures {u = tt} in
    let p = err_from_is_err_and c.from_residual-in_err-value.result c.from_residual-in_err-value.ensures.1 in
    rw (p.1, p.2) (behind _ _ _ b.answers.0 (rw (b.after, scope_at_end-is) at (c.in_err-value.ensures {u = tt})))

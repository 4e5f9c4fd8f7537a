use Rattle.std.proofs.Common.{refl}
use Rattle.std.proofs.lemmas.Result.{err_from_is_err_and}
use Rattle.spf_text.specs.declared.token.TokenKind.TheVariants as kind
use Rattle.spf_text.specs.declared.token.Sign.TheVariants as sign
use Rattle.spf_parse_parts.specs.Answers.{value_before}
use Rattle.spf_parse_parts.proofs.Steps.{start, go0, halt0, go_rule0, halt_rule0}
use Rattle.spf_parse_parts.proofs.statement.emit_form.Goals as goal

pub returns-in_err-rest : goal.returns-in_err-rest
returns-in_err-rest c =
    let p = err_from_is_err_and c.from_residual.result c.from_residual.ensures.1 in
    rw (p.1, p.2) (halt0 c.in_err-rest.field-0.0 refl (λ x. refl)
    start
    c.in_err-rest.ensures)

pub returns-in_err-a : goal.returns-in_err-a
returns-in_err-a c =
    let l0 = go0 refl start c.in_ok-rest.ensures in
    let p = err_from_is_err_and c.from_residual-in_err-a.result c.from_residual-in_err-a.ensures.1 in
    rw (p.1, p.2) (halt_rule0 (value_before c.args.nesting (kind.Sign sign.Semicolon)) _ c.in_err-a.field-0.0 (λ x. refl)
    l0
    c.in_err-a.ensures)

pub returns : goal.returns
returns c =
    let l0 = go0 refl start c.in_ok-rest.ensures in
    let l1 = go_rule0 (value_before c.args.nesting (kind.Sign sign.Semicolon)) _ l0 c.in_ok-a.ensures in
    rw c.into_inner.ensures l1

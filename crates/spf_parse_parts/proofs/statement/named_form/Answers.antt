use Rattle.std.proofs.Common.{rules, refl, Some}
use Rattle.std.proofs.lemmas.Result.{err_from_is_err_and}
use Rattle.spf_text.specs.declared.token.TokenKind.TheVariants as kind
use Rattle.spf_text.specs.declared.token.Sign.TheVariants as sign
use Rattle.spf_ast.specs.View.{name as seen_name}
use Rattle.spf_parse_parts.proofs.Steps.{start, go0, halt0, decide, through}
use Rattle.spf_parse_parts.proofs.Statements.{neither}
use Rattle.spf_parse_parts.proofs.statement.named_form.Goals as goal

pub returns-in_err-x : goal.returns-in_err-x
returns-in_err-x c =
    let p = err_from_is_err_and c.from_residual.result c.from_residual.ensures.1 in
    rw (p.1, p.2) (halt0 c.in_err-x.field-0.0 refl (λ x. refl)
    start
    c.in_err-x.ensures)

pub returns-then-is_next : goal.returns-then-is_next
returns-then-is_next c =
    let b = go0 refl start c.in_ok-x.ensures in
    through _ _ c.store_form.result (decide (Some (kind.Sign sign.OpenBracket)) (c.is_next.ensures.0 c.if-is_next.true) _ b) c.store_form.ensures

pub returns-then-is_next-2 : goal.returns-then-is_next-2
returns-then-is_next-2 c =
    let b = go0 refl start c.in_ok-x.ensures in
    through _ _ c.call_form.result (decide (Some (kind.Sign sign.OpenParen)) (c.is_next-2.ensures.0 c.if-is_next-2.true) _ b) c.call_form.ensures

pub returns : goal.returns
returns c =
    let b = go0 refl start c.in_ok-x.ensures in
    through _ _ c.assign_form.result (neither c.args.nesting (seen_name c.in_ok-x.x) (λ h. absurd (search (rules, c.is_next.ensures.1 h))) (λ h. absurd (search (rules, c.is_next-2.ensures.1 h))) b) c.assign_form.ensures

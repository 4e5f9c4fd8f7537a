use Rattle.std.proofs.Common.{refl, rules, Some}
use Rattle.std.proofs.lemmas.Result.{err_from_is_err_and}
use Rattle.spf_text.specs.declared.token.TokenKind.TheVariants as kind
use Rattle.spf_text.specs.declared.token.Keyword.TheVariants as word
use Rattle.spf_parse_parts.proofs.Steps.{go0, halt0}
use Rattle.spf_parse_parts.proofs.Tokens.{length_fails}
use Rattle.spf_parse_parts.proofs.Statements.{form_none, break_begins}
use Rattle.spf_parse_parts.proofs.statement.break_form.Goals as goal

pub returns-then-not-breaks : goal.returns-then-not-breaks
returns-then-not-breaks c =
    length_fails c.args.tokens.now c.args.tokens.now (form_none c.args.breaks c.args.nesting _ (Some (kind.Keyword word.Break)) c.requires (search rules))

pub returns-in_err-rest : goal.returns-in_err-rest
returns-in_err-rest c =
    let p = err_from_is_err_and c.from_residual.result c.from_residual.ensures.1 in
    rw (p.1, p.2) (halt0 c.in_err-rest.field-0.0 refl (λ x. refl)
    (break_begins c.args.breaks c.args.nesting (search rules) c.requires)
    c.in_err-rest.ensures)

pub returns-in_err-end : goal.returns-in_err-end
returns-in_err-end c =
    let l0 = go0 refl (break_begins c.args.breaks c.args.nesting (search rules) c.requires) c.in_ok-rest.ensures in
    let p = err_from_is_err_and c.from_residual-in_err-end.result c.from_residual-in_err-end.ensures.1 in
    rw (p.1, p.2) (halt0 c.in_err-end.field-0.0 refl (λ x. refl)
    l0
    c.in_err-end.ensures)

pub returns : goal.returns
returns c =
    let l0 = go0 refl (break_begins c.args.breaks c.args.nesting (search rules) c.requires) c.in_ok-rest.ensures in
    go0 refl l0 c.in_ok-end.ensures

use Rattle.std.proofs.Common.{◌+◌, refl}
use Rattle.std.proofs.lemmas.Result.{err_from_is_err_and}
use Rattle.spf_text.specs.declared.token.TokenKind.TheVariants as kind
use Rattle.spf_text.specs.declared.token.Sign.TheVariants as sign
use Rattle.spf_parse_parts.specs.Answers.{value_before}
use Rattle.spf_parse_parts.proofs.Steps.{start, go0, halt0, go_rule0, halt_rule0}
use Rattle.spf_parse_grammar.specs.Lexemes.{lexemes}
use Rattle.spf_parse_parts.proofs.Tokens.{then_token, followed_by0}
use Rattle.spf_ast.specs.RawView.{raw_expression}
use Rattle.spf_parse_parts.proofs.statement.store_form.Goals as goal

pub returns-in_err-inner : goal.returns-in_err-inner
returns-in_err-inner c =
    let p = err_from_is_err_and c.from_residual.result c.from_residual.ensures.1 in
    rw (p.1, p.2) (halt0 c.in_err-inner.field-0.0 refl (λ x. refl)
    start
    c.in_err-inner.ensures.answers)

pub returns-in_err-index : goal.returns-in_err-index
returns-in_err-index c =
    let l0 = go0 refl start c.in_ok-inner.ensures.answers in
    let p = err_from_is_err_and c.from_residual-in_err-index.result c.from_residual-in_err-index.ensures.1 in
    rw (p.1, p.2) (halt_rule0 (then_token (value_before (c.args.nesting + 1) (kind.Sign sign.CloseBracket)) (kind.Sign sign.Assign)) _ c.in_err-index.field-0.0 (λ x. refl)
    l0
    (followed_by0 (value_before (c.args.nesting + 1) (kind.Sign sign.CloseBracket)) (lexemes c.in_ok-inner.inner.now) c.value.result _ (kind.Sign sign.Assign) (λ x. x.0) (λ e. raw_expression e.value) (λ x. lexemes x.1.now) c.in_err-index.ensures.refused c.in_err-index.ensures.kept c.in_err-index.ensures.token c.value.ensures))

pub returns-in_err-a : goal.returns-in_err-a
returns-in_err-a c =
    let l0 = go0 refl start c.in_ok-inner.ensures.answers in
    let l2 = go_rule0 (then_token (value_before (c.args.nesting + 1) (kind.Sign sign.CloseBracket)) (kind.Sign sign.Assign)) _ l0 (followed_by0 (value_before (c.args.nesting + 1) (kind.Sign sign.CloseBracket)) (lexemes c.in_ok-inner.inner.now) c.value.result _ (kind.Sign sign.Assign) (λ x. x.0) (λ e. raw_expression e.value) (λ x. lexemes x.1.now) c.in_ok-index.ensures.refused c.in_ok-index.ensures.kept c.in_ok-index.ensures.token c.value.ensures) in
    let p = err_from_is_err_and c.from_residual-in_err-a.result c.from_residual-in_err-a.ensures.1 in
    rw (p.1, p.2) (halt_rule0 (value_before c.args.nesting (kind.Sign sign.Semicolon)) _ c.in_err-a.field-0.0 (λ x. refl)
    l2
    c.in_err-a.ensures)

pub returns : goal.returns
returns c =
    let l0 = go0 refl start c.in_ok-inner.ensures.answers in
    let l2 = go_rule0 (then_token (value_before (c.args.nesting + 1) (kind.Sign sign.CloseBracket)) (kind.Sign sign.Assign)) _ l0 (followed_by0 (value_before (c.args.nesting + 1) (kind.Sign sign.CloseBracket)) (lexemes c.in_ok-inner.inner.now) c.value.result _ (kind.Sign sign.Assign) (λ x. x.0) (λ e. raw_expression e.value) (λ x. lexemes x.1.now) c.in_ok-index.ensures.refused c.in_ok-index.ensures.kept c.in_ok-index.ensures.token c.value.ensures) in
    let l3 = go_rule0 (value_before c.args.nesting (kind.Sign sign.Semicolon)) _ l2 c.in_ok-a.ensures in
    rw (c.into_inner.ensures, c.into_inner-2.ensures) l3

use Rattle.std.proofs.Common.{refl, map, ◌+◌}
use Rattle.std.proofs.lemmas.Result.{err_from_is_err_and}
use Rattle.spf_parse_parts.proofs.Steps.{start, go0, halt0, go_rule0, halt_rule0}
use Rattle.spf_text.specs.declared.token.TokenKind.TheVariants as kind
use Rattle.spf_text.specs.declared.token.Sign.TheVariants as sign
use Rattle.spf_parse_grammar.specs.Lexemes.{lexemes}
use Rattle.spf_parse_parts.proofs.Tokens.{then_token, followed_by0}
use Rattle.spf_ast.specs.RawView.{raw_expression}
use Rattle.spf_parse_grammar.specs.Parts.{arguments}
use Rattle.spf_parse_grammar.specs.Rules.{all}
use Rattle.spf_parse_parts.proofs.statement.call_form.Goals as goal

pub returns-in_err-inner : goal.returns-in_err-inner
returns-in_err-inner c =
    let p = err_from_is_err_and c.from_residual.result c.from_residual.ensures.1 in
    rw (p.1, p.2) (halt0 c.in_err-inner.field-0.0 refl (λ x. refl)
    start
    c.in_err-inner.ensures.answers)

pub returns-in_err-given : goal.returns-in_err-given
returns-in_err-given c =
    let l0 = go0 refl start c.in_ok-inner.ensures.answers in
    let p = err_from_is_err_and c.from_residual-in_err-given.result c.from_residual-in_err-given.ensures.1 in
    rw (p.1, p.2) (halt_rule0 (then_token (all (arguments (c.args.nesting + 1))) (kind.Sign sign.Semicolon)) _ c.in_err-given.field-0.0 (λ x. refl)
    l0
    (followed_by0 (all (arguments (c.args.nesting + 1))) (lexemes c.in_ok-inner.inner.now) c.arguments.result _ (kind.Sign sign.Semicolon) (λ x. x.0) (λ v. map raw_expression v.items) (λ x. lexemes x.1.now) c.in_err-given.ensures.refused c.in_err-given.ensures.kept c.in_err-given.ensures.token c.arguments.ensures))

pub returns : goal.returns
returns c =
    let l0 = go0 refl start c.in_ok-inner.ensures.answers in
    let l2 = go_rule0 (then_token (all (arguments (c.args.nesting + 1))) (kind.Sign sign.Semicolon)) _ l0 (followed_by0 (all (arguments (c.args.nesting + 1))) (lexemes c.in_ok-inner.inner.now) c.arguments.result _ (kind.Sign sign.Semicolon) (λ x. x.0) (λ v. map raw_expression v.items) (λ x. lexemes x.1.now) c.in_ok-given.ensures.refused c.in_ok-given.ensures.kept c.in_ok-given.ensures.token c.arguments.ensures) in
    l2

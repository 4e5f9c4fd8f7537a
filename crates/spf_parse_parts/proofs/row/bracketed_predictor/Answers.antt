use Rattle.std.proofs.Common.{refl}
use Rattle.std.proofs.lemmas.Result.{err_from_is_err_and}
use Rattle.spf_text.specs.declared.token.TokenKind.TheVariants as kind
use Rattle.spf_text.specs.declared.token.Sign.TheVariants as sign
use Rattle.spf_text.specs.declared.token.Keyword.TheVariants as word
use Rattle.spf_parse_grammar.specs.Lexemes.{lexemes}
use Rattle.spf_parse_grammar.specs.Parts.{count}
use Rattle.spf_parse_grammar.specs.Rules.{all}
use Rattle.spf_parse_parts.proofs.Steps.{follow, go0, go_rule0, halt_rule0}
use Rattle.spf_parse_parts.proofs.Tokens.{next_token, then_token, followed_by0}
use Rattle.spf_parse_parts.proofs.Rows.{host_start, no_host_start, refused}
use Rattle.spf_parse_parts.proofs.row.bracketed_predictor.Goals as goal

pub returns-in_err-n : goal.returns-in_err-n
returns-in_err-n c =
    let x = c.in-Some.ensures in
    let y = next_token c.args.tokens.now x.0 c.in-Some.rest.now x.2 (kind.Keyword word.Host) x.1 in
    let l = go0 refl (host_start c.args.nesting y.0) y.1 in
    let p = err_from_is_err_and c.from_residual.result c.from_residual.ensures.1 in
    rw (p.1, p.2) (halt_rule0 (then_token (all count) (kind.Sign sign.Comma)) _ c.in_err-n.field-0.0 (λ x. refl)
    l
    (followed_by0 (all count) (lexemes c.in-Some.rest.now) c.count.result _ (kind.Sign sign.Comma) (λ x. x.0) (λ n. n) (λ x. lexemes x.1.now) c.in_err-n.ensures.refused c.in_err-n.ensures.kept c.in_err-n.ensures.token c.count.ensures))

pub returns-in-Some : goal.returns-in-Some
returns-in-Some c =
    let x = c.in-Some.ensures in
    let y = next_token c.args.tokens.now x.0 c.in-Some.rest.now x.2 (kind.Keyword word.Host) x.1 in
    let l = go0 refl (host_start c.args.nesting y.0) y.1 in
    go_rule0 (then_token (all count) (kind.Sign sign.Comma)) _ l (followed_by0 (all count) (lexemes c.in-Some.rest.now) c.count.result _ (kind.Sign sign.Comma) (λ x. x.0) (λ n. n) (λ x. lexemes x.1.now) c.in_ok-n.ensures.refused c.in_ok-n.ensures.kept c.in_ok-n.ensures.token c.count.ensures)

pub returns-in_err-g : goal.returns-in_err-g
returns-in_err-g c =
    let p = err_from_is_err_and c.from_residual-in_err-g.result c.from_residual-in_err-g.ensures.1 in
    rw (p.1, p.2) (refused c.in_err-g.field-0.0 (no_host_start c.args.nesting c.in_default.ensures) c.in_err-g.ensures.guess)

pub returns : goal.returns
returns c =
    rw c.into_inner.ensures (follow (no_host_start c.args.nesting c.in_default.ensures) c.in_ok-g.ensures.guess)

use Rattle.std.proofs.Common.{refl, arith, Some}
use Rattle.std.proofs.lemmas.Result.{err_from_is_err_and}
use Rattle.spf_text.specs.declared.token.TokenKind.TheVariants as kind
use Rattle.spf_text.specs.declared.token.Keyword.TheVariants as word
use Rattle.spf_parse_grammar.specs.Parts.{give, predictor}
use Rattle.spf_parse_parts.proofs.Steps.{start, go, halt, go0, halt0, unfold_part, decide}
use Rattle.spf_parse_parts.proofs.Tokens.{next_token}
use Rattle.spf_parse_parts.proofs.Rows.{no_host}
use Rattle.spf_parse_parts.proofs.row.predictor.Goals as goal

pub returns-in_err-n : goal.returns-in_err-n
returns-in_err-n c =
    let x = c.in-Some.ensures in
    let y = next_token c.args.tokens.now x.0 c.in-Some.rest.now x.2 (kind.Keyword word.Host) x.1 in
    let b = decide (Some (kind.Keyword word.Host)) y.0 _ (unfold_part (predictor c.args.nesting) (λ x. give x) start) in
    let l = go0 refl b y.1 in
    let p = err_from_is_err_and c.from_residual.result c.from_residual.ensures.1 in
    rw (p.1, p.2) (halt0 c.in_err-n.field-0.0 refl (λ x. refl)
    l
    c.in_err-n.ensures)

pub returns-in-Some : goal.returns-in-Some
returns-in-Some c =
    let x = c.in-Some.ensures in
    let y = next_token c.args.tokens.now x.0 c.in-Some.rest.now x.2 (kind.Keyword word.Host) x.1 in
    let b = decide (Some (kind.Keyword word.Host)) y.0 _ (unfold_part (predictor c.args.nesting) (λ x. give x) start) in
    let l = go0 refl b y.1 in
    go0 refl l c.in_ok-n.ensures

pub returns-in_err-g : goal.returns-in_err-g
returns-in_err-g c =
    let b = no_host c.args.nesting c.in_default.ensures in
    let p = err_from_is_err_and c.from_residual-in_err-g.result c.from_residual-in_err-g.ensures.1 in
    rw (p.1, p.2) (halt c.in_err-g.field-0.0 (λ x. omega arith) (λ x. refl)
    b
    c.in_err-g.ensures)

pub returns : goal.returns
returns c =
    let b = no_host c.args.nesting c.in_default.ensures in
    rw c.into_inner.ensures (go (λ x. omega arith) b c.in_ok-g.ensures)

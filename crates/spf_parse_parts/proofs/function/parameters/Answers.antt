use Rattle.std.proofs.Common.{refl, arith, map}
use Rattle.std.proofs.lemmas.Result.{err_from_is_err_and}
use Rattle.std.proofs.lemmas.List.{map-append}
use Rattle.spf_text.specs.declared.token.TokenKind.TheVariants as kind
use Rattle.spf_text.specs.declared.token.Sign.TheVariants as sign
use Rattle.spf_ast.specs.View.{name as seen_name}
use Rattle.spf_parse_grammar.specs.Parts.{token, give, part, next_parameter}
use Rattle.spf_parse_parts.proofs.Steps.{go0, halt0}
use Rattle.spf_parse_parts.proofs.Tokens.{next_token, shorter, not_longer}
use Rattle.spf_parse_parts.proofs.Expressions.{regroup}
use Rattle.spf_parse_parts.proofs.Functions.{no_parameter, some_parameter, next_parameter_is, no_next_parameter, parameters_done}
use Rattle.spf_parse_parts.proofs.function.parameters.Goals as goal

pub returns-in-Some : goal.returns-in-Some
returns-in-Some c =
    let x = c.in-Some.ensures in
    let y = next_token c.args.tokens.now x.0 c.in-Some.end.now x.2 (kind.Sign sign.CloseParen) x.1 in
    rw c.new-inside.ensures.items (go0 refl (no_parameter y.0) y.1)

pub returns-in_err-first : goal.returns-in_err-first
returns-in_err-first c =
    let p = err_from_is_err_and c.from_residual.result c.from_residual.ensures.1 in
    rw (p.1, p.2) (halt0 c.in_err-first.field-0.0 refl (λ x. refl)
    (some_parameter c.in_default.ensures)
    c.in_err-first.ensures)

pub inside-init : goal.inside-init
inside-init c =
    rw (c.in_ok-push.ensures.items, c.new-inside.ensures.items) (go0 refl (some_parameter c.in_default.ensures) c.in_ok-first.ensures)

pub returns-in_err-x : goal.returns-in_err-x
returns-in_err-x c =
    let x = c.in-Some-after.ensures in
    let y = next_token c.inside.rest.now x.0 c.in-Some-after.behind.now x.2 (kind.Sign sign.Comma) x.1 in
    let l = go0 refl (next_parameter_is (map seen_name c.inside.inside.items) y.0 c.inside.invariant) y.1 in
    let p = err_from_is_err_and c.from_residual-in_err-x.result c.from_residual-in_err-x.ensures.1 in
    rw (p.1, p.2) (halt0 c.in_err-x.field-0.0 refl (λ x. refl)
    l
    c.in_err-x.ensures)

pub inside-smaller : goal.inside-smaller
inside-smaller c =
    let x = c.in-Some-after.ensures in
    omega (arith, shorter c.inside.rest.now x.0 c.in-Some-after.behind.now x.2, not_longer c.in-Some-after.behind.now c.in_ok-x.end.now c.in_ok-x.ensures)

pub inside-preserved : goal.inside-preserved
inside-preserved c =
    let x = c.in-Some-after.ensures in
    let y = next_token c.inside.rest.now x.0 c.in-Some-after.behind.now x.2 (kind.Sign sign.Comma) x.1 in
    let l = go0 refl (next_parameter_is (map seen_name c.inside.inside.items) y.0 c.inside.invariant) y.1 in
    rw (c.in_ok-push-2.ensures.items, map-append)
    (regroup next_parameter (λ zs. part (token (kind.Sign sign.CloseParen)) (λ l. give zs)) (map seen_name c.inside.inside.items) (seen_name c.in_ok-x.x) (go0 refl l c.in_ok-x.ensures))

pub returns-in_err-end : goal.returns-in_err-end
returns-in_err-end c =
    let p = err_from_is_err_and c.from_residual-in_err-end.result c.from_residual-in_err-end.ensures.1 in
    rw (p.1, p.2) (halt0 c.in_err-end.field-0.0 refl (λ x. refl)
    (no_next_parameter (map seen_name c.inside.inside.items) c.in_default-after.ensures c.inside.invariant)
    c.in_err-end.ensures)

pub returns : goal.returns
returns c =
    parameters_done (map seen_name c.inside.inside.items) _ (no_next_parameter (map seen_name c.inside.inside.items) c.in_default-after.ensures c.inside.invariant) c.in_ok-end.ensures

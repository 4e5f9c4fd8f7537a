use Rattle.std.proofs.Common.{rules, refl, Some, FitsSigned, w64}
use Rattle.std.proofs.lemmas.Result.{err_from_is_err_and}
use Rattle.std.proofs.lemmas.Int.{to_z-of_z}
use Rattle.spf_text.specs.declared.token.TokenKind.TheVariants as kind
use Rattle.spf_text.specs.declared.token.Sign.TheVariants as sign
use Rattle.spf_parse_parts.proofs.Steps.{go0, halt0, decide}
use Rattle.spf_parse_parts.proofs.Tokens.{next_token}
use Rattle.spf_parse_parts.proofs.Functions.{size_start, no_star, no_plus}
use Rattle.spf_parse_parts.proofs.function.size.Goals as goal

pub returns-in_err-first : goal.returns-in_err-first
returns-in_err-first c =
    let p = err_from_is_err_and c.from_residual.result c.from_residual.ensures.1 in
    rw (p.1, p.2) (halt0 c.in_err-first.field-0.0 refl (λ x. refl)
    size_start
    c.in_err-first.ensures)

pub returns-in_default : goal.returns-in_default
returns-in_default c =
    let b = go0 refl size_start c.in_ok-first.ensures in
    let f : FitsSigned w64 c.in_ok-first.first = search rules in
    rw (to_z-of_z w64 c.in_ok-first.first f) (no_star c.in_ok-first.first c.in_default.ensures b)

pub returns-in_err-after_len : goal.returns-in_err-after_len
returns-in_err-after_len c =
    let b = go0 refl size_start c.in_ok-first.ensures in
    let x = c.in-Some.ensures in
    let y = next_token c.in_ok-first.rest.now x.0 c.in-Some.after_star.now x.2 (kind.Sign sign.Star) x.1 in
    let l = go0 refl (decide (Some (kind.Sign sign.Star)) y.0 _ b) y.1 in
    let p = err_from_is_err_and c.from_residual-in_err-after_len.result c.from_residual-in_err-after_len.ensures.1 in
    rw (p.1, p.2) (halt0 c.in_err-after_len.field-0.0 refl (λ x. refl)
    l
    c.in_err-after_len.ensures)

pub returns-in_default-after : goal.returns-in_default-after
returns-in_default-after c =
    let b = go0 refl size_start c.in_ok-first.ensures in
    let x = c.in-Some.ensures in
    let y = next_token c.in_ok-first.rest.now x.0 c.in-Some.after_star.now x.2 (kind.Sign sign.Star) x.1 in
    let l = go0 refl (decide (Some (kind.Sign sign.Star)) y.0 _ b) y.1 in
    let m = go0 refl l c.in_ok-after_len.ensures in
    let f : FitsSigned w64 c.in_ok-first.first = search rules in
    rw (to_z-of_z w64 c.in_ok-first.first f) (no_plus c.in_ok-first.first c.in_default-after.ensures m)

pub returns-in_err-second : goal.returns-in_err-second
returns-in_err-second c =
    let b = go0 refl size_start c.in_ok-first.ensures in
    let x = c.in-Some.ensures in
    let y = next_token c.in_ok-first.rest.now x.0 c.in-Some.after_star.now x.2 (kind.Sign sign.Star) x.1 in
    let l = go0 refl (decide (Some (kind.Sign sign.Star)) y.0 _ b) y.1 in
    let m = go0 refl l c.in_ok-after_len.ensures in
    let z = c.in-Some-after.ensures in
    let w = next_token c.in_ok-after_len.after_len.now z.0 c.in-Some-after.after_plus.now z.2 (kind.Sign sign.Plus) z.1 in
    let n = go0 refl (decide (Some (kind.Sign sign.Plus)) w.0 _ m) w.1 in
    let p = err_from_is_err_and c.from_residual-in_err-second.result c.from_residual-in_err-second.ensures.1 in
    rw (p.1, p.2) (halt0 c.in_err-second.field-0.0 refl (λ x. refl)
    n
    c.in_err-second.ensures)

pub returns : goal.returns
returns c =
    let b = go0 refl size_start c.in_ok-first.ensures in
    let x = c.in-Some.ensures in
    let y = next_token c.in_ok-first.rest.now x.0 c.in-Some.after_star.now x.2 (kind.Sign sign.Star) x.1 in
    let l = go0 refl (decide (Some (kind.Sign sign.Star)) y.0 _ b) y.1 in
    let m = go0 refl l c.in_ok-after_len.ensures in
    let z = c.in-Some-after.ensures in
    let w = next_token c.in_ok-after_len.after_len.now z.0 c.in-Some-after.after_plus.now z.2 (kind.Sign sign.Plus) z.1 in
    let n = go0 refl (decide (Some (kind.Sign sign.Plus)) w.0 _ m) w.1 in
    let f : FitsSigned w64 c.in_ok-first.first = search rules in
    let g : FitsSigned w64 c.in_ok-second.second = search rules in
    rw (to_z-of_z w64 c.in_ok-first.first f, to_z-of_z w64 c.in_ok-second.second g) (go0 refl n c.in_ok-second.ensures)

use Rattle.std.proofs.Common.{◌≡◌, true, false, suc, ◌+◌, ◌-◌, refl, sym, ◌∙◌, ap, arith, rules, map, subst, []}
use Rattle.std.proofs.lemmas.Result.{err_from_is_err_and}
use Rattle.std.proofs.lemmas.List.{map-append}
use Rattle.spf_text.specs.declared.token.TokenKind.TheVariants as kind
use Rattle.spf_text.specs.declared.token.Sign.TheVariants as sign
use Rattle.spf_ast.specs.RawView.{raw_predictor}
use Rattle.spf_parse_grammar.specs.Parts.{guess, next_predictor}
use Rattle.spf_parse_grammar.specs.Lexemes.{lexemes}
use Rattle.spf_parse_parts.specs.declared.fault.Fault.TheVariants as fault
use Rattle.spf_parse_grammar.specs.Rules.{all}
use Rattle.spf_parse_parts.specs.Answers.{Leads, closed, guess_after}
use Rattle.spf_parse_parts.proofs.Steps.{unfold_part, go, halt, go0, halt0, follow, ten_ten}
use Rattle.spf_parse_parts.proofs.Tokens.{next_token, shorter, not_longer, token_none, length_fails}
use Rattle.spf_parse_parts.proofs.Rows.{one_predictor, guess_start, refused, few_done, few_full, few_next, few_regroup, comma_stays, not_closing, closed_done, predictor_never}
use Rattle.spf_parse_parts.proofs.row.guess.Goals as goal

pub returns-in_err-only : goal.returns-in_err-only
returns-in_err-only c =
    let p = err_from_is_err_and c.from_residual.result c.from_residual.ensures.1 in
    rw (p.1, p.2) (halt c.in_err-only.field-0.0 (λ x. ten_ten) (λ x. refl)
    (one_predictor c.args.nesting (λ h. absurd (search (rules, c.is_next.ensures.1 h))))
    c.in_err-only.ensures)

pub returns-then-not-is_next : goal.returns-then-not-is_next
returns-then-not-is_next c =
    rw (c.in_ok-push.ensures.items, c.new-found.ensures.items) (go (λ x. ten_ten) (one_predictor c.args.nesting (λ h. absurd (search (rules, c.is_next.ensures.1 h)))) c.in_ok-only.ensures)

pub returns-in_err-inner : goal.returns-in_err-inner
returns-in_err-inner c =
    let p = err_from_is_err_and c.from_residual-in_err-inner.result c.from_residual-in_err-inner.ensures.1 in
    rw (p.1, p.2) (halt0 c.in_err-inner.field-0.0 refl (λ x. refl)
    (guess_start c.args.nesting (search (rules, c.is_next.ensures.0)))
    c.in_err-inner.ensures.answers)

pub returns-in_err-first : goal.returns-in_err-first
returns-in_err-first c =
    let l0 = go0 refl (guess_start c.args.nesting (search (rules, c.is_next.ensures.0))) c.in_ok-inner.ensures.answers in
    let p = err_from_is_err_and c.from_residual-in_err-first.result c.from_residual-in_err-first.ensures.1 in
    rw (p.1, p.2) (refused c.in_err-first.field-0.0
    l0
    c.in_err-first.ensures)

pub returns-then-is_whole : goal.returns-then-is_whole
returns-then-is_whole c =
    let l0 = go0 refl (guess_start c.args.nesting (search (rules, c.is_next.ensures.0))) c.in_ok-inner.ensures.answers in
    let l1 = follow l0 c.in_ok-first.ensures in
    rw (c.in_ok-push-2.ensures.items, c.new-found.ensures.items) (subst (λ b. Leads 10 (all (guess c.args.nesting)) (lexemes c.args.tokens.now) (guess_after c.args.nesting (raw_predictor c.in_ok-first.first) b) (lexemes c.in_ok-first.second_at.now)) c.if-is_whole.true l1)

pub returns-in_err-second : goal.returns-in_err-second
returns-in_err-second c =
    let l0 = go0 refl (guess_start c.args.nesting (search (rules, c.is_next.ensures.0))) c.in_ok-inner.ensures.answers in
    let l1 = follow l0 c.in_ok-first.ensures in
    let l2 = subst (λ b. Leads 10 (all (guess c.args.nesting)) (lexemes c.args.tokens.now) (guess_after c.args.nesting (raw_predictor c.in_ok-first.first) b) (lexemes c.in_ok-first.second_at.now)) c.if-is_whole.false l1 in
    let p = err_from_is_err_and c.from_residual-in_err-second.result c.from_residual-in_err-second.ensures.1 in
    rw (p.1, p.2) (halt c.in_err-second.field-0.0 (λ x. (omega arith, λ y. omega arith)) (λ x. refl)
    l2
    c.in_err-second.ensures)

pub found-init : goal.found-init
found-init c =
    let l0 = go0 refl (guess_start c.args.nesting (search (rules, c.is_next.ensures.0))) c.in_ok-inner.ensures.answers in
    let l1 = follow l0 c.in_ok-first.ensures in
    let l2 = subst (λ b. Leads 10 (all (guess c.args.nesting)) (lexemes c.args.tokens.now) (guess_after c.args.nesting (raw_predictor c.in_ok-first.first) b) (lexemes c.in_ok-first.second_at.now)) c.if-is_whole.false l1 in
    rw (c.in_ok-push-3.ensures.items, c.in_ok-push-2.ensures.items, c.new-found.ensures.items) (go (λ x. (omega arith, λ y. omega arith)) l2 c.in_ok-second.ensures)

pub returns-then-room-eq0 : goal.returns-then-room-eq0
returns-then-room-eq0 c =
    let x = c.in-Some.ensures in
    let y = next_token c.found.rest.now x.0 c.in-Some.behind.now x.2 (kind.Sign sign.Comma) x.1 in
    let l = few_full c.found.room c.if-room-eq0.true c.found.invariant in
    halt0 (fault.Unexpected _) refl (λ x. refl) l (length_fails c.found.rest.now c.found.rest.now (token_none (kind.Sign sign.CloseParen) (lexemes c.found.rest.now) (not_closing (lexemes c.found.rest.now) y.0)))

pub returns-in_err-g : goal.returns-in_err-g
returns-in_err-g c =
    let x = c.in-Some.ensures in
    let y = next_token c.found.rest.now x.0 c.in-Some.behind.now x.2 (kind.Sign sign.Comma) x.1 in
    let some : c.found.room ≡ suc (c.found.room - 1) = omega (arith, c.if-room-eq0.false) in
    let n = few_next c.found.room (c.found.room - 1) some (λ free k b vs same d s. comma_stays (map raw_predictor c.found.found.items) _ (lexemes c.found.rest.now) y.0 free k b vs same d) c.found.invariant in
    let l = go0 refl (unfold_part (next_predictor (c.args.nesting + 1)) _ n) y.1 in
    let p = err_from_is_err_and c.from_residual-in_err-g.result c.from_residual-in_err-g.ensures.1 in
    rw (p.1, p.2) (halt c.in_err-g.field-0.0 (λ x. (omega arith, λ y. omega arith)) (λ x. refl)
    l
    c.in_err-g.ensures)

pub found-smaller : goal.found-smaller
found-smaller c =
    let x = c.in-Some.ensures in
    omega (arith, shorter c.found.rest.now x.0 c.in-Some.behind.now x.2, not_longer c.in-Some.behind.now c.in_ok-g.end.now c.in_ok-g.ensures)

pub found-preserved : goal.found-preserved
found-preserved c =
    let x = c.in-Some.ensures in
    let y = next_token c.found.rest.now x.0 c.in-Some.behind.now x.2 (kind.Sign sign.Comma) x.1 in
    let some : c.found.room ≡ suc (c.found.room - 1) = omega (arith, c.if-room-eq0.false) in
    let n = few_next c.found.room (c.found.room - 1) some (λ free k b vs same d s. comma_stays (map raw_predictor c.found.found.items) _ (lexemes c.found.rest.now) y.0 free k b vs same d) c.found.invariant in
    let l = go0 refl (unfold_part (next_predictor (c.args.nesting + 1)) _ n) y.1 in
    rw (c.in_ok-push-4.ensures.items, map-append)
    (few_regroup (c.found.room - 1) (next_predictor (c.args.nesting + 1)) (closed []) (map raw_predictor c.found.found.items) (raw_predictor c.in_ok-g.g) (go (λ x. (omega arith, λ y. omega arith)) l c.in_ok-g.ensures))

pub returns-in_err-end : goal.returns-in_err-end
returns-in_err-end c =
    let l = few_done c.found.room (predictor_never (c.args.nesting + 1) (lexemes c.found.rest.now) c.in_default.ensures) c.found.invariant in
    let p = err_from_is_err_and c.from_residual-in_err-end.result c.from_residual-in_err-end.ensures.1 in
    rw (p.1, p.2) (halt0 c.in_err-end.field-0.0 refl (λ x. refl)
    l
    c.in_err-end.ensures)

pub returns : goal.returns
returns c =
    closed_done (map raw_predictor c.found.found.items) _ (few_done c.found.room (predictor_never (c.args.nesting + 1) (lexemes c.found.rest.now) c.in_default.ensures) c.found.invariant) c.in_ok-end.ensures

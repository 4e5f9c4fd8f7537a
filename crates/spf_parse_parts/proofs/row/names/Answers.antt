use Rattle.std.proofs.Common.{◌≡◌, suc, ◌+◌, ◌-◌, refl, sym, ap, arith, rules, map, Some, []}
use Rattle.std.proofs.lemmas.Result.{err_from_is_err_and}
use Rattle.std.proofs.lemmas.List.{map-append}
use Rattle.spf_text.specs.declared.token.TokenKind.TheVariants as kind
use Rattle.spf_text.specs.declared.token.Sign.TheVariants as sign
use Rattle.spf_text.specs.declared.token.Keyword.TheVariants as word
use Rattle.spf_ast.specs.View.{name as seen_name}
use Rattle.spf_parse_grammar.specs.Lexemes.{lexemes}
use Rattle.spf_parse_grammar.specs.Parts.{name, next_parameter}
use Rattle.spf_parse_grammar.specs.Rules.{all}
use Rattle.spf_parse_parts.specs.Answers.{closed}
use Rattle.spf_parse_parts.specs.declared.fault.Fault.TheVariants as fault
use Rattle.spf_parse_parts.proofs.Steps.{unfold_part, go0, halt0, go_rule0, halt_rule0}
use Rattle.spf_parse_parts.proofs.Tokens.{next_token, seen_ahead, shorter, not_longer, then_token, followed_by0, token_none, length_fails}
use Rattle.spf_parse_parts.proofs.Rows.{one_name, some_names, few_done, few_full, few_next, few_regroup, comma_stays, not_closing, closed_done, parameter_never}
use Rattle.spf_parse_parts.proofs.row.names.Goals as goal

pub returns-in_err-only : goal.returns-in_err-only
returns-in_err-only c =
    let p = err_from_is_err_and c.from_residual.result c.from_residual.ensures.1 in
    rw (p.1, p.2) (halt0 c.in_err-only.field-0.0 refl (λ x. refl)
    (one_name c.args.nesting (c.is_next.ensures.0 c.if-is_next.true))
    c.in_err-only.ensures)

pub returns-then-is_next : goal.returns-then-is_next
returns-then-is_next c =
    rw (c.in_ok-push.ensures.items, c.new-found.ensures.items) (go0 refl (one_name c.args.nesting (c.is_next.ensures.0 c.if-is_next.true)) c.in_ok-only.ensures)

pub returns-in_err-inner : goal.returns-in_err-inner
returns-in_err-inner c =
    let p = err_from_is_err_and c.from_residual-in_err-inner.result c.from_residual-in_err-inner.ensures.1 in
    rw (p.1, p.2) (halt0 c.in_err-inner.field-0.0 refl (λ x. refl)
    (some_names c.args.nesting (λ h. absurd (search (rules, c.is_next.ensures.1 h))))
    c.in_err-inner.ensures.answers)

pub returns-in_err-first : goal.returns-in_err-first
returns-in_err-first c =
    let l0 = go0 refl (some_names c.args.nesting (λ h. absurd (search (rules, c.is_next.ensures.1 h)))) c.in_ok-inner.ensures.answers in
    let p = err_from_is_err_and c.from_residual-in_err-first.result c.from_residual-in_err-first.ensures.1 in
    rw (p.1, p.2) (halt_rule0 (then_token (all name) (kind.Sign sign.Comma)) _ c.in_err-first.field-0.0 (λ x. refl)
    l0
    (followed_by0 (all name) (lexemes c.in_ok-inner.inner.now) c.name-2.result _ (kind.Sign sign.Comma) (λ x. x.0) seen_name (λ x. lexemes x.1.now) c.in_err-first.ensures.refused c.in_err-first.ensures.kept c.in_err-first.ensures.token c.name-2.ensures))

pub returns-in_err-second : goal.returns-in_err-second
returns-in_err-second c =
    let l0 = go0 refl (some_names c.args.nesting (λ h. absurd (search (rules, c.is_next.ensures.1 h)))) c.in_ok-inner.ensures.answers in
    let l1 = go_rule0 (then_token (all name) (kind.Sign sign.Comma)) _ l0 (followed_by0 (all name) (lexemes c.in_ok-inner.inner.now) c.name-2.result _ (kind.Sign sign.Comma) (λ x. x.0) seen_name (λ x. lexemes x.1.now) c.in_ok-first.ensures.refused c.in_ok-first.ensures.kept c.in_ok-first.ensures.token c.name-2.ensures) in
    let p = err_from_is_err_and c.from_residual-in_err-second.result c.from_residual-in_err-second.ensures.1 in
    rw (p.1, p.2) (halt0 c.in_err-second.field-0.0 refl (λ x. refl)
    l1
    c.in_err-second.ensures)

pub found-init : goal.found-init
found-init c =
    let l0 = go0 refl (some_names c.args.nesting (λ h. absurd (search (rules, c.is_next.ensures.1 h)))) c.in_ok-inner.ensures.answers in
    let l1 = go_rule0 (then_token (all name) (kind.Sign sign.Comma)) _ l0 (followed_by0 (all name) (lexemes c.in_ok-inner.inner.now) c.name-2.result _ (kind.Sign sign.Comma) (λ x. x.0) seen_name (λ x. lexemes x.1.now) c.in_ok-first.ensures.refused c.in_ok-first.ensures.kept c.in_ok-first.ensures.token c.name-2.ensures) in
    rw (c.in_ok-push-3.ensures.items, c.in_ok-push-2.ensures.items, c.new-found.ensures.items) (go0 refl l1 c.in_ok-second.ensures)

pub returns-then-room-eq0 : goal.returns-then-room-eq0
returns-then-room-eq0 c =
    let x = c.in-Some.ensures in
    let y = next_token c.found.rest.now x.0 c.in-Some.behind.now x.2 (kind.Sign sign.Comma) x.1 in
    let l = few_full c.found.room c.if-room-eq0.true c.found.invariant in
    halt0 (fault.Unexpected _) refl (λ x. refl) l (length_fails c.found.rest.now c.found.rest.now (token_none (kind.Sign sign.CloseParen) (lexemes c.found.rest.now) (not_closing (lexemes c.found.rest.now) y.0)))

pub returns-in_err-x : goal.returns-in_err-x
returns-in_err-x c =
    let x = c.in-Some.ensures in
    let y = next_token c.found.rest.now x.0 c.in-Some.behind.now x.2 (kind.Sign sign.Comma) x.1 in
    let some : c.found.room ≡ suc (c.found.room - 1) = omega (arith, c.if-room-eq0.false) in
    let n = few_next c.found.room (c.found.room - 1) some (λ free k b vs same d s. comma_stays (map seen_name c.found.found.items) _ (lexemes c.found.rest.now) y.0 free k b vs same d) c.found.invariant in
    let l = go0 refl (unfold_part next_parameter _ n) y.1 in
    let p = err_from_is_err_and c.from_residual-in_err-x.result c.from_residual-in_err-x.ensures.1 in
    rw (p.1, p.2) (halt0 c.in_err-x.field-0.0 refl (λ x. refl)
    l
    c.in_err-x.ensures)

pub found-smaller : goal.found-smaller
found-smaller c =
    let x = c.in-Some.ensures in
    omega (arith, shorter c.found.rest.now x.0 c.in-Some.behind.now x.2, not_longer c.in-Some.behind.now c.in_ok-x.end.now c.in_ok-x.ensures)

pub found-preserved : goal.found-preserved
found-preserved c =
    let x = c.in-Some.ensures in
    let y = next_token c.found.rest.now x.0 c.in-Some.behind.now x.2 (kind.Sign sign.Comma) x.1 in
    let some : c.found.room ≡ suc (c.found.room - 1) = omega (arith, c.if-room-eq0.false) in
    let n = few_next c.found.room (c.found.room - 1) some (λ free k b vs same d s. comma_stays (map seen_name c.found.found.items) _ (lexemes c.found.rest.now) y.0 free k b vs same d) c.found.invariant in
    let l = go0 refl (unfold_part next_parameter _ n) y.1 in
    rw (c.in_ok-push-4.ensures.items, map-append)
    (few_regroup (c.found.room - 1) next_parameter (closed []) (map seen_name c.found.found.items) (seen_name c.in_ok-x.x) (go0 refl l c.in_ok-x.ensures))

pub returns-in_err-end : goal.returns-in_err-end
returns-in_err-end c =
    let l = few_done c.found.room (parameter_never (lexemes c.found.rest.now) c.in_default.ensures) c.found.invariant in
    let p = err_from_is_err_and c.from_residual-in_err-end.result c.from_residual-in_err-end.ensures.1 in
    rw (p.1, p.2) (halt0 c.in_err-end.field-0.0 refl (λ x. refl)
    l
    c.in_err-end.ensures)

pub returns : goal.returns
returns c =
    closed_done (map seen_name c.found.found.items) _ (few_done c.found.room (parameter_never (lexemes c.found.rest.now) c.in_default.ensures) c.found.invariant) c.in_ok-end.ensures

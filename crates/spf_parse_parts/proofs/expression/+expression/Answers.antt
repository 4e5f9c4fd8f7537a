use Rattle.std.proofs.Common.{true, rules, ◌≡◌, suc, ◌+◌, ◌-◌, refl, sym, ◌∙◌, ap, arith, map, Some, FitsSigned, w64}
use Rattle.std.proofs.Math.Numerals.{add-one}
use Rattle.std.proofs.lemmas.Result.{err_from_is_err_and}
use Rattle.std.proofs.lemmas.Int.{to_z-of_z}
use Rattle.std.proofs.lemmas.List.{map-append}
use Rattle.spf_text.specs.declared.token.TokenKind.TheVariants as kind
use Rattle.spf_text.specs.declared.token.Sign.TheVariants as sign
use Rattle.spf_text.specs.declared.token.Keyword.TheVariants as word
use Rattle.spf_ast.specs.View.{name as seen_name}
use Rattle.spf_ast.specs.RawView.{raw_expression}
use Rattle.spf_ast.proofs.RawViews.{raw_expression-call}
use Rattle.spf_parse_grammar.specs.Parts.{token, give, part, next_argument, level, expression}
use Rattle.spf_parse_grammar.specs.Rules.{all, named}
use Rattle.spf_parse_parts.specs.declared.fault.Fault.TheVariants as fault
use Rattle.spf_parse_parts.specs.Answers.{value_before, after_operand}
use Rattle.spf_parse_parts.proofs.Rows.{follows_operand, whole_operand, level_start, of_rank, rank_follows, continued_start, continued_halts, continued_further, continued_through}
use Rattle.spf_parse_parts.proofs.Follows.{anything}
use Rattle.spf_parse_parts.proofs.Steps.{start, go, halt, go0, halt0, go_rule, go_rule0, halt_rule0, unfold_part, decide, through, through_rule}
use Rattle.spf_parse_parts.proofs.Tokens.{next_token, seen_ahead, operator_next, operator_over, shorter, not_longer, none_fails, length_fails, followed_by}
use Rattle.spf_parse_parts.proofs.Expressions.{regroup, further_next, further_done, compared_next, compared_done, no_argument, some_argument, next_argument_is, no_next_argument, last_done, name_alone, operand_start, word_operand, sign_operand, end_operand}
use Rattle.spf_parse_grammar.specs.Lexemes.{lexemes}
use Rattle.spf_parse_parts.proofs.expression.+expression.Goals as goal

pub arguments-returns-in-Some : goal.arguments-returns-in-Some
arguments-returns-in-Some t c =
    let x = c.in-Some.ensures in
    let y = next_token c.args.tokens.now x.0 c.in-Some.end.now x.2 (kind.Sign sign.CloseParen) x.1 in
    rw c.new-inside.ensures.items (go (λ x. omega arith) (no_argument c.args.nesting y.0) y.1)

pub arguments-returns-in_err-first : goal.arguments-returns-in_err-first
arguments-returns-in_err-first t c =
    let p = err_from_is_err_and c.from_residual.result c.from_residual.ensures.1 in
    rw (p.1, p.2) (halt c.in_err-first.field-0.0 (λ x. (omega arith, λ y. omega arith)) (λ x. refl)
    (some_argument c.args.nesting c.in_default.ensures)
    c.in_err-first.ensures)

pub arguments-inside-init : goal.arguments-inside-init
arguments-inside-init t c =
    rw (c.in_ok-push.ensures.items, c.new-inside.ensures.items, c.into_inner.ensures) (go (λ x. (omega arith, λ y. omega arith)) (some_argument c.args.nesting c.in_default.ensures) c.in_ok-first.ensures)

pub arguments-returns-in_err-a : goal.arguments-returns-in_err-a
arguments-returns-in_err-a t c =
    let x = c.in-Some-after.ensures in
    let y = next_token c.inside.rest.now x.0 c.in-Some-after.behind.now x.2 (kind.Sign sign.Comma) x.1 in
    let l = go (λ x. omega arith) (next_argument_is c.args.nesting (map raw_expression c.inside.inside.items) y.0 c.inside.invariant) y.1 in
    let p = err_from_is_err_and c.from_residual-in_err-a.result c.from_residual-in_err-a.ensures.1 in
    rw (p.1, p.2) (halt c.in_err-a.field-0.0 (λ x. (omega arith, λ y. omega arith)) (λ x. refl)
    l
    c.in_err-a.ensures)

pub arguments-inside-smaller : goal.arguments-inside-smaller
arguments-inside-smaller t c =
    let x = c.in-Some-after.ensures in
    omega (arith, shorter c.inside.rest.now x.0 c.in-Some-after.behind.now x.2, not_longer c.in-Some-after.behind.now c.in_ok-a.end.now c.in_ok-a.ensures)

pub arguments-inside-preserved : goal.arguments-inside-preserved
arguments-inside-preserved t c =
    let x = c.in-Some-after.ensures in
    let y = next_token c.inside.rest.now x.0 c.in-Some-after.behind.now x.2 (kind.Sign sign.Comma) x.1 in
    let l = go (λ x. omega arith) (next_argument_is c.args.nesting (map raw_expression c.inside.inside.items) y.0 c.inside.invariant) y.1 in
    rw (c.in_ok-push-2.ensures.items, map-append, c.into_inner-in-Some-after.ensures)
    (regroup (next_argument c.args.nesting) (λ zs. part (token (kind.Sign sign.CloseParen)) (λ l. give zs)) (map raw_expression c.inside.inside.items) (raw_expression c.in_ok-a.a.value) (go (λ x. (omega arith, λ y. omega arith)) l c.in_ok-a.ensures))

pub arguments-returns-in_err-end : goal.arguments-returns-in_err-end
arguments-returns-in_err-end t c =
    let p = err_from_is_err_and c.from_residual-in_err-end.result c.from_residual-in_err-end.ensures.1 in
    rw (p.1, p.2) (halt c.in_err-end.field-0.0 (λ x. omega arith) (λ x. refl)
    (no_next_argument c.args.nesting (map raw_expression c.inside.inside.items) c.in_default-after.ensures c.inside.invariant)
    c.in_err-end.ensures)

pub arguments-returns : goal.arguments-returns
arguments-returns t c =
    last_done (map raw_expression c.inside.inside.items) _ (no_next_argument c.args.nesting (map raw_expression c.inside.inside.items) c.in_default-after.ensures c.inside.invariant) c.in_ok-end.ensures

pub chain-further-init : goal.chain-further-init
chain-further-init t c =
    record { leads = rw c.split_at.ensures.back start; used_in = c.requires.used_in }

pub chain-returns-then-so_far-ge-MAX_OPERATORS-clause-answers : goal.chain-returns-then-so_far-ge-MAX_OPERATORS-clause-answers
chain-returns-then-so_far-ge-MAX_OPERATORS-clause-answers t c =
    let x = c.in-Some.ensures in
    let r = x.3 ∙ add-one c.args.rank in
    let a = seen_ahead c.further.rest.now x.0 c.in-Some.behind.now x.2 ∙ ap Some x.1 in
    let l = further_next c.args.nesting c.args.rank (raw_expression c.further.left.value) c.further.so_far c.in-Some.sign a r c.further.invariant.leads in
    halt (fault.TooDeep _) (λ x. omega arith) (λ x. refl) l (operator_over c.further.rest.now x.0 c.in-Some.behind.now x.2 (suc c.args.rank) c.further.so_far c.in-Some.sign x.1 r (omega (arith, c.if-so_far-ge-MAX_OPERATORS.true)))

pub chain-returns-in_err-right-clause-answers : goal.chain-returns-in_err-right-clause-answers
chain-returns-in_err-right-clause-answers t c =
    let x = c.in-Some.ensures in
    let r = x.3 ∙ add-one c.args.rank in
    let a = seen_ahead c.further.rest.now x.0 c.in-Some.behind.now x.2 ∙ ap Some x.1 in
    let l = further_next c.args.nesting c.args.rank (raw_expression c.further.left.value) c.further.so_far c.in-Some.sign a r c.further.invariant.leads in
    let m = go (λ x. omega arith) l (operator_next c.further.rest.now x.0 c.in-Some.behind.now x.2 (suc c.args.rank) c.further.so_far c.in-Some.sign x.1 r (omega (arith, c.if-so_far-ge-MAX_OPERATORS.false))) in
    let p = err_from_is_err_and c.from_residual.result c.from_residual.ensures.1 in
    rw (p.1, p.2) (halt c.in_err-right.field-0.0 (λ x. (omega arith, λ y. omega arith)) (λ x. refl)
    m
    c.in_err-right.ensures.answers)

pub chain-further-smaller : goal.chain-further-smaller
chain-further-smaller t c =
    let x = c.in-Some.ensures in
    omega (arith, shorter c.further.rest.now x.0 c.in-Some.behind.now x.2, not_longer c.in-Some.behind.now c.in_ok-right.end.now c.in_ok-right.ensures.answers)

pub chain-further-preserved : goal.chain-further-preserved
chain-further-preserved t c =
    let x = c.in-Some.ensures in
    let r = x.3 ∙ add-one c.args.rank in
    let a = seen_ahead c.further.rest.now x.0 c.in-Some.behind.now x.2 ∙ ap Some x.1 in
    let l = further_next c.args.nesting c.args.rank (raw_expression c.further.left.value) c.further.so_far c.in-Some.sign a r c.further.invariant.leads in
    let m = go (λ x. omega arith) l (operator_next c.further.rest.now x.0 c.in-Some.behind.now x.2 (suc c.args.rank) c.further.so_far c.in-Some.sign x.1 r (omega (arith, c.if-so_far-ge-MAX_OPERATORS.false))) in
    record { leads = rw c.in_ok-left.ensures.value (go (λ x. (omega arith, λ y. omega arith)) m c.in_ok-right.ensures.answers); used_in = search rules }

pub chain-returns-clause-answers : goal.chain-returns-clause-answers
chain-returns-clause-answers t c =
    further_done c.args.nesting c.args.rank (raw_expression c.further.left.value) c.further.so_far (λ s is r. c.in_default.ensures s is (r ∙ sym (add-one c.args.rank))) c.further.invariant.leads

pub comparison-returns-in_default-clause-answers : goal.comparison-returns-in_default-clause-answers
comparison-returns-in_default-clause-answers t c =
    compared_done c.args.nesting 6 (raw_expression c.args.left.value) c.args.used c.in_default.ensures start

pub comparison-returns-then-used-ge-MAX_OPERATORS-clause-answers : goal.comparison-returns-then-used-ge-MAX_OPERATORS-clause-answers
comparison-returns-then-used-ge-MAX_OPERATORS-clause-answers t c =
    let x = c.in-Some.ensures in
    let a = seen_ahead c.args.tokens.now x.0 c.in-Some.behind.now x.2 ∙ ap Some x.1 in
    let l = compared_next c.args.nesting 6 (raw_expression c.args.left.value) c.args.used c.in-Some.sign a x.3 start in
    halt (fault.TooDeep _) (λ x. omega arith) (λ x. refl) l (operator_over c.args.tokens.now x.0 c.in-Some.behind.now x.2 7 c.args.used c.in-Some.sign x.1 x.3 (omega (arith, c.if-used-ge-MAX_OPERATORS.true)))

pub comparison-returns-in_err-right-clause-answers : goal.comparison-returns-in_err-right-clause-answers
comparison-returns-in_err-right-clause-answers t c =
    let x = c.in-Some.ensures in
    let a = seen_ahead c.args.tokens.now x.0 c.in-Some.behind.now x.2 ∙ ap Some x.1 in
    let l = compared_next c.args.nesting 6 (raw_expression c.args.left.value) c.args.used c.in-Some.sign a x.3 start in
    let m = go (λ x. omega arith) l (operator_next c.args.tokens.now x.0 c.in-Some.behind.now x.2 7 c.args.used c.in-Some.sign x.1 x.3 (omega (arith, c.if-used-ge-MAX_OPERATORS.false))) in
    let p = err_from_is_err_and c.from_residual.result c.from_residual.ensures.1 in
    rw (p.1, p.2) (halt c.in_err-right.field-0.0 (λ x. omega arith) (λ x. refl)
    m
    c.in_err-right.ensures.answers)

pub comparison-returns-clause-answers : goal.comparison-returns-clause-answers
comparison-returns-clause-answers t c =
    let x = c.in-Some.ensures in
    let a = seen_ahead c.args.tokens.now x.0 c.in-Some.behind.now x.2 ∙ ap Some x.1 in
    let l = compared_next c.args.nesting 6 (raw_expression c.args.left.value) c.args.used c.in-Some.sign a x.3 start in
    let m = go (λ x. omega arith) l (operator_next c.args.tokens.now x.0 c.in-Some.behind.now x.2 7 c.args.used c.in-Some.sign x.1 x.3 (omega (arith, c.if-used-ge-MAX_OPERATORS.false))) in
    rw c.in_ok-join.ensures.value (go (λ x. omega arith) m c.in_ok-right.ensures.answers)

pub expr-returns-in_err-a : goal.expr-returns-in_err-a
expr-returns-in_err-a t c =
    let p = err_from_is_err_and c.from_residual.result c.from_residual.ensures.1 in
    rw (p.1, p.2) (halt c.in_err-a.field-0.0 (λ x. omega arith) (λ x. refl)
    (unfold_part (expression c.args.nesting) (λ x. give x) start)
    c.in_err-a.ensures.answers)

pub expr-returns : goal.expr-returns
expr-returns t c =
    go (λ x. omega arith) (unfold_part (expression c.args.nesting) (λ x. give x) start) c.in_ok-a.ensures.answers

pub level-returns-in_err-first-clause-answers : goal.level-returns-in_err-first-clause-answers
level-returns-in_err-first-clause-answers t c =
    let p = err_from_is_err_and c.from_residual.result c.from_residual.ensures.1 in
    rw (p.1, p.2) (halt c.in_err-first.field-0.0 (λ x. follows_operand (suc c.args.rank) c.args.nesting c.args.rank x c.args.used (λ y. give y) (λ y. omega arith)) (λ x. whole_operand c.args.nesting c.args.rank x c.args.used (λ y. give y) (λ y. refl))
    (level_start c.args.nesting c.args.rank c.args.used)
    c.in_err-first.ensures)

pub level-returns-clause-answers : goal.level-returns-clause-answers
level-returns-clause-answers t c =
    let l = go (λ x. follows_operand (suc c.args.rank) c.args.nesting c.args.rank x c.args.used (λ y. give y) (λ y. omega arith)) (level_start c.args.nesting c.args.rank c.args.used) c.in_ok-first.ensures in
    through _ _ c.rest_of_expression.result l c.rest_of_expression.ensures.answers

pub rest_of_expression-returns-then-rank-eq0-clause-answers : goal.rest_of_expression-returns-then-rank-eq0-clause-answers
rest_of_expression-returns-then-rank-eq0-clause-answers t c =
    rw c.if-rank-eq0.true start

pub rest_of_expression-returns-in_err-left-clause-answers : goal.rest_of_expression-returns-in_err-left-clause-answers
rest_of_expression-returns-in_err-left-clause-answers t c =
    let r = c.args.rank - 1 in
    let is : c.args.rank ≡ suc (c.args.rank - 1) = omega (arith, c.if-rank-eq0.false) in
    let p = err_from_is_err_and c.from_residual.result c.from_residual.ensures.1 in
    rw (p.1, p.2) (continued_halts (lexemes c.args.tokens.now) c.args.nesting c.args.rank (c.args.rank - 1) (raw_expression c.args.operand.value) c.args.used c.in_err-left.field-0.0 is c.in_err-left.ensures.answers)

pub rest_of_expression-returns-then-rank-eq-COMPARISONS-clause-answers : goal.rest_of_expression-returns-then-rank-eq-COMPARISONS-clause-answers
rest_of_expression-returns-then-rank-eq-COMPARISONS-clause-answers t c =
    let e = c.if-rank-eq-COMPARISONS.true in
    let l = go_rule {R = after_operand c.args.nesting 6 (raw_expression c.args.operand.value) c.args.used (λ x. give x)} (of_rank c.args.nesting 6 true) (rank_follows c.args.nesting 6 true) (continued_start c.args.nesting 7 6 (raw_expression c.args.operand.value) c.args.used refl) (rw e at c.in_ok-left.ensures.answers) in
    rw e (through _ _ c.comparison.result l c.comparison.ensures.answers)

pub rest_of_expression-returns-clause-answers : goal.rest_of_expression-returns-clause-answers
rest_of_expression-returns-clause-answers t c =
    let is : c.args.rank ≡ suc (c.args.rank - 1) = omega (arith, c.if-rank-eq0.false) in
    let l = continued_further c.args.nesting c.args.rank (c.args.rank - 1) (raw_expression c.args.operand.value) c.args.used is (λ h. c.if-rank-eq-COMPARISONS.false (omega (arith, is, h))) c.in_ok-left.ensures.answers in
    continued_through _ _ c.chain.result c.args.rank (c.args.rank - 1) is l c.chain.ensures.answers

pub operand_by_name-returns-in_err-x : goal.operand_by_name-returns-in_err-x
operand_by_name-returns-in_err-x t c =
    let p = err_from_is_err_and c.from_residual.result c.from_residual.ensures.1 in
    rw (p.1, p.2) (halt c.in_err-x.field-0.0 (λ x. anything 1 (named c.args.nesting x)) (λ x. refl)
    start
    c.in_err-x.ensures)

pub operand_by_name-returns-in_err-inner : goal.operand_by_name-returns-in_err-inner
operand_by_name-returns-in_err-inner t c =
    let b = decide (Some (kind.Sign sign.OpenBracket)) (c.is_next.ensures.0 c.if-is_next.true) _ (go (λ x. anything 1 (named c.args.nesting x)) start c.in_ok-x.ensures) in
    let p = err_from_is_err_and c.from_residual-in_err-inner.result c.from_residual-in_err-inner.ensures.1 in
    rw (p.1, p.2) (halt0 c.in_err-inner.field-0.0 refl (λ x. refl)
    b
    c.in_err-inner.ensures.answers)

pub operand_by_name-returns-in_err-index : goal.operand_by_name-returns-in_err-index
operand_by_name-returns-in_err-index t c =
    let b = decide (Some (kind.Sign sign.OpenBracket)) (c.is_next.ensures.0 c.if-is_next.true) _ (go (λ x. anything 1 (named c.args.nesting x)) start c.in_ok-x.ensures) in
    let l = go0 refl b c.in_ok-inner.ensures.answers in
    let p = err_from_is_err_and c.from_residual-in_err-index.result c.from_residual-in_err-index.ensures.1 in
    rw (p.1, p.2) (halt_rule0 (value_before (c.args.nesting + 1) (kind.Sign sign.CloseBracket)) _ c.in_err-index.field-0.0 (λ x. refl)
    l
    c.in_err-index.ensures)

pub operand_by_name-returns-then-is_next : goal.operand_by_name-returns-then-is_next
operand_by_name-returns-then-is_next t c =
    let b = decide (Some (kind.Sign sign.OpenBracket)) (c.is_next.ensures.0 c.if-is_next.true) _ (go (λ x. anything 1 (named c.args.nesting x)) start c.in_ok-x.ensures) in
    let l = go0 refl b c.in_ok-inner.ensures.answers in
    rw c.in_ok-new.ensures.ok (go_rule0 (value_before (c.args.nesting + 1) (kind.Sign sign.CloseBracket)) _ l c.in_ok-index.ensures)

pub operand_by_name-returns-in_err-inner-2 : goal.operand_by_name-returns-in_err-inner-2
operand_by_name-returns-in_err-inner-2 t c =
    let b = decide (Some (kind.Sign sign.OpenParen)) (c.is_next-2.ensures.0 c.if-is_next-2.true) _ (go (λ x. anything 1 (named c.args.nesting x)) start c.in_ok-x.ensures) in
    let p = err_from_is_err_and c.from_residual-in_err-inner-2.result c.from_residual-in_err-inner-2.ensures.1 in
    rw (p.1, p.2) (halt0 c.in_err-inner-2.field-0.0 refl (λ x. refl)
    b
    c.in_err-inner-2.ensures.answers)

pub operand_by_name-returns-in_err-given : goal.operand_by_name-returns-in_err-given
operand_by_name-returns-in_err-given t c =
    let b = decide (Some (kind.Sign sign.OpenParen)) (c.is_next-2.ensures.0 c.if-is_next-2.true) _ (go (λ x. anything 1 (named c.args.nesting x)) start c.in_ok-x.ensures) in
    let l = go0 refl b c.in_ok-inner-2.ensures.answers in
    let p = err_from_is_err_and c.from_residual-in_err-given.result c.from_residual-in_err-given.ensures.1 in
    rw (p.1, p.2) (halt0 c.in_err-given.field-0.0 refl (λ x. refl)
    l
    c.in_err-given.ensures)

pub operand_by_name-returns-then-is_next-2 : goal.operand_by_name-returns-then-is_next-2
operand_by_name-returns-then-is_next-2 t c =
    let b = decide (Some (kind.Sign sign.OpenParen)) (c.is_next-2.ensures.0 c.if-is_next-2.true) _ (go (λ x. anything 1 (named c.args.nesting x)) start c.in_ok-x.ensures) in
    let l = go0 refl b c.in_ok-inner-2.ensures.answers in
    rw (c.in_ok-new-2.ensures.ok, raw_expression-call c.in_ok-x.x c.in_ok-given.given) (go0 refl l c.in_ok-given.ensures)

pub operand_by_name-returns : goal.operand_by_name-returns
operand_by_name-returns t c =
    rw c.in_ok-new-3.ensures.ok (name_alone c.args.nesting (seen_name c.in_ok-x.x) (λ h. absurd (search (rules, c.is_next.ensures.1 h))) (λ h. absurd (search (rules, c.is_next-2.ensures.1 h))) (go (λ x. anything 1 (named c.args.nesting x)) start c.in_ok-x.ensures))

pub operand-returns-in_default : goal.operand-returns-in_default
operand-returns-in_default t c =
    let n = sym c.next.ensures ∙ c.in_default.is in none_fails c.args.tokens.now n (end_operand c.args.nesting _ n)

pub operand-returns-in_err-value-in-Number : goal.operand-returns-in_err-value-in-Number
operand-returns-in_err-value-in-Number t c =
    let b = operand_start c.args.nesting (Some (kind.Number c.in-Number.field-0)) (sym c.next.ensures ∙ c.in-Some.is ∙ ap Some c.in-Number.is) in
    let p = err_from_is_err_and c.from_residual.result c.from_residual.ensures.1 in
    rw (p.1, p.2) (halt c.in_err-value-in-Number.field-0.0 (λ x. omega arith) (λ x. refl)
    b
    c.in_err-value-in-Number.ensures)

pub operand-returns-in_ok-new-in-Number : goal.operand-returns-in_ok-new-in-Number
operand-returns-in_ok-new-in-Number t c =
    let b = operand_start c.args.nesting (Some (kind.Number c.in-Number.field-0)) (sym c.next.ensures ∙ c.in-Some.is ∙ ap Some c.in-Number.is) in
    let f : FitsSigned w64 c.in_ok-value-in-Number.value = search rules in
    rw (c.in_ok-new-in-Number.ensures.ok, to_z-of_z w64 c.in_ok-value-in-Number.value f) (go0 refl b c.in_ok-value-in-Number.ensures)

pub operand-returns-in_err-rest-in-Len : goal.operand-returns-in_err-rest-in-Len
operand-returns-in_err-rest-in-Len t c =
    let b = operand_start c.args.nesting (Some (kind.Keyword word.Len)) (sym c.next.ensures ∙ c.in-Some.is ∙ ap Some (c.in-Keyword.is ∙ ap kind.Keyword c.in-Len.is)) in
    let p = err_from_is_err_and c.from_residual-in_err-rest-in-Len.result c.from_residual-in_err-rest-in-Len.ensures.1 in
    rw (p.1, p.2) (halt c.in_err-rest-in-Len.field-0.0 (λ x. omega arith) (λ x. refl)
    b
    c.in_err-rest-in-Len.ensures)

pub operand-returns-in_ok-new-in-Len : goal.operand-returns-in_ok-new-in-Len
operand-returns-in_ok-new-in-Len t c =
    let b = operand_start c.args.nesting (Some (kind.Keyword word.Len)) (sym c.next.ensures ∙ c.in-Some.is ∙ ap Some (c.in-Keyword.is ∙ ap kind.Keyword c.in-Len.is)) in
    rw c.in_ok-new-in-Len.ensures.ok (go (λ x. omega arith) b c.in_ok-rest-in-Len.ensures)

pub operand-returns-in_err-rest-in-Input : goal.operand-returns-in_err-rest-in-Input
operand-returns-in_err-rest-in-Input t c =
    let b = operand_start c.args.nesting (Some (kind.Keyword word.Input)) (sym c.next.ensures ∙ c.in-Some.is ∙ ap Some (c.in-Keyword.is ∙ ap kind.Keyword c.in-Input.is)) in
    let p = err_from_is_err_and c.from_residual-in_err-rest-in-Input.result c.from_residual-in_err-rest-in-Input.ensures.1 in
    rw (p.1, p.2) (halt c.in_err-rest-in-Input.field-0.0 (λ x. omega arith) (λ x. refl)
    b
    c.in_err-rest-in-Input.ensures)

pub operand-returns-in_err-inner-in-Input : goal.operand-returns-in_err-inner-in-Input
operand-returns-in_err-inner-in-Input t c =
    let b = operand_start c.args.nesting (Some (kind.Keyword word.Input)) (sym c.next.ensures ∙ c.in-Some.is ∙ ap Some (c.in-Keyword.is ∙ ap kind.Keyword c.in-Input.is)) in
    let l = go0 refl b c.in_ok-rest-in-Input.ensures in
    let p = err_from_is_err_and c.from_residual-in_err-inner-in-Input.result c.from_residual-in_err-inner-in-Input.ensures.1 in
    rw (p.1, p.2) (halt c.in_err-inner-in-Input.field-0.0 (λ x. omega arith) (λ x. refl)
    l
    c.in_err-inner-in-Input.ensures.answers)

pub operand-returns-in_err-index-in-Input : goal.operand-returns-in_err-index-in-Input
operand-returns-in_err-index-in-Input t c =
    let b = operand_start c.args.nesting (Some (kind.Keyword word.Input)) (sym c.next.ensures ∙ c.in-Some.is ∙ ap Some (c.in-Keyword.is ∙ ap kind.Keyword c.in-Input.is)) in
    let l = go0 refl b c.in_ok-rest-in-Input.ensures in
    let m = go0 refl l c.in_ok-inner-in-Input.ensures.answers in
    let p = err_from_is_err_and c.from_residual-in_err-index-in-Input.result c.from_residual-in_err-index-in-Input.ensures.1 in
    rw (p.1, p.2) (halt_rule0 (value_before (c.args.nesting + 1) (kind.Sign sign.CloseBracket)) _ c.in_err-index-in-Input.field-0.0 (λ x. refl)
    m
    c.in_err-index-in-Input.ensures)

pub operand-returns-in_ok-new-in-Input : goal.operand-returns-in_ok-new-in-Input
operand-returns-in_ok-new-in-Input t c =
    let b = operand_start c.args.nesting (Some (kind.Keyword word.Input)) (sym c.next.ensures ∙ c.in-Some.is ∙ ap Some (c.in-Keyword.is ∙ ap kind.Keyword c.in-Input.is)) in
    let l = go0 refl b c.in_ok-rest-in-Input.ensures in
    let m = go0 refl l c.in_ok-inner-in-Input.ensures.answers in
    rw c.in_ok-new-in-Input.ensures.ok (go_rule0 (value_before (c.args.nesting + 1) (kind.Sign sign.CloseBracket)) _ m c.in_ok-index-in-Input.ensures)

pub operand-returns-in-Name : goal.operand-returns-in-Name
operand-returns-in-Name t c =
    let b = operand_start c.args.nesting (Some kind.Name) (sym c.next.ensures ∙ c.in-Some.is ∙ ap Some c.in-Name.is) in
    through _ _ c.operand_by_name.result b c.operand_by_name.ensures

pub operand-returns-in_default-word : goal.operand-returns-in_default-word
operand-returns-in_default-word t c =
    length_fails c.args.tokens.now c.args.tokens.now (word_operand c.args.nesting _ c.in-Keyword.word (sym c.next.ensures ∙ c.in-Some.is ∙ ap Some c.in-Keyword.is) c.in_default-word.not-Len c.in_default-word.not-Input)

pub operand_by_sign-returns-in_err-inner-in-Minus : goal.operand_by_sign-returns-in_err-inner-in-Minus
operand_by_sign-returns-in_err-inner-in-Minus t c =
    let b = operand_start c.args.nesting (Some (kind.Sign sign.Minus)) (c.requires.is_next ∙ ap (λ s. Some (kind.Sign s)) c.in-Minus.is) in
    let p = err_from_is_err_and c.from_residual.result c.from_residual.ensures.1 in
    rw (p.1, p.2) (halt c.in_err-inner-in-Minus.field-0.0 (λ x. omega arith) (λ x. refl)
    b
    c.in_err-inner-in-Minus.ensures.answers)

pub operand_by_sign-returns-in_err-a-in-Minus : goal.operand_by_sign-returns-in_err-a-in-Minus
operand_by_sign-returns-in_err-a-in-Minus t c =
    let b = operand_start c.args.nesting (Some (kind.Sign sign.Minus)) (c.requires.is_next ∙ ap (λ s. Some (kind.Sign s)) c.in-Minus.is) in
    let l = go (λ x. omega arith) b c.in_ok-inner-in-Minus.ensures.answers in
    let p = err_from_is_err_and c.from_residual-in_err-a-in-Minus.result c.from_residual-in_err-a-in-Minus.ensures.1 in
    rw (p.1, p.2) (halt c.in_err-a-in-Minus.field-0.0 (λ x. omega arith) (λ x. refl)
    l
    c.in_err-a-in-Minus.ensures)

pub operand_by_sign-returns-in_ok-new-in-Minus : goal.operand_by_sign-returns-in_ok-new-in-Minus
operand_by_sign-returns-in_ok-new-in-Minus t c =
    let b = operand_start c.args.nesting (Some (kind.Sign sign.Minus)) (c.requires.is_next ∙ ap (λ s. Some (kind.Sign s)) c.in-Minus.is) in
    let l = go (λ x. omega arith) b c.in_ok-inner-in-Minus.ensures.answers in
    rw c.in_ok-new-in-Minus.ensures.ok (go (λ x. omega arith) l c.in_ok-a-in-Minus.ensures)

pub operand_by_sign-returns-in_err-inner-in-Not : goal.operand_by_sign-returns-in_err-inner-in-Not
operand_by_sign-returns-in_err-inner-in-Not t c =
    let b = operand_start c.args.nesting (Some (kind.Sign sign.Not)) (c.requires.is_next ∙ ap (λ s. Some (kind.Sign s)) c.in-Not.is) in
    let p = err_from_is_err_and c.from_residual-in_err-inner-in-Not.result c.from_residual-in_err-inner-in-Not.ensures.1 in
    rw (p.1, p.2) (halt c.in_err-inner-in-Not.field-0.0 (λ x. omega arith) (λ x. refl)
    b
    c.in_err-inner-in-Not.ensures.answers)

pub operand_by_sign-returns-in_err-a-in-Not : goal.operand_by_sign-returns-in_err-a-in-Not
operand_by_sign-returns-in_err-a-in-Not t c =
    let b = operand_start c.args.nesting (Some (kind.Sign sign.Not)) (c.requires.is_next ∙ ap (λ s. Some (kind.Sign s)) c.in-Not.is) in
    let l = go (λ x. omega arith) b c.in_ok-inner-in-Not.ensures.answers in
    let p = err_from_is_err_and c.from_residual-in_err-a-in-Not.result c.from_residual-in_err-a-in-Not.ensures.1 in
    rw (p.1, p.2) (halt c.in_err-a-in-Not.field-0.0 (λ x. omega arith) (λ x. refl)
    l
    c.in_err-a-in-Not.ensures)

pub operand_by_sign-returns-in_ok-new-in-Not : goal.operand_by_sign-returns-in_ok-new-in-Not
operand_by_sign-returns-in_ok-new-in-Not t c =
    let b = operand_start c.args.nesting (Some (kind.Sign sign.Not)) (c.requires.is_next ∙ ap (λ s. Some (kind.Sign s)) c.in-Not.is) in
    let l = go (λ x. omega arith) b c.in_ok-inner-in-Not.ensures.answers in
    rw c.in_ok-new-in-Not.ensures.ok (go (λ x. omega arith) l c.in_ok-a-in-Not.ensures)

pub operand_by_sign-returns-in_err-inner-in-OpenParen : goal.operand_by_sign-returns-in_err-inner-in-OpenParen
operand_by_sign-returns-in_err-inner-in-OpenParen t c =
    let b = operand_start c.args.nesting (Some (kind.Sign sign.OpenParen)) (c.requires.is_next ∙ ap (λ s. Some (kind.Sign s)) c.in-OpenParen.is) in
    let p = err_from_is_err_and c.from_residual-in_err-inner-in-OpenParen.result c.from_residual-in_err-inner-in-OpenParen.ensures.1 in
    rw (p.1, p.2) (halt c.in_err-inner-in-OpenParen.field-0.0 (λ x. omega arith) (λ x. refl)
    b
    c.in_err-inner-in-OpenParen.ensures.answers)

pub operand_by_sign-returns-in_ok-inner-in-OpenParen : goal.operand_by_sign-returns-in_ok-inner-in-OpenParen
operand_by_sign-returns-in_ok-inner-in-OpenParen t c =
    let b = operand_start c.args.nesting (Some (kind.Sign sign.OpenParen)) (c.requires.is_next ∙ ap (λ s. Some (kind.Sign s)) c.in-OpenParen.is) in
    let l = go (λ x. omega arith) b c.in_ok-inner-in-OpenParen.ensures.answers in
    through_rule (value_before (c.args.nesting + 1) (kind.Sign sign.CloseParen)) _ _ c.value.result (omega arith) l c.value.ensures

pub operand_by_sign-returns-in_default : goal.operand_by_sign-returns-in_default
operand_by_sign-returns-in_default t c =
    length_fails c.args.tokens.now c.args.tokens.now (sign_operand c.args.nesting _ c.args.sign c.requires.is_next c.in_default.not-Minus c.in_default.not-Not c.in_default.not-OpenParen)

pub value-returns : goal.value-returns
value-returns t c =
    followed_by (all (expression c.args.nesting)) (lexemes c.args.tokens.now) c.expr.result c.followed_by.result c.args.end (λ x. x.0) (λ e. raw_expression e.value) (λ x. lexemes x.1.now) (λ x. c.requires.ends) c.followed_by.ensures.refused c.followed_by.ensures.kept c.followed_by.ensures.token c.expr.ensures

use Rattle.std.proofs.Common.{rules, arith, inl, inr, ◌≡◌, ◌+◌, ◌*◌, ◌<◌, [], length, sym, ap, subst, ◌∙◌}
use Rattle.std.specs.Prelude.{map, OnOk}
use Rattle.spf_ast.specs.declared.syntax.Fold.{out-Fold}
use Rattle.spf_ast.specs.declared.syntax.Pair.{out-Pair}
use Rattle.spf_ast.specs.View.{function, expression, arguments, condition, block}
use Rattle.spf_ast.proofs.Views.{expression-call, statement-if, statement-for, statement-while, statement-fold, statement-pair}
use Rattle.spf_region.specs.Bounds.{negated}
use Rattle.spf_effects_findings.specs.Extends.{Extends}
use Rattle.spf_effects_findings.specs.Forms.{Entered, binary_bound, expression_bound, expression_finds, argument_bounds, arguments_find, condition_finds, statement_finds, block_finds, block_then_row, bounds_behind, bounds_at_end, declared, loop_sweeps}
use Rattle.spf_effects_findings.specs.Found.{◌then◌, perhaps, reads_element, writes_element, writes_range, turns, turn_bound}
use Rattle.spf_effects_findings.specs.Parts.{call_before}
use Rattle.spf_effects_walk.specs.Settings.{setting}
use Rattle.spf_effects_walk.proofs.Calls.{depth_at}
use Rattle.spf_effects_walk.proofs.Forms.{expr_weight, exprs_weight, cond_weight, kind_weight, stmts_weight, function_weight, fold_weight, pair_weight, expr_weight-call, kind_weight-if, kind_weight-for, kind_weight-while, kind_weight-fold, kind_weight-pair, weight_at, argument_weight_at}
use Rattle.spf_effects_walk.proofs.Leads.{arguments_next, arguments_end_bounds, arguments_end_finds, statements_next, statements_end_bounds, statements_end_finds}
use Rattle.spf_effects_walk.proofs.Results.{on_ok, if_ok}
use Rattle.spf_effects_findings.proofs.Then.{extends_then, extends_regrouped}
use Rattle.spf_effects_walk.proofs.Walked.{then_on, left_out, branched, turned, turned_plainly, written_back, called, entered_is}
use Rattle.spf_effects_walk.proofs.Weight.{weight_before, weight_of}
use Rattle.spf_effects_walk.proofs.walk.+walk.Goals as goal

pub arguments-expression-requires : goal.arguments-expression-requires
arguments-expression-requires t c =
    let m : t ≡ weight_before (map function c.args.context.now.functions.now) c.args.context.now.below + 2 * exprs_weight c.args.given.now = sym c.decreases in
    let w = argument_weight_at c.args.given.now c.loop-argument.argument-index c.argument-item.result c.loop-argument-test.true c.argument-item.is in
    let k : weight_before (map function c.args.context.now.functions.now) c.args.context.now.below + 2 * expr_weight c.argument-item.result < t = omega (arith, m, w) in
    (k, tt)

pub arguments-loop-argument-preserved : goal.arguments-loop-argument-preserved
arguments-loop-argument-preserved t c =
    let e = c.in_ok-bound.ensures {u = tt} in
    let p = c.in_ok-push.ensures {u = tt} in
    arguments_next (setting c.args.context.now) c.args.bounds.now c.args.given.now c.args.found.now c.loop-argument.argument-index c.loop-argument.known.items c.loop-argument.found c.expression.new.found c.argument-item.result c.in_ok-bound.bound c.push.new.self.items c.loop-argument-test.true c.argument-item.is e.bound p.items e.finds c.loop-argument.invariant

pub arguments-returns-clause-bounds : goal.arguments-returns-clause-bounds
arguments-returns-clause-bounds t c =
    arguments_end_bounds (setting c.args.context.now) c.args.bounds.now c.args.given.now c.args.found.now c.loop-argument.argument-index c.loop-argument.known.items c.loop-argument.found c.loop-argument-test.false c.loop-argument.invariant

pub arguments-returns-clause-finds : goal.arguments-returns-clause-finds
arguments-returns-clause-finds t c =
    arguments_end_finds (setting c.args.context.now) c.args.bounds.now c.args.given.now c.args.found.now c.loop-argument.argument-index c.loop-argument.known.items c.loop-argument.found c.loop-argument-test.false c.loop-argument.invariant

pub block-statement-requires : goal.block-statement-requires
block-statement-requires t c =
    let m : t ≡ weight_before (map function c.args.context.now.functions.now) c.args.context.now.below + 2 * stmts_weight c.args.statements.now = sym c.decreases in
    let w = weight_at c.args.statements.now c.loop-item.item-index c.item-item.result c.loop-item-test.true c.item-item.is in
    let k : weight_before (map function c.args.context.now.functions.now) c.args.context.now.below + 2 * kind_weight c.item-item.result.kind + 1 < t = omega (arith, m, w) in
    (k, tt)

pub block-loop-item-preserved : goal.block-loop-item-preserved
block-loop-item-preserved t c =
    let e = c.in_ok-statement.ensures {u = tt} in
    let lent : c.deref_mut.result.now ≡ c.loop-item.known.items = c.deref_mut.ensures.value in
    let long : c.loop-item.known.len ≡ length c.loop-item.known.items = search rules in
    let same : length c.statement.new.bounds ≡ length c.loop-item.known.items = c.statement.auto.bounds ∙ ap length lent in
    statements_next (setting c.args.context.now) c.args.bounds.now c.args.statements.now c.args.found.now c.loop-item.item-index c.loop-item.known.items c.loop-item.found c.statement.new.found c.item-item.result _ c.loop-item-test.true c.item-item.is
    (written_back c.loop-item.known.items c.statement.new.bounds c.loop-item.known.len same long ∙ rw lent at e.bounds)
    (rw lent at e.finds) c.loop-item.invariant

pub block-returns-clause-bounds : goal.block-returns-clause-bounds
block-returns-clause-bounds t c =
    statements_end_bounds (setting c.args.context.now) c.args.bounds.now c.args.statements.now c.args.found.now c.loop-item.item-index c.loop-item.known.items c.loop-item.found c.loop-item-test.false c.loop-item.invariant

pub block-returns-clause-finds : goal.block-returns-clause-finds
block-returns-clause-finds t c =
    statements_end_finds (setting c.args.context.now) c.args.bounds.now c.args.statements.now c.args.found.now c.loop-item.item-index c.loop-item.known.items c.loop-item.found c.loop-item-test.false c.loop-item.invariant

pub block_and-returns-clause-finds : goal.block_and-returns-clause-finds
block_and-returns-clause-finds t c =
    let e = c.in_ok-behind.ensures {u = tt} in
    let known = c.deref.ensures.value ∙ e.bounds in
    then_on c.expression.result (block_finds (setting c.args.context.now) c.args.bounds.now (block c.args.statements.now)) (expression_finds (setting c.args.context.now) (bounds_at_end (setting c.args.context.now) c.args.bounds.now (block c.args.statements.now)) (expression c.args.last.now)) c.args.found.now c.block.new.found c.expression.new.found e.finds
    (rw known at c.expression.ensures.finds)

pub block_and_row-returns : goal.block_and_row-returns
block_and_row-returns t c =
    let e = c.in_ok-behind.ensures {u = tt} in
    let known = c.deref.ensures.value ∙ e.bounds in
    let row = rw known at (c.in_ok-arguments.ensures {u = tt}).finds in
    record {
      finds = extends_then (block_finds (setting c.args.context.now) c.args.bounds.now (block c.args.statements.now)) (arguments_find (setting c.args.context.now) (bounds_at_end (setting c.args.context.now) c.args.bounds.now (block c.args.statements.now)) (arguments c.args.last.now)) c.args.found.now c.block.new.found c.arguments.new.found e.finds row;
    }

pub branches-returns : goal.branches-returns
branches-returns t c =
    let tested = c.in_ok-condition.ensures {u = tt} in
    let copy = c.in_ok-before.ensures {u = tt} in
    let one = c.in_ok-block.ensures {u = tt} in
    let two = c.in_ok-block-2.ensures {u = tt} in
    record {
      finds = branched c.keep_common.result (condition_finds (setting c.args.context.now) c.args.bounds.now (condition c.args.cond.now)) (block_finds (setting c.args.context.now) c.args.bounds.now (block c.args.first.now)) (block_finds (setting c.args.context.now) c.args.bounds.now (block c.args.second.now)) c.args.found.now c.condition.new.found c.block.new.found c.exchange_written-one.new.self c.block-2.new.found c.keep_common.new.self c.in_ok-before.before c.exchange_written-one.result tested.finds copy.offsets copy.wholes one.finds c.exchange_written-one.ensures.lists c.exchange_written-one.ensures.written two.finds c.keep_common.ensures;
    }

pub call-enter-requires : goal.call-enter-requires
call-enter-requires t c =
    let m : t ≡ weight_before (map function c.args.context.now.functions.now) c.args.context.now.below + 2 * exprs_weight c.args.given.now + 1 = sym c.decreases in
    let p = c.in-Some.ensures {u = tt} in
    let q = depth_at (map function c.args.context.now.functions.now) c.args.function c.args.context.now.below p.0 in
    let k : weight_before (map function c.args.context.now.functions.now) c.args.function + 2 * function_weight c.in-Some.callee.now + 2 < t = omega (arith, m, q, ap weight_of p.1) in
    (k, tt)

pub call-returns-clause-bound : goal.call-returns-clause-bound
call-returns-clause-bound t c =
    let p = c.in-Some.ensures {u = tt} in
    let e = c.in_ok-given.ensures {u = tt} in
    let same = called (map function c.args.context.now.functions.now) c.args.function c.args.context.now.below (function c.in-Some.callee.now) c.deref.result.now (argument_bounds (setting c.args.context.now) c.args.bounds.now (arguments c.args.given.now)) p.0 p.1 (c.deref.ensures.value ∙ e.bounds) in
    if_ok c.enter.result c.enter.ensures.bound (λ b h. h ∙ ap (λ (entry : Entered). entry.bound) same)

pub call-returns-clause-finds : goal.call-returns-clause-finds
call-returns-clause-finds t c =
    let p = c.in-Some.ensures {u = tt} in
    let e = c.in_ok-given.ensures {u = tt} in
    let same = called (map function c.args.context.now.functions.now) c.args.function c.args.context.now.below (function c.in-Some.callee.now) c.deref.result.now (argument_bounds (setting c.args.context.now) c.args.bounds.now (arguments c.args.given.now)) p.0 p.1 (c.deref.ensures.value ∙ e.bounds) in
    then_on c.enter.result (arguments_find (setting c.args.context.now) c.args.bounds.now (arguments c.args.given.now)) (call_before (map function c.args.context.now.functions.now) c.args.context.now.below c.args.function (argument_bounds (setting c.args.context.now) c.args.bounds.now (arguments c.args.given.now))).finds c.args.found.now c.arguments.new.found c.enter.new.found e.finds
    (subst (λ (entry : Entered). OnOk c.enter.result (Extends entry.finds c.arguments.new.found c.enter.new.found)) same c.enter.ensures.finds)

pub condition-returns-in_ok-expression-in-Compare-2 : goal.condition-returns-in_ok-expression-in-Compare-2
condition-returns-in_ok-expression-in-Compare-2 t c =
    let one = rw c.deref.ensures at (c.in_ok-expression-in-Compare.ensures {u = tt}).finds in
    let two = rw c.deref-in-Compare.ensures at (c.in_ok-expression-in-Compare-2.ensures {u = tt}).finds in
    record {
      finds = rw c.in-Compare.is (extends_then (expression_finds (setting c.args.context.now) c.args.bounds.now (expression c.in-Compare.left.value)) (expression_finds (setting c.args.context.now) c.args.bounds.now (expression c.in-Compare.right.value)) c.args.found.now c.expression.new.found c.expression-in-Compare.new.found one two);
    }

pub condition-returns-in_ok-condition-in-Both-2 : goal.condition-returns-in_ok-condition-in-Both-2
condition-returns-in_ok-condition-in-Both-2 t c =
    let one = rw c.deref-in-Both.ensures at (c.in_ok-condition-in-Both.ensures {u = tt}).finds in
    let copy = c.in_ok-before-in-Both.ensures {u = tt} in
    let two = rw c.deref-in-Both-2.ensures at (c.in_ok-condition-in-Both-2.ensures {u = tt}).finds in
    let both = extends_then (condition_finds (setting c.args.context.now) c.args.bounds.now (condition c.in-Both.first.value)) (perhaps (condition_finds (setting c.args.context.now) c.args.bounds.now (condition c.in-Both.second.value))) c.args.found.now c.condition-in-Both.new.found c.exchange_written.new.self one
    (left_out (condition_finds (setting c.args.context.now) c.args.bounds.now (condition c.in-Both.second.value)) c.condition-in-Both.new.found c.condition-in-Both-2.new.found c.exchange_written.new.self c.in_ok-before-in-Both.before two copy.offsets copy.wholes c.exchange_written.ensures.lists) in
    record { finds = elim c.in-Both.is [ inl e ↦ rw e both | inr e ↦ rw e both ] }

pub enter-returns-clause-bound : goal.enter-returns-clause-bound
enter-returns-clause-bound t c =
    let own = c.in_ok-own.ensures {u = tt} in
    let count : c.len.result ≡ length c.args.function.now.slots.items = search rules in
    let tables = rw c.deref.ensures.value at (c.in_ok-slots.ensures {u = tt}) in
    let same = entered_is (call_before (map function c.args.functions.now) c.args.index) c.in_ok-slots.slots c.args.function.now c.args.given.now c.deref-2.result.now c.len.result tables count (c.deref-2.ensures.value ∙ own) in
    if_ok c.block_and.result (rw c.deref-3.ensures.value at c.block_and.ensures.bound) (λ b h. h ∙ ap (λ (entry : Entered). entry.bound) same)

pub enter-returns-clause-finds : goal.enter-returns-clause-finds
enter-returns-clause-finds t c =
    let own = c.in_ok-own.ensures {u = tt} in
    let count : c.len.result ≡ length c.args.function.now.slots.items = search rules in
    let tables = rw c.deref.ensures.value at (c.in_ok-slots.ensures {u = tt}) in
    let same = entered_is (call_before (map function c.args.functions.now) c.args.index) c.in_ok-slots.slots c.args.function.now c.args.given.now c.deref-2.result.now c.len.result tables count (c.deref-2.ensures.value ∙ own) in
    subst (λ (entry : Entered). OnOk c.block_and.result (Extends entry.finds c.args.found.now c.block_and.new.found)) same (rw c.deref-3.ensures.value at c.block_and.ensures.finds)

pub expression-call-requires : goal.expression-call-requires
expression-call-requires t c =
    let m : t ≡ weight_before (map function c.args.context.now.functions.now) c.args.context.now.below + 2 * expr_weight c.args.expr.now = sym c.decreases in
    let e = ap expr_weight c.in-Call.is ∙ expr_weight-call c.in-Call.function c.in-Call.given in
    let d = ap exprs_weight c.deref-in-Call.ensures.value in
    let k : weight_before (map function c.args.context.now.functions.now) c.args.context.now.below + 2 * exprs_weight c.deref-in-Call.result.now + 1 < t = omega (arith, m, e, d) in
    (k, tt)

pub expression-returns-in_ok-expression-in-Input-clause-finds : goal.expression-returns-in_ok-expression-in-Input-clause-finds
expression-returns-in_ok-expression-in-Input-clause-finds t c =
    rw (c.in-Input.is, ← c.deref.ensures) (c.in_ok-expression-in-Input.ensures {u = tt}).finds

pub expression-returns-in_ok-read_element-in-Load-clause-finds : goal.expression-returns-in_ok-read_element-in-Load-clause-finds
expression-returns-in_ok-read_element-in-Load-clause-finds t c =
    let e = rw c.deref-in-Load.ensures at (c.in_ok-index-in-Load.ensures {u = tt}) in
    let r = c.in_ok-read_element-in-Load.ensures {u = tt} in
    rw c.in-Load.is (extends_then (expression_finds (setting c.args.context.now) c.args.bounds.now (expression c.in-Load.index.value)) (reads_element c.in-Load.array (expression_bound (setting c.args.context.now) c.args.bounds.now (expression c.in-Load.index.value))) c.args.found.now c.expression-in-Load.new.found c.read_element.new.self e.finds (rw e.bound at r))

pub expression-returns-in-Call-clause-bound : goal.expression-returns-in-Call-clause-bound
expression-returns-in-Call-clause-bound t c =
    rw c.in-Call.is (if_ok c.call.result (rw c.deref-in-Call.ensures.value at c.call.ensures.bound) (λ b h. h ∙ ap (expression_bound (setting c.args.context.now) c.args.bounds.now) (sym (expression-call c.in-Call.function c.in-Call.given))))

pub expression-returns-in-Call-clause-finds : goal.expression-returns-in-Call-clause-finds
expression-returns-in-Call-clause-finds t c =
    rw c.in-Call.is (subst (λ form. OnOk c.call.result (Extends (expression_finds (setting c.args.context.now) c.args.bounds.now form) c.args.found.now c.call.new.found)) (sym (expression-call c.in-Call.function c.in-Call.given)) (rw c.deref-in-Call.ensures.value at c.call.ensures.finds))

pub expression-returns-in_ok-inner-in-Neg-clause-bound : goal.expression-returns-in_ok-inner-in-Neg-clause-bound
expression-returns-in_ok-inner-in-Neg-clause-bound t c =
    rw (c.negate.ensures.negated, c.in-Neg.is, ← c.deref-in-Neg.ensures) (ap negated (c.in_ok-inner-in-Neg.ensures {u = tt}).bound)

pub expression-returns-in_ok-inner-in-Neg-clause-finds : goal.expression-returns-in_ok-inner-in-Neg-clause-finds
expression-returns-in_ok-inner-in-Neg-clause-finds t c =
    rw (c.in-Neg.is, ← c.deref-in-Neg.ensures) (c.in_ok-inner-in-Neg.ensures {u = tt}).finds

pub expression-returns-in_ok-right-in-Binary-clause-bound : goal.expression-returns-in_ok-right-in-Binary-clause-bound
expression-returns-in_ok-right-in-Binary-clause-bound t c =
    let one = c.in_ok-left-in-Binary.ensures {u = tt} in
    let two = c.in_ok-right-in-Binary.ensures {u = tt} in
    rw (c.binary_bound.ensures, c.in-Binary.is, ← c.deref-in-Binary.ensures, ← c.deref-in-Binary-2.ensures) (λ i. binary_bound c.in-Binary.op (one.bound i) (two.bound i))

pub expression-returns-in_ok-right-in-Binary-clause-finds : goal.expression-returns-in_ok-right-in-Binary-clause-finds
expression-returns-in_ok-right-in-Binary-clause-finds t c =
    let one = c.in_ok-left-in-Binary.ensures {u = tt} in
    let two = c.in_ok-right-in-Binary.ensures {u = tt} in
    rw (c.in-Binary.is, ← c.deref-in-Binary.ensures, ← c.deref-in-Binary-2.ensures) (extends_then (expression_finds (setting c.args.context.now) c.args.bounds.now (expression c.deref-in-Binary.result.now)) (expression_finds (setting c.args.context.now) c.args.bounds.now (expression c.deref-in-Binary-2.result.now)) c.args.found.now c.expression-in-Binary.new.found c.expression-in-Binary-2.new.found one.finds two.finds)

pub fold_turns-returns : goal.fold_turns-returns
fold_turns-returns t c =
    let copy = c.in_ok-before.ensures {u = tt} in
    let cloned = c.in_ok-inner.ensures {u = tt} in
    let lent = c.deref_mut.ensures.value ∙ cloned.items in
    let made = rw (lent, c.turn_bound.ensures) at c.declare.ensures in
    let long : c.in_ok-inner.inner.len ≡ length c.in_ok-inner.inner.items = search rules in
    let same : length c.declare.new.bounds ≡ length c.in_ok-inner.inner.items = c.declare.auto.bounds ∙ ap length c.deref_mut.ensures.value in
    let known = c.deref.ensures.value ∙ written_back c.in_ok-inner.inner.items c.declare.new.bounds c.in_ok-inner.inner.len same long ∙ made in
    let walked = rw (known, c.deref-2.ensures.value, c.deref-3.ensures.value) at (c.in_ok-block_and_row.ensures {u = tt}).finds in
    record {
      finds = turned_plainly c.args.low c.args.high (block_then_row (setting c.args.context.now) (declared (setting c.args.context.now) (out-Fold c.args.fold.now).block (turn_bound c.args.low c.args.high) c.args.bounds.now) (block (out-Fold c.args.fold.now).body.items) (arguments (out-Fold c.args.fold.now).next.items)) c.args.found.now c.block_and_row.new.found c.leave_loop.new.self c.in_ok-before.before (sym c.has_no_turn.ensures ∙ c.if-has_no_turn.false) walked copy.offsets copy.wholes c.leave_loop.ensures;
    }

pub for_turns-returns : goal.for_turns-returns
for_turns-returns t c =
    let copy = c.in_ok-before.ensures {u = tt} in
    let cloned = c.in_ok-inner.ensures {u = tt} in
    let lent = c.deref_mut.ensures.value ∙ cloned.items in
    let made = rw (lent, c.turn_bound.ensures) at c.declare.ensures in
    let long : c.in_ok-inner.inner.len ≡ length c.in_ok-inner.inner.items = search rules in
    let same : length c.declare.new.bounds ≡ length c.in_ok-inner.inner.items = c.declare.auto.bounds ∙ ap length c.deref_mut.ensures.value in
    let known = c.deref.ensures.value ∙ written_back c.in_ok-inner.inner.items c.declare.new.bounds c.in_ok-inner.inner.len same long ∙ made in
    let walked = rw known at (c.in_ok-block.ensures {u = tt}).finds in
    record {
      finds = turned c.sweep.result c.args.low c.args.high (loop_sweeps c.args.slot (block c.args.body.now)) (block_finds (setting c.args.context.now) (declared (setting c.args.context.now) c.args.slot (turn_bound c.args.low c.args.high) c.args.bounds.now) (block c.args.body.now)) c.args.found.now c.block.new.found c.leave_loop.new.self c.sweep.new.found c.in_ok-before.before (sym c.has_no_turn.ensures ∙ c.if-has_no_turn.false) walked copy.offsets copy.wholes c.leave_loop.ensures c.sweep.ensures;
    }

pub while_turns-returns : goal.while_turns-returns
while_turns-returns t c =
    let tested = c.in_ok-condition.ensures {u = tt} in
    let copy = c.in_ok-before.ensures {u = tt} in
    let walked = c.in_ok-block.ensures {u = tt} in
    record {
      finds = extends_then (condition_finds (setting c.args.context.now) c.args.bounds.now (condition c.args.cond.now)) (perhaps (block_finds (setting c.args.context.now) c.args.bounds.now (block c.args.body.now))) c.args.found.now c.condition.new.found c.leave_loop.new.self tested.finds
          (left_out (block_finds (setting c.args.context.now) c.args.bounds.now (block c.args.body.now)) c.condition.new.found c.block.new.found c.leave_loop.new.self c.in_ok-before.before walked.finds copy.offsets copy.wholes c.leave_loop.ensures);
    }

pub inner_fold-returns : goal.inner_fold-returns
inner_fold-returns t c =
    let start = rw c.deref.ensures.value at (c.in_ok-arguments.ensures {u = tt}).finds in
    let low = c.in_ok-low.ensures {u = tt} in
    let high = c.in_ok-high.ensures {u = tt} in
    let turns_of = turns (expression_bound (setting c.args.context.now) c.args.bounds.now (expression (out-Fold c.args.fold.now).low)) (expression_bound (setting c.args.context.now) c.args.bounds.now (expression (out-Fold c.args.fold.now).high)) [] (block_then_row (setting c.args.context.now) (declared (setting c.args.context.now) (out-Fold c.args.fold.now).block (turn_bound (expression_bound (setting c.args.context.now) c.args.bounds.now (expression (out-Fold c.args.fold.now).low)) (expression_bound (setting c.args.context.now) c.args.bounds.now (expression (out-Fold c.args.fold.now).high))) c.args.bounds.now) (block (out-Fold c.args.fold.now).body.items) (arguments (out-Fold c.args.fold.now).next.items)) in
    let k = rw (low.bound, high.bound) at c.fold_turns.ensures.finds in
    record {
      finds = then_on c.fold_turns.result (arguments_find (setting c.args.context.now) c.args.bounds.now (arguments (out-Fold c.args.fold.now).start.items)) ((expression_finds (setting c.args.context.now) c.args.bounds.now (expression (out-Fold c.args.fold.now).low)) then (expression_finds (setting c.args.context.now) c.args.bounds.now (expression (out-Fold c.args.fold.now).high)) then turns_of) c.args.found.now c.arguments.new.found c.fold_turns.new.found start
          (then_on c.fold_turns.result (expression_finds (setting c.args.context.now) c.args.bounds.now (expression (out-Fold c.args.fold.now).low)) ((expression_finds (setting c.args.context.now) c.args.bounds.now (expression (out-Fold c.args.fold.now).high)) then turns_of) c.arguments.new.found c.expression.new.found c.fold_turns.new.found low.finds
          (then_on c.fold_turns.result (expression_finds (setting c.args.context.now) c.args.bounds.now (expression (out-Fold c.args.fold.now).high)) turns_of c.expression.new.found c.expression-2.new.found c.fold_turns.new.found high.finds k));
    }

pub inner_pair-returns : goal.inner_pair-returns
inner_pair-returns t c =
    let one = rw (c.deref.ensures.value, c.deref-2.ensures.value) at (c.in_ok-block_and_row.ensures {u = tt}).finds in
    let two = rw c.deref-3.ensures.value at (c.in_ok-block.ensures {u = tt}).finds in
    record {
      finds = extends_regrouped (block_finds (setting c.args.context.now) c.args.bounds.now (block (out-Pair c.args.pair.now).producer.items)) (arguments_find (setting c.args.context.now) (bounds_at_end (setting c.args.context.now) c.args.bounds.now (block (out-Pair c.args.pair.now).producer.items)) (arguments (out-Pair c.args.pair.now).give.items)) (block_finds (setting c.args.context.now) c.args.bounds.now (block (out-Pair c.args.pair.now).consumer.items)) c.args.found.now c.block_and_row.new.found c.block.new.found one two;
    }

pub statement-branches-requires : goal.statement-branches-requires
statement-branches-requires t c =
    let m : t ≡ weight_before (map function c.args.context.now.functions.now) c.args.context.now.below + 2 * kind_weight c.args.kind.now + 1 = sym c.decreases in
    let e = ap kind_weight c.in-If.is ∙ kind_weight-if c.in-If.cond c.in-If.first c.in-If.second in
    let d = ap stmts_weight c.deref.ensures.value in
    let f = ap stmts_weight c.deref-in-If.ensures.value in
    let k : weight_before (map function c.args.context.now.functions.now) c.args.context.now.below + 2 * (cond_weight c.in-If.cond + stmts_weight c.deref.result.now + stmts_weight c.deref-in-If.result.now) + 1 < t = omega (arith, m, e, d, f) in
    (k, tt)

pub statement-for_turns-requires : goal.statement-for_turns-requires
statement-for_turns-requires t c =
    let m : t ≡ weight_before (map function c.args.context.now.functions.now) c.args.context.now.below + 2 * kind_weight c.args.kind.now + 1 = sym c.decreases in
    let e = ap kind_weight c.in-For.is ∙ kind_weight-for c.in-For.slot c.in-For.low c.in-For.high c.in-For.body in
    let d = ap stmts_weight c.deref-in-For.ensures.value in
    let k : weight_before (map function c.args.context.now.functions.now) c.args.context.now.below + 2 * stmts_weight c.deref-in-For.result.now + 1 < t = omega (arith, m, e, d) in
    (k, tt)

pub statement-while_turns-requires : goal.statement-while_turns-requires
statement-while_turns-requires t c =
    let m : t ≡ weight_before (map function c.args.context.now.functions.now) c.args.context.now.below + 2 * kind_weight c.args.kind.now + 1 = sym c.decreases in
    let e = ap kind_weight c.in-While.is ∙ kind_weight-while c.in-While.cond c.in-While.field-1 c.in-While.body in
    let d = ap stmts_weight c.deref-in-While.ensures.value in
    let k : weight_before (map function c.args.context.now.functions.now) c.args.context.now.below + 2 * (cond_weight c.in-While.cond + stmts_weight c.deref-in-While.result.now) + 1 < t = omega (arith, m, e, d) in
    (k, tt)

pub statement-inner_fold-requires : goal.statement-inner_fold-requires
statement-inner_fold-requires t c =
    let m : t ≡ weight_before (map function c.args.context.now.functions.now) c.args.context.now.below + 2 * kind_weight c.args.kind.now + 1 = sym c.decreases in
    let e = ap kind_weight c.in-Fold.is ∙ kind_weight-fold c.in-Fold.fold in
    let d = ap fold_weight c.deref-in-Fold.ensures in
    let k : weight_before (map function c.args.context.now.functions.now) c.args.context.now.below + 2 * fold_weight c.deref-in-Fold.result.now < t = omega (arith, m, e, d) in
    (k, tt)

pub statement-inner_pair-requires : goal.statement-inner_pair-requires
statement-inner_pair-requires t c =
    let m : t ≡ weight_before (map function c.args.context.now.functions.now) c.args.context.now.below + 2 * kind_weight c.args.kind.now + 1 = sym c.decreases in
    let e = ap kind_weight c.in-Pair.is ∙ kind_weight-pair c.in-Pair.pair in
    let d = ap pair_weight c.deref-in-Pair.ensures in
    let k : weight_before (map function c.args.context.now.functions.now) c.args.context.now.below + 2 * pair_weight c.deref-in-Pair.result.now < t = omega (arith, m, e, d) in
    (k, tt)

pub statement-returns-in_ok-bound-in-Let-clause-finds : goal.statement-returns-in_ok-bound-in-Let-clause-finds
statement-returns-in_ok-bound-in-Let-clause-finds t c =
    rw c.in-Let.is (c.in_ok-bound-in-Let.ensures {u = tt}).finds

pub statement-returns-in_ok-expression-in-Assign-clause-finds : goal.statement-returns-in_ok-expression-in-Assign-clause-finds
statement-returns-in_ok-expression-in-Assign-clause-finds t c =
    let value = (c.in_ok-expression-in-Assign.ensures {u = tt}).finds in
    elim c.in-Assign.is [ inl e ↦ rw e.1 value | inr e ↦ rw e value ]

pub statement-returns-in_ok-expression-in-Store-clause-finds : goal.statement-returns-in_ok-expression-in-Store-clause-finds
statement-returns-in_ok-expression-in-Store-clause-finds t c =
    let index = c.in_ok-index-in-Store.ensures {u = tt} in
    let value = c.in_ok-expression-in-Store.ensures {u = tt} in
    let write = writes_element c.in-Store.array (expression_bound (setting c.args.context.now) c.args.bounds.now (expression c.in-Store.index)) in
    rw c.in-Store.is (then_on c.write_element.result (expression_finds (setting c.args.context.now) c.args.bounds.now (expression c.in-Store.index)) ((expression_finds (setting c.args.context.now) c.args.bounds.now (expression c.in-Store.value)) then write) c.args.found.now c.expression-in-Store.new.found c.write_element.new.self index.finds
    (then_on c.write_element.result (expression_finds (setting c.args.context.now) c.args.bounds.now (expression c.in-Store.value)) write c.expression-in-Store.new.found c.expression-in-Store-2.new.found c.write_element.new.self value.finds (rw index.bound at c.write_element.ensures)))

pub fill-returns : goal.fill-returns
fill-returns t c =
    let low = c.in_ok-low.ensures {u = tt} in
    let high = c.in_ok-high.ensures {u = tt} in
    let value = c.in_ok-expression.ensures {u = tt} in
    let write = writes_range c.args.array (expression_bound (setting c.args.context.now) c.args.bounds.now (expression c.args.low.now)) (expression_bound (setting c.args.context.now) c.args.bounds.now (expression c.args.high.now)) in
    record {
      finds = then_on c.write_range.result (expression_finds (setting c.args.context.now) c.args.bounds.now (expression c.args.low.now)) ((expression_finds (setting c.args.context.now) c.args.bounds.now (expression c.args.high.now)) then (expression_finds (setting c.args.context.now) c.args.bounds.now (expression c.args.value.now)) then write) c.args.found.now c.expression.new.found c.write_range.new.self low.finds
          (then_on c.write_range.result (expression_finds (setting c.args.context.now) c.args.bounds.now (expression c.args.high.now)) ((expression_finds (setting c.args.context.now) c.args.bounds.now (expression c.args.value.now)) then write) c.expression.new.found c.expression-2.new.found c.write_range.new.self high.finds
          (then_on c.write_range.result (expression_finds (setting c.args.context.now) c.args.bounds.now (expression c.args.value.now)) write c.expression-2.new.found c.expression-3.new.found c.write_range.new.self value.finds (rw (low.bound, high.bound) at c.write_range.ensures)));
    }

pub statement-returns-in-Fill-clause-finds : goal.statement-returns-in-Fill-clause-finds
statement-returns-in-Fill-clause-finds t c = rw c.in-Fill.is c.fill.ensures.finds

pub statement-returns-in-If-clause-finds : goal.statement-returns-in-If-clause-finds
statement-returns-in-If-clause-finds t c =
    rw c.in-If.is (subst (λ form. OnOk c.branches.result (Extends (statement_finds (setting c.args.context.now) c.args.bounds.now form) c.args.found.now c.branches.new.found)) (sym (statement-if c.in-If.cond c.in-If.first c.in-If.second)) (rw (c.deref.ensures.value, c.deref-in-If.ensures.value) at c.branches.ensures.finds))

pub statement-returns-in_ok-high-in-For-clause-finds : goal.statement-returns-in_ok-high-in-For-clause-finds
statement-returns-in_ok-high-in-For-clause-finds t c =
    let low = c.in_ok-low-in-For.ensures {u = tt} in
    let high = c.in_ok-high-in-For.ensures {u = tt} in
    let turns_of = turns (expression_bound (setting c.args.context.now) c.args.bounds.now (expression c.in-For.low)) (expression_bound (setting c.args.context.now) c.args.bounds.now (expression c.in-For.high)) (loop_sweeps c.in-For.slot (block c.in-For.body.items)) (block_finds (setting c.args.context.now) (declared (setting c.args.context.now) c.in-For.slot (turn_bound (expression_bound (setting c.args.context.now) c.args.bounds.now (expression c.in-For.low)) (expression_bound (setting c.args.context.now) c.args.bounds.now (expression c.in-For.high))) c.args.bounds.now) (block c.in-For.body.items)) in
    let k = rw (c.deref-in-For.ensures.value, low.bound, high.bound) at c.for_turns.ensures.finds in
    rw c.in-For.is (subst (λ form. OnOk c.for_turns.result (Extends (statement_finds (setting c.args.context.now) c.args.bounds.now form) c.args.found.now c.for_turns.new.found)) (sym (statement-for c.in-For.slot c.in-For.low c.in-For.high c.in-For.body))
    (then_on c.for_turns.result (expression_finds (setting c.args.context.now) c.args.bounds.now (expression c.in-For.low)) ((expression_finds (setting c.args.context.now) c.args.bounds.now (expression c.in-For.high)) then turns_of) c.args.found.now c.expression-in-For.new.found c.for_turns.new.found low.finds
    (then_on c.for_turns.result (expression_finds (setting c.args.context.now) c.args.bounds.now (expression c.in-For.high)) turns_of c.expression-in-For.new.found c.expression-in-For-2.new.found c.for_turns.new.found high.finds k)))

pub statement-returns-in-While-clause-finds : goal.statement-returns-in-While-clause-finds
statement-returns-in-While-clause-finds t c =
    rw c.in-While.is (subst (λ form. OnOk c.while_turns.result (Extends (statement_finds (setting c.args.context.now) c.args.bounds.now form) c.args.found.now c.while_turns.new.found)) (sym (statement-while c.in-While.cond c.in-While.field-1 c.in-While.body)) (rw c.deref-in-While.ensures.value at c.while_turns.ensures.finds))

pub statement-returns-in_ok-call-in-Call-clause-finds : goal.statement-returns-in_ok-call-in-Call-clause-finds
statement-returns-in_ok-call-in-Call-clause-finds t c =
    rw (c.in-Call.is, ← c.deref-in-Call.ensures.value) (c.in_ok-call-in-Call.ensures {u = tt}).finds

pub statement-returns-in-Fold-clause-bounds : goal.statement-returns-in-Fold-clause-bounds
statement-returns-in-Fold-clause-bounds t c =
    on_ok c.inner_fold.result c.inner_fold.ensures.finds (λ _. rw c.in-Fold.is (ap (bounds_behind (setting c.args.context.now) c.args.bounds.now) (sym (statement-fold c.in-Fold.fold))))

pub statement-returns-in-Fold-clause-finds : goal.statement-returns-in-Fold-clause-finds
statement-returns-in-Fold-clause-finds t c =
    rw c.in-Fold.is (subst (λ form. OnOk c.inner_fold.result (Extends (statement_finds (setting c.args.context.now) c.args.bounds.now form) c.args.found.now c.inner_fold.new.found)) (sym (statement-fold c.in-Fold.fold)) (rw c.deref-in-Fold.ensures at c.inner_fold.ensures.finds))

pub statement-returns-in-Pair-clause-bounds : goal.statement-returns-in-Pair-clause-bounds
statement-returns-in-Pair-clause-bounds t c =
    on_ok c.inner_pair.result c.inner_pair.ensures.finds (λ _. rw c.in-Pair.is (ap (bounds_behind (setting c.args.context.now) c.args.bounds.now) (sym (statement-pair c.in-Pair.pair))))

pub statement-returns-in-Pair-clause-finds : goal.statement-returns-in-Pair-clause-finds
statement-returns-in-Pair-clause-finds t c =
    rw c.in-Pair.is (subst (λ form. OnOk c.inner_pair.result (Extends (statement_finds (setting c.args.context.now) c.args.bounds.now form) c.args.found.now c.inner_pair.new.found)) (sym (statement-pair c.in-Pair.pair)) (rw c.deref-in-Pair.ensures at c.inner_pair.ensures.finds))

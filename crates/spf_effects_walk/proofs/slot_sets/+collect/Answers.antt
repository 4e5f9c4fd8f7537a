use Rattle.std.proofs.Common.{ap, ◌∙◌}
use Rattle.spf_ast.specs.View.{block, fold_head, pair_head}
use Rattle.spf_ast.specs.declared.syntax.Fold.{out-Fold}
use Rattle.spf_ast.specs.declared.syntax.Pair.{out-Pair}
use Rattle.spf_effects_walk.specs.SlotSets.{has_slot, sets_of, with_slot, with_block}
use Rattle.spf_effects_walk.proofs.Results.{on_ok}
use Rattle.spf_effects_walk.proofs.SlotSets.{let_with, assign_with, if_with, for_with, while_with, fold_with, pair_with, fold_kind_with, pair_kind_with, with_next, with_none}
use Rattle.spf_effects_walk.proofs.slot_sets.+collect.Goals as goal

pub collect-loop-statement-preserved : goal.collect-loop-statement-preserved
collect-loop-statement-preserved t c =
    with_next c.args.statements.now c.loop-statement.statement-index c.statement-item.result (sets_of c.loop-statement.slots) (sets_of c.collect_statement.new.slots) (with_block (block c.args.statements.now) (sets_of c.args.slots.now)) c.loop-statement-test.true c.statement-item.is (c.in_ok-collect_statement.ensures {u = tt}) c.loop-statement.invariant

pub collect-returns : goal.collect-returns
collect-returns t c =
    with_none c.args.statements.now c.loop-statement.statement-index (sets_of c.loop-statement.slots) (with_block (block c.args.statements.now) (sets_of c.args.slots.now)) c.loop-statement-test.false c.loop-statement.invariant

pub collect_fold-returns : goal.collect_fold-returns
collect_fold-returns t c =
    let f = out-Fold c.args.fold.now in
    let both = c.in_ok-insert.ensures {u = tt} ∙ ap (with_slot f.block) (rw c.deref.ensures.value at (c.in_ok-insert_each.ensures {u = tt})) in
    on_ok c.collect.result (rw c.deref-2.ensures.value at c.collect.ensures) (λ e.
    e ∙ (λ i. with_block (block f.body.items) (record { assigned = has_slot c.args.slots.now.assigned; declared = both i }))
    ∙ fold_with (fold_head c.args.fold.now) (block f.body.items) (sets_of c.args.slots.now))

pub collect_pair-returns : goal.collect_pair-returns
collect_pair-returns t c =
    let p = out-Pair c.args.pair.now in
    let one = rw c.deref.ensures.value at (c.in_ok-insert_each.ensures {u = tt}) in
    on_ok c.collect-2.result (rw c.deref-3.ensures.value at c.collect-2.ensures) (λ e.
    e ∙ ap (with_block (block p.consumer.items)) (rw c.deref-2.ensures.value at (c.in_ok-collect.ensures {u = tt}))
    ∙ (λ i. with_block (block p.consumer.items) (with_block (block p.producer.items) (record { assigned = has_slot c.args.slots.now.assigned; declared = one i })))
    ∙ pair_with (pair_head c.args.pair.now) (block p.producer.items) (block p.consumer.items) (sets_of c.args.slots.now))

pub collect_statement-returns-in-Let : goal.collect_statement-returns-in-Let
collect_statement-returns-in-Let t c =
    on_ok c.insert.result c.insert.ensures (λ e.
    (λ i. record { assigned = has_slot c.args.slots.now.assigned; declared = e i })
    ∙ let_with c.args.kind.now c.in-Let.slot c.in-Let.field-1 c.in-Let.is (sets_of c.args.slots.now))

pub collect_statement-returns-in-Assign : goal.collect_statement-returns-in-Assign
collect_statement-returns-in-Assign t c =
    on_ok c.insert-in-Assign.result c.insert-in-Assign.ensures (λ e.
    (λ i. record { assigned = e i; declared = has_slot c.args.slots.now.declared })
    ∙ assign_with c.args.kind.now c.in-Assign.slot c.in-Assign.field-1 c.in-Assign.is (sets_of c.args.slots.now))

pub collect_statement-returns-in_ok-collect-in-If : goal.collect_statement-returns-in_ok-collect-in-If
collect_statement-returns-in_ok-collect-in-If t c =
    on_ok c.collect-in-If.result c.collect-in-If.ensures (λ e.
    e ∙ ap (λ l. with_block (block l) (sets_of c.collect.new.slots)) c.deref-in-If.ensures.value
    ∙ ap (with_block (block c.in-If.second.items)) (rw c.deref.ensures.value at (c.in_ok-collect-in-If.ensures {u = tt}))
    ∙ if_with c.args.kind.now c.in-If.field-0 c.in-If.first c.in-If.second c.in-If.is (sets_of c.args.slots.now))

pub collect_statement-returns-in_ok-insert-in-For : goal.collect_statement-returns-in_ok-insert-in-For
collect_statement-returns-in_ok-insert-in-For t c =
    let one = c.in_ok-insert-in-For.ensures {u = tt} in
    on_ok c.collect-in-For.result (rw c.deref-in-For.ensures.value at c.collect-in-For.ensures) (λ e.
    e ∙ (λ i. with_block (block c.in-For.body.items) (record { assigned = has_slot c.args.slots.now.assigned; declared = one i }))
    ∙ for_with c.args.kind.now c.in-For.slot c.in-For.field-1 c.in-For.field-2 c.in-For.body c.in-For.is (sets_of c.args.slots.now))

pub collect_statement-returns-in-While : goal.collect_statement-returns-in-While
collect_statement-returns-in-While t c =
    on_ok c.collect-in-While.result c.collect-in-While.ensures (λ e.
    e ∙ ap (λ l. with_block (block l) (sets_of c.args.slots.now)) c.deref-in-While.ensures.value
    ∙ while_with c.args.kind.now c.in-While.field-0 c.in-While.field-1 c.in-While.body c.in-While.is (sets_of c.args.slots.now))

pub collect_statement-returns-in-Fold : goal.collect_statement-returns-in-Fold
collect_statement-returns-in-Fold t c =
    on_ok c.collect_fold.result (rw c.deref-in-Fold.ensures at c.collect_fold.ensures) (λ e.
    e ∙ fold_kind_with c.args.kind.now c.in-Fold.fold c.in-Fold.is (sets_of c.args.slots.now))

pub collect_statement-returns-in-Pair : goal.collect_statement-returns-in-Pair
collect_statement-returns-in-Pair t c =
    on_ok c.collect_pair.result (rw c.deref-in-Pair.ensures at c.collect_pair.ensures) (λ e.
    e ∙ pair_kind_with c.args.kind.now c.in-Pair.pair c.in-Pair.is (sets_of c.args.slots.now))

use Rattle.std.proofs.Common.{◌+◌, refl, sym, ap, ◌∙◌}
use Rattle.std.specs.Prelude.{◌||◌}
use Rattle.spf_ast.specs.View.{block}
use Rattle.spf_ast.specs.Slots.{emits}
use Rattle.spf_effects_walk.proofs.Walks.{emits_from, emits_at, emits_none, if_emits, for_emits, while_emits, fold_emits, pair_emits}
use Rattle.spf_effects_walk.proofs.slots.+emits.Goals as goal

pub emits-loop-statement-init : goal.emits-loop-statement-init
emits-loop-statement-init t c = refl

pub emits-returns-then-statement_emits : goal.emits-returns-then-statement_emits
emits-returns-then-statement_emits t c =
    let all = c.args.statements.now in
    let i = c.loop-statement.statement-index in
    let x = c.statement-item.result in
    sym (c.loop-statement.invariant ∙ emits_at all i x c.loop-statement-test.true c.statement-item.is ∙ ap (λ b. b || emits_from all (i + 1)) (sym c.statement_emits.ensures ∙ c.if-statement_emits.true))

pub emits-loop-statement-preserved : goal.emits-loop-statement-preserved
emits-loop-statement-preserved t c =
    let all = c.args.statements.now in
    let i = c.loop-statement.statement-index in
    let x = c.statement-item.result in
    c.loop-statement.invariant ∙ emits_at all i x c.loop-statement-test.true c.statement-item.is ∙ ap (λ b. b || emits_from all (i + 1)) (sym c.statement_emits.ensures ∙ c.if-statement_emits.false)

pub emits-returns : goal.emits-returns
emits-returns t c =
    sym (c.loop-statement.invariant ∙ emits_none c.args.statements.now c.loop-statement.statement-index c.loop-statement-test.false)

pub statement_emits-returns-then-emits : goal.statement_emits-returns-then-emits
statement_emits-returns-then-emits t c =
    c.if-emits.true ∙ sym (if_emits c.args.kind.now c.in-If.field-0 c.in-If.first c.in-If.second c.in-If.is c.deref.result.now c.in-If.second.items c.deref.ensures.value refl ∙ ap (λ b. b || emits (block c.in-If.second.items)) (sym c.emits.ensures ∙ c.if-emits.true))

pub statement_emits-returns-else-emits : goal.statement_emits-returns-else-emits
statement_emits-returns-else-emits t c =
    let is = if_emits c.args.kind.now c.in-If.field-0 c.in-If.first c.in-If.second c.in-If.is c.deref.result.now c.deref-else-emits.result.now c.deref.ensures.value c.deref-else-emits.ensures.value in
    c.emits-else-emits.ensures ∙ sym (is ∙ ap (λ b. b || emits (block c.deref-else-emits.result.now)) (sym c.emits.ensures ∙ c.if-emits.false))

pub statement_emits-returns-in-For : goal.statement_emits-returns-in-For
statement_emits-returns-in-For t c =
    c.emits-in-For.ensures ∙ sym (for_emits c.args.kind.now c.in-For.field-0 c.in-For.field-1 c.in-For.field-2 c.in-For.body c.in-For.is c.deref-in-For.result.now c.deref-in-For.ensures.value)

pub statement_emits-returns-in-While : goal.statement_emits-returns-in-While
statement_emits-returns-in-While t c =
    c.emits-in-While.ensures ∙ sym (while_emits c.args.kind.now c.in-While.field-0 c.in-While.field-1 c.in-While.body c.in-While.is c.deref-in-While.result.now c.deref-in-While.ensures.value)

pub statement_emits-returns-in-Fold : goal.statement_emits-returns-in-Fold
statement_emits-returns-in-Fold t c =
    c.fold_emits.ensures ∙ sym (fold_emits c.args.kind.now c.in-Fold.fold c.in-Fold.is c.deref-in-Fold.result.now c.deref-in-Fold.ensures)

pub statement_emits-returns-in-Pair : goal.statement_emits-returns-in-Pair
statement_emits-returns-in-Pair t c =
    c.pair_emits.ensures ∙ sym (pair_emits c.args.kind.now c.in-Pair.pair c.in-Pair.is c.deref-in-Pair.result.now c.deref-in-Pair.ensures)

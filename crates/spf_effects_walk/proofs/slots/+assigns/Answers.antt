use Rattle.std.proofs.Common.{◌+◌, refl, sym, ap, ◌∙◌}
use Rattle.std.specs.Prelude.{◌||◌, not}
use Rattle.spf_ast.specs.View.{block}
use Rattle.spf_ast.specs.Slots.{assigns}
use Rattle.spf_effects_walk.specs.SlotSets.{has_slot}
use Rattle.spf_effects_walk.proofs.Assigns.{assigns_from, assigns_at, assigns_none, if_assigns, for_assigns, while_assigns, fold_assigns, pair_assigns}
use Rattle.spf_effects_walk.proofs.slots.+assigns.Goals as goal

pub assigns_other-loop-statement-init : goal.assigns_other-loop-statement-init
assigns_other-loop-statement-init t c = refl

pub assigns_other-returns-then-statement_assigns_other : goal.assigns_other-returns-then-statement_assigns_other
assigns_other-returns-then-statement_assigns_other t c =
    let all = c.args.statements.now in
    let i = c.loop-statement.statement-index in
    let x = c.statement-item.result in
    sym (c.loop-statement.invariant ∙ assigns_at (λ slot. not (has_slot c.args.declared.now slot)) all i x c.loop-statement-test.true c.statement-item.is ∙ ap (λ b. b || assigns_from (λ slot. not (has_slot c.args.declared.now slot)) all (i + 1)) (sym c.statement_assigns_other.ensures ∙ c.if-statement_assigns_other.true))

pub assigns_other-loop-statement-preserved : goal.assigns_other-loop-statement-preserved
assigns_other-loop-statement-preserved t c =
    let all = c.args.statements.now in
    let i = c.loop-statement.statement-index in
    let x = c.statement-item.result in
    c.loop-statement.invariant ∙ assigns_at (λ slot. not (has_slot c.args.declared.now slot)) all i x c.loop-statement-test.true c.statement-item.is ∙ ap (λ b. b || assigns_from (λ slot. not (has_slot c.args.declared.now slot)) all (i + 1)) (sym c.statement_assigns_other.ensures ∙ c.if-statement_assigns_other.false)

pub assigns_other-returns : goal.assigns_other-returns
assigns_other-returns t c =
    sym (c.loop-statement.invariant ∙ assigns_none (λ slot. not (has_slot c.args.declared.now slot)) c.args.statements.now c.loop-statement.statement-index c.loop-statement-test.false)

pub statement_assigns_other-returns-then-assigns_other : goal.statement_assigns_other-returns-then-assigns_other
statement_assigns_other-returns-then-assigns_other t c =
    c.if-assigns_other.true ∙ sym (if_assigns (λ slot. not (has_slot c.args.declared.now slot)) c.args.kind.now c.in-If.field-0 c.in-If.first c.in-If.second c.in-If.is c.deref.result.now c.in-If.second.items c.deref.ensures.value refl ∙ ap (λ b. b || assigns (λ slot. not (has_slot c.args.declared.now slot)) (block c.in-If.second.items)) (sym c.assigns_other.ensures ∙ c.if-assigns_other.true))

pub statement_assigns_other-returns-else-assigns_other : goal.statement_assigns_other-returns-else-assigns_other
statement_assigns_other-returns-else-assigns_other t c =
    let is = if_assigns (λ slot. not (has_slot c.args.declared.now slot)) c.args.kind.now c.in-If.field-0 c.in-If.first c.in-If.second c.in-If.is c.deref.result.now c.deref-else-assigns_other.result.now c.deref.ensures.value c.deref-else-assigns_other.ensures.value in
    c.assigns_other-else-assigns_other.ensures ∙ sym (is ∙ ap (λ b. b || assigns (λ slot. not (has_slot c.args.declared.now slot)) (block c.deref-else-assigns_other.result.now)) (sym c.assigns_other.ensures ∙ c.if-assigns_other.false))

pub statement_assigns_other-returns-in-For : goal.statement_assigns_other-returns-in-For
statement_assigns_other-returns-in-For t c =
    c.assigns_other-in-For.ensures ∙ sym (for_assigns (λ slot. not (has_slot c.args.declared.now slot)) c.args.kind.now c.in-For.field-0 c.in-For.field-1 c.in-For.field-2 c.in-For.body c.in-For.is c.deref-in-For.result.now c.deref-in-For.ensures.value)

pub statement_assigns_other-returns-in-While : goal.statement_assigns_other-returns-in-While
statement_assigns_other-returns-in-While t c =
    c.assigns_other-in-While.ensures ∙ sym (while_assigns (λ slot. not (has_slot c.args.declared.now slot)) c.args.kind.now c.in-While.field-0 c.in-While.field-1 c.in-While.body c.in-While.is c.deref-in-While.result.now c.deref-in-While.ensures.value)

pub statement_assigns_other-returns-in-Fold : goal.statement_assigns_other-returns-in-Fold
statement_assigns_other-returns-in-Fold t c =
    c.fold_assigns_other.ensures ∙ sym (fold_assigns (λ slot. not (has_slot c.args.declared.now slot)) c.args.kind.now c.in-Fold.fold c.in-Fold.is c.deref-in-Fold.result.now c.deref-in-Fold.ensures)

pub statement_assigns_other-returns-in-Pair : goal.statement_assigns_other-returns-in-Pair
statement_assigns_other-returns-in-Pair t c =
    c.pair_assigns_other.ensures ∙ sym (pair_assigns (λ slot. not (has_slot c.args.declared.now slot)) c.args.kind.now c.in-Pair.pair c.in-Pair.is c.deref-in-Pair.result.now c.deref-in-Pair.ensures)

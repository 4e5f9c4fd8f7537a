use Rattle.std.proofs.Common.{◌+◌, refl, sym, ap, ◌∙◌}
use Rattle.std.specs.Prelude.{◌||◌}
use Rattle.spf_ast.specs.View.{block}
use Rattle.spf_ast.specs.Slots.{breaks}
use Rattle.spf_effects_walk.proofs.Breaks.{breaks_from, breaks_at, breaks_none, if_breaks, fold_breaks, pair_breaks}
use Rattle.spf_effects_walk.proofs.slots.+breaks.Goals as goal

pub breaks-loop-statement-init : goal.breaks-loop-statement-init
breaks-loop-statement-init t c = refl

pub breaks-returns-then-statement_breaks : goal.breaks-returns-then-statement_breaks
breaks-returns-then-statement_breaks t c =
    let all = c.args.statements.now in
    let i = c.loop-statement.statement-index in
    let x = c.statement-item.result in
    sym (c.loop-statement.invariant ∙ breaks_at all i x c.loop-statement-test.true c.statement-item.is ∙ ap (λ b. b || breaks_from all (i + 1)) (sym c.statement_breaks.ensures ∙ c.if-statement_breaks.true))

pub breaks-loop-statement-preserved : goal.breaks-loop-statement-preserved
breaks-loop-statement-preserved t c =
    let all = c.args.statements.now in
    let i = c.loop-statement.statement-index in
    let x = c.statement-item.result in
    c.loop-statement.invariant ∙ breaks_at all i x c.loop-statement-test.true c.statement-item.is ∙ ap (λ b. b || breaks_from all (i + 1)) (sym c.statement_breaks.ensures ∙ c.if-statement_breaks.false)

pub breaks-returns : goal.breaks-returns
breaks-returns t c =
    sym (c.loop-statement.invariant ∙ breaks_none c.args.statements.now c.loop-statement.statement-index c.loop-statement-test.false)

pub statement_breaks-returns-then-breaks : goal.statement_breaks-returns-then-breaks
statement_breaks-returns-then-breaks t c =
    c.if-breaks.true ∙ sym (if_breaks c.args.kind.now c.in-If.field-0 c.in-If.first c.in-If.second c.in-If.is c.deref.result.now c.in-If.second.items c.deref.ensures.value refl ∙ ap (λ b. b || breaks (block c.in-If.second.items)) (sym c.breaks.ensures ∙ c.if-breaks.true))

pub statement_breaks-returns-else-breaks : goal.statement_breaks-returns-else-breaks
statement_breaks-returns-else-breaks t c =
    let is = if_breaks c.args.kind.now c.in-If.field-0 c.in-If.first c.in-If.second c.in-If.is c.deref.result.now c.deref-else-breaks.result.now c.deref.ensures.value c.deref-else-breaks.ensures.value in
    c.breaks-else-breaks.ensures ∙ sym (is ∙ ap (λ b. b || breaks (block c.deref-else-breaks.result.now)) (sym c.breaks.ensures ∙ c.if-breaks.false))

pub statement_breaks-returns-in-Fold : goal.statement_breaks-returns-in-Fold
statement_breaks-returns-in-Fold t c = fold_breaks c.args.kind.now c.in-Fold.field-0 c.in-Fold.is

pub statement_breaks-returns-in-Pair : goal.statement_breaks-returns-in-Pair
statement_breaks-returns-in-Pair t c = pair_breaks c.args.kind.now c.in-Pair.field-0 c.in-Pair.is

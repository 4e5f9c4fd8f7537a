use Rattle.std.proofs.Common.{◌≡◌, ℕ, ◌+◌, ◌*◌, ◌<◌, true, false, map, List, [], ◌∷◌, ◌++◌, refl, sym, ap, ◌∙◌, arith, append_assoc}
use Rattle.std.proofs.lemmas.Result.{err_from_is_err_and}
use Rattle.spf_ast.specs.declared.raw.RawFold.{out-RawFold}
use Rattle.spf_ast.specs.declared.raw.RawPair.{out-RawPair}
use Rattle.spf_ast.specs.Syntax.{Expression, Arguments, Predictor, Block}
use Rattle.spf_ast.specs.View.{name, expression, arguments, condition}
use Rattle.spf_ast.specs.RawView.{raw_expression, raw_block, raw_fold_head, raw_pair_head, raw_predictor}
use Rattle.spf_types_names.specs.HereView.{setting}
use Rattle.spf_types_names.specs.Locals.{Seen}
use Rattle.spf_types_names.specs.Faults.{block_faults, predictors_faults, rowed_faults, in_turn, in_part, showing_fixed, showing_each}
use Rattle.spf_types_names.specs.Resolved.{scope, fixed, with_each, names_in, after_inner}
use Rattle.spf_types_forms.proofs.Weight.{kind_weight, stmts_weight, kind_weight-if, kind_weight-for, kind_weight-while, kind_weight-fold, kind_weight-pair, stmt_weight_at}
use Rattle.spf_types_names.proofs.Rows.{item_at}
use Rattle.spf_types_forms.proofs.Blocks.{one_statement, all_statements, scope_each-is, scope_at_end-is}
use Rattle.spf_types_forms.proofs.Grown.{closed, closed_front, grown_each, shown}
use Rattle.spf_types_forms.proofs.Forms.{form_along, after_along, if_is, for_is, while_is, fold_is, pair_is, if_form, for_form, while_form, fold_form, pair_form}
use Rattle.spf_types_forms.proofs.Steps.{ahead, behind, along, none_in}
use Rattle.spf_types_forms.proofs.statement.+block.Goals as goal

pub block-statement_kind-requires : goal.block-statement_kind-requires
block-statement_kind-requires t c =
    let m : t ≡ 2 * stmts_weight c.args.raw.now = sym c.decreases in
    let w = stmt_weight_at c.args.raw.now c.loop-statement.statement-index c.statement-item.result c.loop-statement-test.true c.statement-item.is in
    let k : 2 * kind_weight c.statement-item.result.kind < t = omega (arith, m, w) in
    (k, tt)

pub block-returns-in_err-kind-clause-answers : goal.block-returns-in_err-kind-clause-answers
block-returns-in_err-kind-clause-answers t c =
    let p = err_from_is_err_and c.from_residual.result c.from_residual.ensures.1 in
    rw (p.1, p.2) (along _ _ _ (c.loop-statement.invariant.faults ∙ ap (λ xs. block_faults (setting c.args.here.now) (scope c.loop-statement.locals.locals) (raw_block xs)) (item_at c.args.raw.now c.loop-statement.statement-index c.statement-item.result c.loop-statement-test.true c.statement-item.is)) (ahead _ _ _ (c.in_err-kind.ensures {u = tt}).answers))

pub block-loop-statement-preserved : goal.block-loop-statement-preserved
block-loop-statement-preserved t c =
    let e = c.in_ok-kind.ensures {u = tt} in
    one_statement (setting c.args.here.now) c.args.locals.now c.loop-statement.locals c.statement_kind.new.locals c.args.raw.now c.loop-statement.statements.items c.push.new.self.items c.loop-statement.statement-index c.statement-item.result (record { line = c.statement-item.result.line; kind = c.in_ok-kind.kind }) c.loop-statement-test.true c.statement-item.is c.loop-statement.invariant e.after e.answers.0 refl e.answers.1 (c.in_ok-push.ensures {u = tt}).items

pub block-returns-clause-answers : goal.block-returns-clause-answers
block-returns-clause-answers t c =
    let a = all_statements (setting c.args.here.now) c.args.locals.now c.loop-statement.locals c.args.raw.now c.loop-statement.statements.items c.loop-statement.statement-index c.loop-statement-test.false c.loop-statement.invariant in
    (a.0, a.1)

pub block-returns-clause-after : goal.block-returns-clause-after
block-returns-clause-after t c =
    (all_statements (setting c.args.here.now) c.args.locals.now c.loop-statement.locals c.args.raw.now c.loop-statement.statements.items c.loop-statement.statement-index c.loop-statement-test.false c.loop-statement.invariant).2

pub choice-returns-clause-answers : goal.choice-returns-clause-answers
choice-returns-clause-answers t c =
    let a = c.in_ok-first.ensures {u = tt} in
    let b = rw a.after at (c.in_ok-second.ensures {u = tt}).answers in (
      none_in _ _ (c.in_ok-test.ensures {u = tt}).0 (none_in _ _ a.answers.0 b.0),
      if_form c.args.here.now.globals.now c.args.locals.now c.inner.new.locals c.into_inner.result c.in_ok-first.first c.in_ok-second.second (raw_expression c.args.test.now) (raw_block c.args.first.now) (raw_block c.args.second.now) (names_in (raw_block c.args.first.now)) a.after refl (ap condition c.into_inner.ensures ∙ (c.in_ok-test.ensures {u = tt}).1) a.answers.1 (c.in_ok-second.ensures {u = tt}).answers.1,
    )

pub inner-returns-clause-after : goal.inner-returns-clause-after
inner-returns-clause-after t c =
    closed c.args.locals.now c.args.locals.now c.block.new.locals c.close.new.self [] (raw_block c.args.raw.now) c.count-count.result refl (c.in_ok-statements.ensures {u = tt}).after c.count-count.ensures c.close.ensures

pub statement_kind-choice-requires : goal.statement_kind-choice-requires
statement_kind-choice-requires t c =
    let m : t ≡ 2 * kind_weight c.args.raw.now = sym c.decreases in
    let e = ap kind_weight c.in-If.is ∙ kind_weight-if c.in-If.test c.in-If.first c.in-If.second in
    let d = ap stmts_weight c.deref.ensures.value in
    let f = ap stmts_weight c.deref-in-If.ensures.value in
    let k : 2 * (stmts_weight c.deref.result.now + stmts_weight c.deref-in-If.result.now) + 2 < t = omega (arith, m, e, d, f) in
    (k, tt)

pub statement_kind-for_loop-requires : goal.statement_kind-for_loop-requires
statement_kind-for_loop-requires t c =
    let m : t ≡ 2 * kind_weight c.args.raw.now = sym c.decreases in
    let e = ap kind_weight c.in-For.is ∙ kind_weight-for c.in-For.name c.in-For.low c.in-For.high c.in-For.body in
    let d = ap stmts_weight c.deref-in-For.ensures.value in
    let k : 2 * stmts_weight c.deref-in-For.result.now + 1 < t = omega (arith, m, e, d) in
    (k, tt)

pub statement_kind-while_loop-requires : goal.statement_kind-while_loop-requires
statement_kind-while_loop-requires t c =
    let m : t ≡ 2 * kind_weight c.args.raw.now = sym c.decreases in
    let e = ap kind_weight c.in-While.is ∙ kind_weight-while c.in-While.test c.in-While.most c.in-While.body in
    let d = ap stmts_weight c.deref-in-While.ensures.value in
    let k : 2 * stmts_weight c.deref-in-While.result.now + 2 < t = omega (arith, m, e, d) in
    (k, tt)

pub statement_kind-fold-requires : goal.statement_kind-fold-requires
statement_kind-fold-requires t c =
    let m : t ≡ 2 * kind_weight c.args.raw.now = sym c.decreases in
    let e = ap kind_weight c.in-Fold.is ∙ kind_weight-fold c.in-Fold.raw in
    let d = ap (λ f. stmts_weight (out-RawFold f).body.items) c.deref-in-Fold.ensures in
    let k : 2 * stmts_weight (out-RawFold c.deref-in-Fold.result.now).body.items + 3 < t = omega (arith, m, e, d) in
    (k, tt)

pub statement_kind-pair-requires : goal.statement_kind-pair-requires
statement_kind-pair-requires t c =
    let m : t ≡ 2 * kind_weight c.args.raw.now = sym c.decreases in
    let e = ap kind_weight c.in-Pair.is ∙ kind_weight-pair c.in-Pair.raw in
    let d = ap (λ f. stmts_weight (out-RawPair f).producer.items) c.deref-in-Pair.ensures in
    let f = ap (λ f. stmts_weight (out-RawPair f).consumer.items) c.deref-in-Pair.ensures in
    let k : 2 * (stmts_weight (out-RawPair c.deref-in-Pair.result.now).producer.items + stmts_weight (out-RawPair c.deref-in-Pair.result.now).consumer.items) + 2 < t = omega (arith, m, e, d, f) in
    (k, tt)

pub statement_kind-returns-in-If-clause-answers : goal.statement_kind-returns-in-If-clause-answers
statement_kind-returns-in-If-clause-answers t c =
    form_along (setting c.args.here.now) c.args.locals.now c.args.line c.choice.result _ _ (if_is c.args.raw.now c.in-If.test c.in-If.first c.in-If.second c.deref.result.now c.deref-in-If.result.now c.in-If.is c.deref.ensures.value c.deref-in-If.ensures.value) c.choice.ensures.answers

pub statement_kind-returns-in-If-clause-after : goal.statement_kind-returns-in-If-clause-after
statement_kind-returns-in-If-clause-after t c =
    after_along c.args.locals.now c.choice.new.locals c.choice.result _ _ (if_is c.args.raw.now c.in-If.test c.in-If.first c.in-If.second c.deref.result.now c.deref-in-If.result.now c.in-If.is c.deref.ensures.value c.deref-in-If.ensures.value) c.choice.ensures.after

pub statement_kind-returns-in-For-clause-answers : goal.statement_kind-returns-in-For-clause-answers
statement_kind-returns-in-For-clause-answers t c =
    form_along (setting c.args.here.now) c.args.locals.now c.args.line c.for_loop.result _ _ (for_is c.args.raw.now c.in-For.name c.in-For.low c.in-For.high c.in-For.body c.deref-in-For.result.now c.in-For.is c.deref-in-For.ensures.value) c.for_loop.ensures.answers

pub statement_kind-returns-in-For-clause-after : goal.statement_kind-returns-in-For-clause-after
statement_kind-returns-in-For-clause-after t c =
    after_along c.args.locals.now c.for_loop.new.locals c.for_loop.result _ _ (for_is c.args.raw.now c.in-For.name c.in-For.low c.in-For.high c.in-For.body c.deref-in-For.result.now c.in-For.is c.deref-in-For.ensures.value) c.for_loop.ensures.after

pub statement_kind-returns-in-While-clause-answers : goal.statement_kind-returns-in-While-clause-answers
statement_kind-returns-in-While-clause-answers t c =
    form_along (setting c.args.here.now) c.args.locals.now c.args.line c.while_loop.result _ _ (while_is c.args.raw.now c.in-While.test c.in-While.most c.in-While.body c.deref-in-While.result.now c.in-While.is c.deref-in-While.ensures.value) c.while_loop.ensures.answers

pub statement_kind-returns-in-While-clause-after : goal.statement_kind-returns-in-While-clause-after
statement_kind-returns-in-While-clause-after t c =
    after_along c.args.locals.now c.while_loop.new.locals c.while_loop.result _ _ (while_is c.args.raw.now c.in-While.test c.in-While.most c.in-While.body c.deref-in-While.result.now c.in-While.is c.deref-in-While.ensures.value) c.while_loop.ensures.after

pub statement_kind-returns-in-Fold-clause-answers : goal.statement_kind-returns-in-Fold-clause-answers
statement_kind-returns-in-Fold-clause-answers t c =
    form_along (setting c.args.here.now) c.args.locals.now c.args.line c.fold.result _ _ (fold_is c.args.raw.now c.in-Fold.raw c.deref-in-Fold.result.now c.in-Fold.is c.deref-in-Fold.ensures) c.fold.ensures.answers

pub statement_kind-returns-in-Fold-clause-after : goal.statement_kind-returns-in-Fold-clause-after
statement_kind-returns-in-Fold-clause-after t c =
    after_along c.args.locals.now c.fold.new.locals c.fold.result _ _ (fold_is c.args.raw.now c.in-Fold.raw c.deref-in-Fold.result.now c.in-Fold.is c.deref-in-Fold.ensures) c.fold.ensures.after

pub statement_kind-returns-in-Pair-clause-answers : goal.statement_kind-returns-in-Pair-clause-answers
statement_kind-returns-in-Pair-clause-answers t c =
    form_along (setting c.args.here.now) c.args.locals.now c.args.line c.pair.result _ _ (pair_is c.args.raw.now c.in-Pair.raw c.deref-in-Pair.result.now c.in-Pair.is c.deref-in-Pair.ensures) c.pair.ensures.answers

pub statement_kind-returns-in-Pair-clause-after : goal.statement_kind-returns-in-Pair-clause-after
statement_kind-returns-in-Pair-clause-after t c =
    after_along c.args.locals.now c.pair.new.locals c.pair.result _ _ (pair_is c.args.raw.now c.in-Pair.raw c.deref-in-Pair.result.now c.in-Pair.is c.deref-in-Pair.ensures) c.pair.ensures.after

pub for_loop-returns-clause-answers : goal.for_loop-returns-clause-answers
for_loop-returns-clause-answers t c =
    let s = shown c.args.locals.now c.declare.new.self c.show.new.self (fixed (name c.args.name.now) c.in_ok-slot.slot) (name c.args.name.now) (c.in_ok-slot.ensures {u = tt}).declared (c.in_ok-show.ensures {u = tt}).shown in
    let b = rw c.in_turn-inside.ensures at (c.in_ok-body.ensures {u = tt}).answers in (
      none_in _ _ (c.in_ok-declarable.ensures {u = tt}).answers.0 (none_in _ _ (c.in_ok-low.ensures {u = tt}).0 (none_in _ _ (c.in_ok-high.ensures {u = tt}).0 (ap (λ (z : Seen). block_faults (in_turn (setting c.args.here.now)) (scope z.locals) (raw_block c.args.body.now)) (sym s) ∙ b.0))),
      for_form c.args.here.now.globals.now c.args.locals.now c.show.new.self (name c.args.name.now) c.in_ok-slot.slot c.into_inner.result c.into_inner-2.result c.in_ok-body.body (raw_expression c.args.low.now) (raw_expression c.args.high.now) (raw_block c.args.body.now) s (c.in_ok-slot.ensures {u = tt}).slot (ap expression c.into_inner.ensures ∙ (c.in_ok-low.ensures {u = tt}).1) (ap expression c.into_inner-2.ensures ∙ (c.in_ok-high.ensures {u = tt}).1) b.1,
    )

pub for_loop-returns-clause-after : goal.for_loop-returns-clause-after
for_loop-returns-clause-after t c =
    let s = shown c.args.locals.now c.declare.new.self c.show.new.self (fixed (name c.args.name.now) c.in_ok-slot.slot) (name c.args.name.now) (c.in_ok-slot.ensures {u = tt}).declared (c.in_ok-show.ensures {u = tt}).shown in
    closed c.args.locals.now c.show.new.self c.block.new.locals c.close.new.self (fixed (name c.args.name.now) c.in_ok-slot.slot ∷ []) (raw_block c.args.body.now) c.count-count.result (ap (λ (z : Seen). z.locals) s) (c.in_ok-body.ensures {u = tt}).after c.count-count.ensures c.close.ensures
    ∙ ap (λ (z : Seen). record { locals = c.args.locals.now.locals; slots = z.slots ++ names_in (raw_block c.args.body.now) }) s
    ∙ ap (λ (sl : List (List ℕ)). record { locals = c.args.locals.now.locals; slots = sl }) (append_assoc c.args.locals.now.slots (name c.args.name.now ∷ []) (names_in (raw_block c.args.body.now)))

pub while_loop-returns-clause-answers : goal.while_loop-returns-clause-answers
while_loop-returns-clause-answers t c =
    let b = rw c.in_turn-inside.ensures at (c.in_ok-body.ensures {u = tt}).answers in
    (none_in _ _ (c.in_ok-test.ensures {u = tt}).0 b.0, while_form c.args.here.now.globals.now c.args.locals.now c.into_inner.result c.args.most c.in_ok-body.body (raw_expression c.args.test.now) (raw_block c.args.body.now) (ap condition c.into_inner.ensures ∙ (c.in_ok-test.ensures {u = tt}).1) b.1)

pub statements_and_row-returns-clause-after : goal.statements_and_row-returns-clause-after
statements_and_row-returns-clause-after t c =
    closed c.args.locals.now c.args.locals.now c.block.new.locals c.close.new.self [] (raw_block c.args.raw.now) c.count-count.result refl (c.in_ok-statements.ensures {u = tt}).after c.count-count.ensures c.close.ensures

pub statements_and_row-returns-clause-answers : goal.statements_and_row-returns-clause-answers
statements_and_row-returns-clause-answers t c =
    let b = rw c.in_part-inside.ensures at (c.in_ok-statements.ensures {u = tt}) in
    let v = rw (b.after, scope_at_end-is) at (c.in_ok-parts.ensures {u = tt}) in
    (none_in _ _ b.answers.0 v.0, λ i. (b.answers.1 i, v.1 i))

pub statements_and_row-returns-in_err-parts-clause-answers : goal.statements_and_row-returns-in_err-parts-clause-answers
statements_and_row-returns-in_err-parts-clause-answers t c =
    let b = rw c.in_part-inside.ensures at (c.in_ok-statements.ensures {u = tt}) in
    let p = err_from_is_err_and c.from_residual-in_err-parts.result c.from_residual-in_err-parts.ensures.1 in
    rw (p.1, p.2) (behind _ _ _ b.answers.0 (rw (b.after, scope_at_end-is) at (c.in_err-parts.ensures {u = tt})))

pub consumer-returns-clause-after : goal.consumer-returns-clause-after
consumer-returns-clause-after t c =
    let s = (c.in_ok-show_each.ensures {u = tt}).shown in
    let g = grown_each true c.args.locals.now.locals c.args.first (map name c.deref.result.now) in
    closed c.args.locals.now c.show_each.new.self c.block.new.locals c.close.new.self g.0 (raw_block c.deref-2.result.now) c.count-count.result (ap (λ (z : Seen). z.locals) s ∙ g.1) (c.in_ok-consumer.ensures {u = tt}).after c.count-count.ensures c.close.ensures
    ∙ (λ i. record { locals = c.args.locals.now.locals; slots = (ap (λ (z : Seen). z.slots) s i) ++ names_in (raw_block (c.deref-2.ensures.value i)) })

pub fold-returns-clause-answers : goal.fold-returns-clause-answers
fold-returns-clause-answers t c =
    let h = c.in_ok-header.ensures {u = tt} in
    let b = c.in_ok-body.ensures {u = tt} in
    let raw = out-RawFold c.args.raw.now in
    let head = raw_fold_head c.args.raw.now in
    let old = c.args.locals.now in
    let first = c.in_ok-header.header.first in
    let is = ap (showing_fixed head.block) (scope_each-is true c.header_of.new.locals.locals first head.carried ∙ ap (λ (z : Seen). showing_each true (scope z.locals) head.carried) h.after) in (
      none_in _ _ h.answers.0 (ap (λ sc. rowed_faults (setting c.args.here.now) sc (raw_block raw.body.items) head.next_line head.next) (sym is) ∙ b.answers.0),
      fold_form c.args.here.now.globals.now old c.header_of.new.locals head (raw_block raw.body.items) c.in_ok-new.field-0 c.fold_of-fold.result c.in_ok-header.header.carried.items first c.in_ok-header.header.block c.in_ok-header.header.start.items c.in_ok-body.next.items c.in_ok-header.header.low.value c.in_ok-header.header.high.value c.in_ok-header.header.predict.items c.in_ok-body.body (c.in_ok-new.ensures {u = tt}).ok c.fold_of-fold.ensures.head c.fold_of-fold.ensures.body h.slots.0 h.slots.1 h.slots.2 h.after
          (ap (λ (z : Arguments × Expression × Expression × List Predictor). z.0) h.answers.1) (ap (λ (z : Arguments × Expression × Expression × List Predictor). z.1) h.answers.1) (ap (λ (z : Arguments × Expression × Expression × List Predictor). z.2) h.answers.1) (ap (λ (z : Arguments × Expression × Expression × List Predictor). z.3) h.answers.1)
          (ap (λ (z : Block × Arguments). z.0) b.answers.1) (ap (λ (z : Block × Arguments). z.1) b.answers.1),
    )

pub fold-returns-clause-after : goal.fold-returns-clause-after
fold-returns-clause-after t c =
    let h = c.in_ok-header.ensures {u = tt} in
    let b = c.in_ok-body.ensures {u = tt} in
    let raw = out-RawFold c.args.raw.now in
    let head = raw_fold_head c.args.raw.now in
    let old = c.args.locals.now in
    let nb = names_in (raw_block raw.body.items) in
    let s = rw c.deref.ensures.value at (c.in_ok-show_each.ensures {u = tt}).shown in
    s
    ∙ ap (λ (z : Seen). record { locals = with_each false z.locals c.in_ok-header.header.first head.carried; slots = z.slots }) (b.after ∙ ap (λ (z : Seen). after_inner z (raw_block raw.body.items)) h.after)
    ∙ (λ i. record { locals = with_each false old.locals (h.slots.0 i) head.carried; slots = (append_assoc old.slots (head.carried ++ head.block ∷ []) nb ∙ ap (λ (k : List (List ℕ)). old.slots ++ k) (append_assoc head.carried (head.block ∷ []) nb)) i })

pub pair-returns-clause-answers : goal.pair-returns-clause-answers
pair-returns-clause-answers t c =
    let raw = out-RawPair c.args.raw.now in
    let head = raw_pair_head c.args.raw.now in
    let old = c.args.locals.now in
    let here = setting c.args.here.now in
    let n = c.in_ok-pair_names.ensures {u = tt} in
    let sl = rw c.deref.ensures.value at (c.in_ok-carried.ensures {u = tt}).value in
    let p = rw (c.deref-2.ensures.value, c.deref-3.ensures.value) at (c.in_ok-producer.ensures {u = tt}) in
    let q = rw c.deref-4.ensures.value at (c.in_ok-predict.ensures {u = tt}) in
    let b = c.in_ok-consumer.ensures {u = tt} in
    let first = c.in_ok-first.first in
    let produced = p.after ∙ ap (λ (z : Seen). after_inner z (raw_block raw.producer.items)) n.after in
    let e = ap (λ (z : Seen). z.locals) n.after in
    let f = ap (λ (z : Seen). z.locals) produced in
    let is = scope_each-is true c.statements_and_row.new.locals.locals first head.carried ∙ ap (λ ls. showing_each true (scope ls) head.carried) f in (
      none_in _ _ n.answers.0 (none_in _ _ (c.in_ok-pair_widths.ensures {u = tt}).0
          (none_in _ _ (ap (λ ls. rowed_faults here (scope ls) (raw_block raw.producer.items) head.give_line head.give) (sym e) ∙ p.answers.0)
          (none_in _ _ (ap (λ ls. predictors_faults here (scope ls) c.args.line head.predict) (sym f) ∙ q.0)
          (ap (λ sc. block_faults (in_part here) sc (raw_block raw.consumer.items)) (sym is) ∙ b.answers.0)))),
      pair_form c.args.here.now.globals.now old c.pair_names.new.locals c.statements_and_row.new.locals head (raw_block raw.producer.items) (raw_block raw.consumer.items) c.in_ok-new.field-0 c.pair_of-pair.result c.in_ok-carried.carried.items first c.in_ok-producer.give.items c.in_ok-predict.predict.items c.in_ok-producer.producer c.in_ok-consumer.consumer (c.in_ok-new.ensures {u = tt}).ok c.pair_of-pair.ensures.head c.pair_of-pair.ensures.producer c.pair_of-pair.ensures.consumer (c.in_ok-first.ensures {u = tt}).value sl n.after p.after
          (ap (λ (z : Block × Arguments). z.0) p.answers.1) (ap (λ (z : Block × Arguments). z.1) p.answers.1) q.1 b.answers.1,
    )

pub pair-returns-clause-after : goal.pair-returns-clause-after
pair-returns-clause-after t c =
    let raw = out-RawPair c.args.raw.now in
    let head = raw_pair_head c.args.raw.now in
    let old = c.args.locals.now in
    let n = c.in_ok-pair_names.ensures {u = tt} in
    let p = rw (c.deref-2.ensures.value, c.deref-3.ensures.value) at (c.in_ok-producer.ensures {u = tt}) in
    let b = c.in_ok-consumer.ensures {u = tt} in
    let np = names_in (raw_block raw.producer.items) in
    let nc = names_in (raw_block raw.consumer.items) in
    let s = rw c.deref-5.ensures.value at (c.in_ok-show_each.ensures {u = tt}).shown in
    s
    ∙ ap (λ (z : Seen). record { locals = with_each false z.locals c.in_ok-first.first head.carried; slots = z.slots })
    (b.after ∙ ap (λ (z : Seen). after_inner z (raw_block raw.consumer.items)) (p.after ∙ ap (λ (z : Seen). after_inner z (raw_block raw.producer.items)) n.after))
    ∙ (λ i. record { locals = with_each false old.locals ((c.in_ok-first.ensures {u = tt}).value i) head.carried; slots = (append_assoc (old.slots ++ head.carried) np nc ∙ append_assoc old.slots head.carried (np ++ nc)) i })

pub fold-returns-in_err-body-clause-answers : goal.fold-returns-in_err-body-clause-answers
fold-returns-in_err-body-clause-answers t c =
    let h = c.in_ok-header.ensures {u = tt} in
    let raw = out-RawFold c.args.raw.now in
    let head = raw_fold_head c.args.raw.now in
    let is = ap (showing_fixed head.block) (scope_each-is true c.header_of.new.locals.locals c.in_ok-header.header.first head.carried ∙ ap (λ (z : Seen). showing_each true (scope z.locals) head.carried) h.after) in
    let p = err_from_is_err_and c.from_residual-in_err-body.result c.from_residual-in_err-body.ensures.1 in
    rw (p.1, p.2) (behind _ _ _ h.answers.0 (along _ _ _ (ap (λ sc. rowed_faults (setting c.args.here.now) sc (raw_block raw.body.items) head.next_line head.next) (sym is)) (c.in_err-body.ensures {u = tt}).answers))

pub fold_body-returns-clause-after : goal.fold_body-returns-clause-after
fold_body-returns-clause-after t c =
    let raw = out-RawFold c.args.raw.now in
    let old = c.args.locals.now in
    let one = (c.in_ok-show_each.ensures {u = tt}).shown in
    let two = (c.in_ok-show.ensures {u = tt}).shown in
    let g = grown_each true old.locals c.args.first (map name c.deref.result.now) in
    let last = fixed (name raw.block) c.args.block in
    let inside = ap (λ (z : Seen). z.locals) two ∙ ap (λ (z : Seen). last ∷ z.locals) one ∙ ap (λ ls. last ∷ ls) g.1 in
    let slots = ap (λ (z : Seen). z.slots) two ∙ ap (λ (z : Seen). z.slots) one in
    closed_front old c.show.new.self c.statements_and_row.new.locals c.close.new.self (last ∷ g.0) (names_in (raw_block c.deref-2.result.now)) c.count-count.result inside (c.in_ok-answer.ensures {u = tt}).after c.count-count.ensures c.close.ensures
    ∙ (λ i. record { locals = old.locals; slots = slots i ++ names_in (raw_block (c.deref-2.ensures.value i)) })

pub pair-returns-in_err-consumer-clause-answers : goal.pair-returns-in_err-consumer-clause-answers
pair-returns-in_err-consumer-clause-answers t c =
    let raw = out-RawPair c.args.raw.now in
    let head = raw_pair_head c.args.raw.now in
    let here = setting c.args.here.now in
    let n = c.in_ok-pair_names.ensures {u = tt} in
    let p = rw (c.deref-2.ensures.value, c.deref-3.ensures.value) at (c.in_ok-producer.ensures {u = tt}) in
    let q = rw c.deref-4.ensures.value at (c.in_ok-predict.ensures {u = tt}) in
    let produced = p.after ∙ ap (λ (z : Seen). after_inner z (raw_block raw.producer.items)) n.after in
    let e = ap (λ (z : Seen). z.locals) n.after in
    let f = ap (λ (z : Seen). z.locals) produced in
    let is = scope_each-is true c.statements_and_row.new.locals.locals c.in_ok-first.first head.carried ∙ ap (λ ls. showing_each true (scope ls) head.carried) f in
    let r = err_from_is_err_and c.from_residual-in_err-consumer.result c.from_residual-in_err-consumer.ensures.1 in
    rw (r.1, r.2) (behind _ _ _ n.answers.0 (behind _ _ _ (c.in_ok-pair_widths.ensures {u = tt}).0
    (behind _ _ _ (ap (λ ls. rowed_faults here (scope ls) (raw_block raw.producer.items) head.give_line head.give) (sym e) ∙ p.answers.0)
    (behind _ _ _ (ap (λ ls. predictors_faults here (scope ls) c.args.line head.predict) (sym f) ∙ q.0)
    (along _ _ _ (ap (λ sc. block_faults (in_part here) sc (raw_block raw.consumer.items)) (sym is)) (c.in_err-consumer.ensures {u = tt}).answers)))))

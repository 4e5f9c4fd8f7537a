use Rattle.std.proofs.Common.{rules, refl, List, length, ◌≡◌, ◌++◌, ap, ◌∙◌}
use Rattle.std.proofs.lemmas.Result.{IfOk-equal}
use Rattle.spf_ast.specs.declared.syntax.Stmt.{Stmt}
use Rattle.spf_ast.specs.View.{statement, block}
use Rattle.spf_ast.specs.Spelling.{spelled_statement, spelled_block}
use Rattle.spf_print_forms.specs.Canonical.{deeper, statement_text, block_text}
use Rattle.spf_print_forms.specs.Printing.{vocabulary_of}
use Rattle.spf_print_forms.proofs.Repeating.{one_more, none_left}
use Rattle.spf_ast.proofs.Views.{statement-if, statement-for, statement-while, statement-fold, statement-pair}
use Rattle.spf_print_forms.proofs.Printing.{and_then, both, otherwise_is, statement_is}
use Rattle.spf_print.proofs.statements.+statement.Goals as goal

pub push_nested-returns : goal.push_nested-returns
push_nested-returns t c =
    none_left (λ (l : List Stmt). block_text (deeper c.args.indent.now) (spelled_block (vocabulary_of c.args.names.now) (block l))) refl _ _ c.args.statements.now c.loop-statement.statement-index c.loop-statement-test.false c.loop-statement.invariant

pub push_nested-loop-statement-preserved : goal.push_nested-loop-statement-preserved
push_nested-loop-statement-preserved t c =
    let added = rw (c.deref.ensures.value, c.in_ok-inner.ensures {u = tt}) at (c.in_ok-push_statement.ensures {u = tt}) in
    one_more (λ (l : List Stmt). block_text (deeper c.args.indent.now) (spelled_block (vocabulary_of c.args.names.now) (block l))) (λ (s : Stmt). statement_text (deeper c.args.indent.now) (spelled_statement (vocabulary_of c.args.names.now) (statement s.kind))) (λ x xs. refl) _ _ _ c.args.statements.now c.loop-statement.statement-index c.statement-item.result c.statement-item.is c.loop-statement-test.true added c.loop-statement.invariant

pub push_fold-returns : goal.push_fold-returns
push_fold-returns t c =
    let e2 = rw c.deref.ensures.value at (c.in_ok-push_nested.ensures {u = tt}) in
    let e3 = rw (c.deref-2.ensures.value, c.deref-3.ensures.value, c.in_ok-inner.ensures {u = tt}) at (c.in_ok-push_with_row.ensures {u = tt}) in
    IfOk-equal c.push_close.result _ _ _ c.push_close.ensures (and_then _ _ _ _ (both _ _ _ _ _ (both _ _ _ _ _ (c.in_ok-push_fold_head.ensures {u = tt}) e2) e3))

pub push_otherwise-returns : goal.push_otherwise-returns
push_otherwise-returns t c =
    let some : length c.args.statements.now ≡ 0 → ⊥ = search rules in
    let e1 = and_then _ _ _ _ (both _ _ _ _ _ (c.in_ok-push_else.ensures {u = tt}) (c.in_ok-push_nested.ensures {u = tt})) in
    IfOk-equal c.push_close-2.result _ _ _ c.push_close-2.ensures (e1 ∙ ap (λ x. c.args.text.now.items ++ x) (otherwise_is (vocabulary_of c.args.names.now) c.args.indent.now c.args.statements.now some))

pub push_pair-returns : goal.push_pair-returns
push_pair-returns t c =
    let e1 = rw c.deref.ensures.value at (c.in_ok-push_pair_head.ensures {u = tt}) in
    let e2 = rw c.deref-2.ensures.value at (c.in_ok-push_nested.ensures {u = tt}) in
    let e3 = rw (c.deref-3.ensures.value, c.deref-4.ensures.value, c.in_ok-inner.ensures {u = tt}) at (c.in_ok-push_with_row.ensures {u = tt}) in
    let e4 = rw c.deref-5.ensures.value at (c.in_ok-push_consumer_head.ensures {u = tt}) in
    let e5 = rw c.deref-6.ensures.value at (c.in_ok-push_nested-2.ensures {u = tt}) in
    IfOk-equal c.push_close.result _ _ _ c.push_close.ensures (and_then _ _ _ _ (both _ _ _ _ _ (both _ _ _ _ _ (both _ _ _ _ _ (both _ _ _ _ _ e1 e2) e3) e4) e5))

pub push_statement-returns-in_ok-push_nested-in-If :
    goal.push_statement-returns-in_ok-push_nested-in-If
push_statement-returns-in_ok-push_nested-in-If t c =
    let e2 = rw c.deref-in-If.ensures.value at (c.in_ok-push_nested-in-If.ensures {u = tt}) in
    let e3 = rw c.deref-in-If-2.ensures.value at c.push_otherwise.ensures in
    IfOk-equal c.push_otherwise.result _ _ _ e3 (statement_is (vocabulary_of c.args.names.now) c.args.indent.now c.args.text.now.items _ c.args.kind.now _ _ c.in-If.is (statement-if c.in-If.test c.in-If.first c.in-If.second) (and_then _ _ _ _ (both _ _ _ _ _ (c.in_ok-push_if_head-in-If.ensures {u = tt}) e2)))

pub push_statement-returns-in_ok-push_nested-in-For :
    goal.push_statement-returns-in_ok-push_nested-in-For
push_statement-returns-in_ok-push_nested-in-For t c =
    let e2 = rw c.deref-in-For.ensures.value at (c.in_ok-push_nested-in-For.ensures {u = tt}) in
    IfOk-equal c.push_close.result _ _ _ c.push_close.ensures (statement_is (vocabulary_of c.args.names.now) c.args.indent.now c.args.text.now.items _ c.args.kind.now _ _ c.in-For.is (statement-for c.in-For.slot c.in-For.low c.in-For.high c.in-For.body) (and_then _ _ _ _ (both _ _ _ _ _ (c.in_ok-push_for_head-in-For.ensures {u = tt}) e2)))

pub push_statement-returns-in_ok-push_nested-in-While :
    goal.push_statement-returns-in_ok-push_nested-in-While
push_statement-returns-in_ok-push_nested-in-While t c =
    let e2 = rw c.deref-in-While.ensures.value at (c.in_ok-push_nested-in-While.ensures {u = tt}) in
    IfOk-equal c.push_close-in-While.result _ _ _ c.push_close-in-While.ensures (statement_is (vocabulary_of c.args.names.now) c.args.indent.now c.args.text.now.items _ c.args.kind.now _ _ c.in-While.is (statement-while c.in-While.test c.in-While.most c.in-While.body) (and_then _ _ _ _ (both _ _ _ _ _ (c.in_ok-push_while_head-in-While.ensures {u = tt}) e2)))

pub push_statement-returns-in-Fold : goal.push_statement-returns-in-Fold
push_statement-returns-in-Fold t c =
    IfOk-equal c.push_fold.result _ _ _ c.push_fold.ensures (statement_is (vocabulary_of c.args.names.now) c.args.indent.now c.args.text.now.items _ c.args.kind.now _ _ c.in-Fold.is (statement-fold c.in-Fold.fold) (rw c.deref-in-Fold.ensures refl))

pub push_statement-returns-in-Pair : goal.push_statement-returns-in-Pair
push_statement-returns-in-Pair t c =
    IfOk-equal c.push_pair.result _ _ _ c.push_pair.ensures (statement_is (vocabulary_of c.args.names.now) c.args.indent.now c.args.text.now.items _ c.args.kind.now _ _ c.in-Pair.is (statement-pair c.in-Pair.pair) (rw c.deref-in-Pair.ensures refl))

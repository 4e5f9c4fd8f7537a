use Rattle.std.proofs.Common.{◌+◌, refl, sym, ap, ◌∙◌}
use Rattle.spf_ast.specs.declared.syntax.Fold.{out-Fold}
use Rattle.spf_ast.specs.declared.syntax.Pair.{out-Pair}
use Rattle.spf_ast.specs.Syntax.{If, For, While, Fold, Pair}
use Rattle.spf_ast.specs.View.{expression, condition, statement, block, fold_head, pair_head}
use Rattle.spf_ast.specs.Size.{expression_measure, condition_measure, statement_measure, block_measure}
use Rattle.spf_ast.proofs.Views.{statement-if, statement-for, statement-while, statement-fold, statement-pair}
use Rattle.spf_types_size.proofs.Measures.{none_behind, one_behind, all_behind, around_two, around_three, has_along, block_from, block_split, block_end}
use Rattle.spf_types_size.proofs.measure.+statement.Goals as goal

pub block-loop-stmt-init : goal.block-loop-stmt-init
block-loop-stmt-init t c = λ counts h. none_behind counts (block_from c.args.statements.now 0) (record { nodes = 0; depth = 0; slots = 0 }) refl refl refl

pub block-loop-stmt-preserved : goal.block-loop-stmt-preserved
block-loop-stmt-preserved t c = λ counts h.
    let all = c.args.statements.now in
    let i = c.loop-stmt.stmt-index in
    let s = c.stmt-item.result in
    one_behind counts (block_from all 0) (block_from all i) (λ m. statement_measure m (statement s.kind)) (block_from all (i + 1)) c.loop-stmt.size c.statement.result c.beside-size.result (c.loop-stmt.invariant counts h) (block_split all i s c.loop-stmt-test.true c.stmt-item.is) (c.statement.ensures counts h) c.beside-size.ensures

pub block-returns : goal.block-returns
block-returns t c = λ counts h.
    let all = c.args.statements.now in
    let i = c.loop-stmt.stmt-index in
    all_behind counts (block_from all 0) (block_from all i) c.loop-stmt.size (c.loop-stmt.invariant counts h) (block_end all i c.loop-stmt-test.false)

pub statement-returns-in-If : goal.statement-returns-in-If
statement-returns-in-If t c = λ counts h.
    let test = c.in-If.test in
    let one = c.deref.result.now in
    let other = c.deref-in-If.result.now in
    has_along counts statement_measure (statement c.args.kind.now) (If (condition test) (block one) (block other)) c.within-in-If.result
    (ap statement c.in-If.is ∙ statement-if test c.in-If.first c.in-If.second ∙ (λ i. If (condition test) (block (sym c.deref.ensures.value i)) (block (sym c.deref-in-If.ensures.value i))))
    (around_three counts (λ m. condition_measure m (condition test)) (λ m. block_measure m (block one)) (λ m. block_measure m (block other)) c.condition.result c.block.result c.block-in-If.result c.beside-blocks.result c.beside-in-If.result c.within-in-If.result (c.condition.ensures counts h) (c.block.ensures counts h) (c.block-in-If.ensures counts h) c.beside-blocks.ensures c.beside-in-If.ensures c.within-in-If.ensures)

pub statement-returns-in-For : goal.statement-returns-in-For
statement-returns-in-For t c = λ counts h.
    let low = c.in-For.low in
    let high = c.in-For.high in
    let body = c.deref-in-For.result.now in
    has_along counts statement_measure (statement c.args.kind.now) (For c.in-For.field-0 (expression low) (expression high) (block body)) c.within-in-For.result
    (ap statement c.in-For.is ∙ statement-for c.in-For.field-0 low high c.in-For.body ∙ ap (λ ss. For c.in-For.field-0 (expression low) (expression high) (block ss)) (sym c.deref-in-For.ensures.value))
    (around_three counts (λ m. expression_measure m (expression low)) (λ m. expression_measure m (expression high)) (λ m. block_measure m (block body)) c.expression-in-For-2.result c.expression-in-For.result c.block-in-For.result c.beside-last-in-For.result c.beside-in-For.result c.within-in-For.result (c.expression-in-For-2.ensures counts h) (c.expression-in-For.ensures counts h) (c.block-in-For.ensures counts h) c.beside-last-in-For.ensures c.beside-in-For.ensures c.within-in-For.ensures)

pub statement-returns-in-While : goal.statement-returns-in-While
statement-returns-in-While t c = λ counts h.
    let test = c.in-While.test in
    let body = c.deref-in-While.result.now in
    has_along counts statement_measure (statement c.args.kind.now) (While (condition test) c.in-While.field-1 (block body)) c.within-in-While.result
    (ap statement c.in-While.is ∙ statement-while test c.in-While.field-1 c.in-While.body ∙ ap (λ ss. While (condition test) c.in-While.field-1 (block ss)) (sym c.deref-in-While.ensures.value))
    (around_two counts (λ m. condition_measure m (condition test)) (λ m. block_measure m (block body)) c.condition-parts.result c.block-in-While.result c.beside-in-While.result c.within-in-While.result (c.condition-parts.ensures counts h) (c.block-in-While.ensures counts h) c.beside-in-While.ensures c.within-in-While.ensures)

pub statement-returns-in-Fold : goal.statement-returns-in-Fold
statement-returns-in-Fold t c = λ counts h.
    let f = c.deref-in-Fold.result.now in
    has_along counts statement_measure (statement c.args.kind.now) (Fold (fold_head f) (block (out-Fold f).body.items)) c.fold.result
    (ap statement c.in-Fold.is ∙ statement-fold c.in-Fold.parts ∙ ap (λ g. Fold (fold_head g) (block (out-Fold g).body.items)) (sym c.deref-in-Fold.ensures))
    (c.fold.ensures counts h)

pub statement-returns-in-Pair : goal.statement-returns-in-Pair
statement-returns-in-Pair t c = λ counts h.
    let p = c.deref-in-Pair.result.now in
    has_along counts statement_measure (statement c.args.kind.now) (Pair (pair_head p) (block (out-Pair p).producer.items) (block (out-Pair p).consumer.items)) c.pair.result
    (ap statement c.in-Pair.is ∙ statement-pair c.in-Pair.parts ∙ ap (λ q. Pair (pair_head q) (block (out-Pair q).producer.items) (block (out-Pair q).consumer.items)) (sym c.deref-in-Pair.ensures))
    (c.pair.ensures counts h)

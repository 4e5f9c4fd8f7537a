use Rattle.std.proofs.Common.{◌+◌, max, sym, ap, ◌∙◌}
use Rattle.spf_ast.specs.declared.syntax.Fold.{out-Fold}
use Rattle.spf_ast.specs.declared.syntax.Pair.{out-Pair}
use Rattle.spf_ast.specs.Syntax.{If, For, While, Fold, Pair}
use Rattle.spf_ast.specs.View.{expression, condition, statement, block, fold_head, pair_head}
use Rattle.spf_ast.proofs.Views.{statement-if, statement-for, statement-while, statement-fold, statement-pair}
use Rattle.spf_code_registers.specs.Registers.{needs, condition_needs, block_needs, statement_needs}
use Rattle.spf_code_registers.proofs.Behind.{more_of_two, with_more, same_needs, none_behind, statement_behind, all_behind, block_from, block_split, block_end}
use Rattle.spf_code_registers.proofs.needs.+statement.Goals as goal

pub block-loop-stmt-init : goal.block-loop-stmt-init
block-loop-stmt-init t c = λ calls h. none_behind (block_from calls c.args.statements.now 0)

pub block-loop-stmt-preserved : goal.block-loop-stmt-preserved
block-loop-stmt-preserved t c = λ calls h.
    let all = c.args.statements.now in
    let i = c.loop-stmt.stmt-index in
    let s = c.stmt-item.result in
    statement_behind c.loop-stmt.most (block_from calls all i) (block_from calls all 0) c.statement.result c.max-most.result (statement_needs calls (statement s.kind)) (block_from calls all (i + 1)) (c.loop-stmt.invariant calls h) (block_split calls all i s c.loop-stmt-test.true c.stmt-item.is) (c.statement.ensures calls h) c.max-most.ensures

pub block-returns : goal.block-returns
block-returns t c = λ calls h.
    let all = c.args.statements.now in
    let i = c.loop-stmt.stmt-index in
    all_behind 0 c.loop-stmt.most (block_from calls all i) (block_from calls all 0) (c.loop-stmt.invariant calls h) (block_end calls all i c.loop-stmt-test.false)

pub statement-returns-in-If : goal.statement-returns-in-If
statement-returns-in-If t c = λ calls h.
    let test = c.in-If.test in
    let one = c.deref.result.now in
    let other = c.deref-in-If.result.now in
    same_needs (statement_needs calls) (statement c.args.kind.now) (If (condition test) (block one) (block other)) c.max-in-If.result
    (ap statement c.in-If.is ∙ statement-if test c.in-If.first c.in-If.second ∙ (λ i. If (condition test) (block (sym c.deref.ensures.value i)) (block (sym c.deref-in-If.ensures.value i))))
    (more_of_two (condition_needs calls (condition test)) (max (block_needs calls (block one)) (block_needs calls (block other))) c.condition.result c.max-blocks.result c.max-in-If.result (c.condition.ensures calls h)
    (more_of_two (block_needs calls (block one)) (block_needs calls (block other)) c.block.result c.block-in-If.result c.max-blocks.result (c.block.ensures calls h) (c.block-in-If.ensures calls h) c.max-blocks.ensures) c.max-in-If.ensures)

pub statement-returns-in-For : goal.statement-returns-in-For
statement-returns-in-For t c = λ calls h.
    let low = c.in-For.low in
    let high = c.in-For.high in
    let body = c.deref-in-For.result.now in
    let ends = max (needs calls (expression low)) (needs calls (expression high)) in
    same_needs (statement_needs calls) (statement c.args.kind.now) (For c.in-For.field-0 (expression low) (expression high) (block body)) c.max-in-For.result
    (ap statement c.in-For.is ∙ statement-for c.in-For.field-0 low high c.in-For.body ∙ ap (λ ss. For c.in-For.field-0 (expression low) (expression high) (block ss)) (sym c.deref-in-For.ensures.value))
    (more_of_two (2 + ends) (block_needs calls (block body)) c.saturating_add-in-For.result c.block-in-For.result c.max-in-For.result
    (with_more 2 ends c.max-range.result c.saturating_add-in-For.result
    (more_of_two (needs calls (expression low)) (needs calls (expression high)) c.expression-in-For.result c.expression-in-For-2.result c.max-range.result (c.expression-in-For.ensures calls h) (c.expression-in-For-2.ensures calls h) c.max-range.ensures) c.saturating_add-in-For.ensures) (c.block-in-For.ensures calls h) c.max-in-For.ensures)

pub statement-returns-in-While : goal.statement-returns-in-While
statement-returns-in-While t c = λ calls h.
    let test = c.in-While.test in
    let body = c.deref-in-While.result.now in
    same_needs (statement_needs calls) (statement c.args.kind.now) (While (condition test) c.in-While.field-1 (block body)) c.max-in-While.result
    (ap statement c.in-While.is ∙ statement-while test c.in-While.field-1 c.in-While.body ∙ ap (λ ss. While (condition test) c.in-While.field-1 (block ss)) (sym c.deref-in-While.ensures.value))
    (more_of_two (condition_needs calls (condition test)) (block_needs calls (block body)) c.condition-most.result c.block-in-While.result c.max-in-While.result (c.condition-most.ensures calls h) (c.block-in-While.ensures calls h) c.max-in-While.ensures)

pub statement-returns-in-Fold : goal.statement-returns-in-Fold
statement-returns-in-Fold t c = λ calls h.
    let f = c.deref-in-Fold.result.now in
    same_needs (statement_needs calls) (statement c.args.kind.now) (Fold (fold_head f) (block (out-Fold f).body.items)) c.fold.result
    (ap statement c.in-Fold.is ∙ statement-fold c.in-Fold.parts ∙ ap (λ g. Fold (fold_head g) (block (out-Fold g).body.items)) (sym c.deref-in-Fold.ensures))
    (c.fold.ensures calls h)

pub statement-returns-in-Pair : goal.statement-returns-in-Pair
statement-returns-in-Pair t c = λ calls h.
    let p = c.deref-in-Pair.result.now in
    same_needs (statement_needs calls) (statement c.args.kind.now) (Pair (pair_head p) (block (out-Pair p).producer.items) (block (out-Pair p).consumer.items)) c.pair.result
    (ap statement c.in-Pair.is ∙ statement-pair c.in-Pair.parts ∙ ap (λ q. Pair (pair_head q) (block (out-Pair q).producer.items) (block (out-Pair q).consumer.items)) (sym c.deref-in-Pair.ensures))
    (c.pair.ensures calls h)

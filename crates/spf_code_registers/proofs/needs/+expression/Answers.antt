use Rattle.std.proofs.Common.{◌+◌, sym, ap, ◌∙◌}
use Rattle.spf_ast.specs.Syntax.{Call}
use Rattle.spf_ast.specs.View.{expression, arguments}
use Rattle.spf_ast.proofs.Views.{expression-call}
use Rattle.spf_code_registers.specs.Registers.{needs, arguments_need}
use Rattle.spf_code_registers.proofs.Behind.{more_of_two, same_needs, none_behind, argument_behind, all_behind, arguments_from, arguments_split, arguments_end}
use Rattle.spf_code_registers.proofs.needs.+expression.Goals as goal

pub expression-returns-in-Call : goal.expression-returns-in-Call
expression-returns-in-Call t c = λ calls h.
    let f = c.in-Call.function in
    let given = c.deref-in-Call.result.now in
    same_needs (needs calls) (expression c.args.expr.now) (Call f (arguments given)) c.max.result
    (ap expression c.in-Call.is ∙ expression-call f c.in-Call.given ∙ ap (λ es. Call f (arguments es)) (sym c.deref-in-Call.ensures.value))
    (more_of_two (arguments_need calls (arguments given)) (calls f) c.arguments-most.result c.call_needs.result c.max.result (c.arguments-most.ensures calls h) (c.call_needs.ensures calls h) c.max.ensures)

pub arguments-loop-expr-init : goal.arguments-loop-expr-init
arguments-loop-expr-init t c = λ calls h. none_behind (arguments_from calls c.args.given.now 0)

pub arguments-loop-expr-preserved : goal.arguments-loop-expr-preserved
arguments-loop-expr-preserved t c = λ calls h.
    let given = c.args.given.now in
    let i = c.loop-expr.expr-index in
    let e = c.expr-item.result in
    argument_behind c.loop-expr.held c.loop-expr.most (arguments_from calls given i) (arguments_from calls given 0) c.saturating_add-held.result c.expression.result c.saturating_add.result c.max-most.result (needs calls (expression e)) (arguments_from calls given (i + 1)) (c.loop-expr.invariant calls h)
    (arguments_split calls given i e c.loop-expr-test.true c.expr-item.is) c.saturating_add-held.ensures (c.expression.ensures calls h) c.saturating_add.ensures c.max-most.ensures

pub arguments-returns : goal.arguments-returns
arguments-returns t c = λ calls h.
    let given = c.args.given.now in
    let i = c.loop-expr.expr-index in
    all_behind c.loop-expr.held c.loop-expr.most (arguments_from calls given i) (arguments_from calls given 0) (c.loop-expr.invariant calls h) (arguments_end calls given i c.loop-expr-test.false)

use Rattle.std.proofs.Common.{◌+◌, refl, sym, ap, ◌∙◌}
use Rattle.spf_ast.specs.Syntax.{Call}
use Rattle.spf_ast.specs.View.{expression, arguments}
use Rattle.spf_ast.specs.Size.{expression_measure, arguments_measure}
use Rattle.spf_ast.proofs.Views.{expression-call}
use Rattle.spf_types_size.proofs.Measures.{none_behind, one_behind, all_behind, around_two, has_along, arguments_from, arguments_split, arguments_end}
use Rattle.spf_types_size.proofs.measure.+expression.Goals as goal

pub expression-returns-in-Call : goal.expression-returns-in-Call
expression-returns-in-Call t c = λ counts h.
    let f = c.in-Call.function in
    let given = c.deref-in-Call.result.now in
    has_along counts expression_measure (expression c.args.expr.now) (Call f (arguments given)) c.within-in-Call.result
    (ap expression c.in-Call.is ∙ expression-call f c.in-Call.given ∙ ap (λ es. Call f (arguments es)) (sym c.deref-in-Call.ensures.value))
    (around_two counts (λ m. arguments_measure m (arguments given)) (λ m. m.of_function f) c.arguments-parts.result c.function_size.result c.beside.result c.within-in-Call.result (c.arguments-parts.ensures counts h) (c.function_size.ensures counts h) c.beside.ensures c.within-in-Call.ensures)

pub arguments-loop-expr-init : goal.arguments-loop-expr-init
arguments-loop-expr-init t c = λ counts h. none_behind counts (arguments_from c.args.given.now 0) (record { nodes = 0; depth = 0; slots = 0 }) refl refl refl

pub arguments-loop-expr-preserved : goal.arguments-loop-expr-preserved
arguments-loop-expr-preserved t c = λ counts h.
    let given = c.args.given.now in
    let i = c.loop-expr.expr-index in
    let e = c.expr-item.result in
    one_behind counts (arguments_from given 0) (arguments_from given i) (λ m. expression_measure m (expression e)) (arguments_from given (i + 1)) c.loop-expr.size c.expression.result c.beside-size.result (c.loop-expr.invariant counts h) (arguments_split given i e c.loop-expr-test.true c.expr-item.is) (c.expression.ensures counts h) c.beside-size.ensures

pub arguments-returns : goal.arguments-returns
arguments-returns t c = λ counts h.
    let given = c.args.given.now in
    let i = c.loop-expr.expr-index in
    all_behind counts (arguments_from given 0) (arguments_from given i) c.loop-expr.size (c.loop-expr.invariant counts h) (arguments_end given i c.loop-expr-test.false)

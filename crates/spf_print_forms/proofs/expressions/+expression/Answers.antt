use Rattle.std.proofs.Common.{rules, ◌++◌, List, codes, sym, append_assoc}
use Rattle.std.proofs.lemmas.Result.{IfOk-equal}
use Rattle.spf_ast.specs.declared.syntax.Expr.{Expr}
use Rattle.spf_ast.specs.View.{expression, arguments}
use Rattle.spf_ast.specs.Spelling.{spelled_expression, spelled_arguments}
use Rattle.spf_print_forms.specs.Canonical.{expression_text, further_arguments_text}
use Rattle.spf_print_forms.specs.Printing.{vocabulary_of}
use Rattle.spf_print_forms.proofs.Printing.{call_text, both, in_parentheses, with_no_parentheses}
use Rattle.spf_print_forms.proofs.Repeating.{one_more}
use Rattle.spf_print_forms.proofs.expressions.+expression.Goals as goal

pub push_operand-returns-in_ok-push_expression : goal.push_operand-returns-in_ok-push_expression
push_operand-returns-in_ok-push_expression t c =
    IfOk-equal c.push-then-level-least.result _ _ _ c.push-then-level-least.ensures (rw (c.in_ok-push_expression.ensures {u = tt}, c.in_ok-push.ensures {u = tt}, in_parentheses c.level.result _ c.args.least (expression_text (spelled_expression (vocabulary_of c.args.names.now) (expression c.args.expr.now))) (c.level.ensures (vocabulary_of c.args.names.now)) c.if-level-least.true) (simp append_assoc))

pub push_operand-returns-else-level-least : goal.push_operand-returns-else-level-least
push_operand-returns-else-level-least t c =
    rw (with_no_parentheses c.level.result _ c.args.least (expression_text (spelled_expression (vocabulary_of c.args.names.now) (expression c.args.expr.now))) (c.level.ensures (vocabulary_of c.args.names.now)) c.if-level-least.false) c.push_expression-else-level-least.ensures

pub push_list-loop-other-preserved : goal.push_list-loop-other-preserved
push_list-loop-other-preserved t c =
    one_more (λ (l : List Expr). further_arguments_text (spelled_arguments (vocabulary_of c.args.names.now) (arguments l))) (λ (x : Expr). codes ", " ++ expression_text (spelled_expression (vocabulary_of c.args.names.now) (expression x))) (λ x xs. sym (append_assoc (codes ", ") (expression_text (spelled_expression (vocabulary_of c.args.names.now) (expression x))) (further_arguments_text (spelled_arguments (vocabulary_of c.args.names.now) (arguments xs))))) _ _ _ c.in-Some.others.now c.loop-other.other-index c.other-item.result c.other-item.is c.loop-other-test.true (both _ _ _ _ _ (c.in_ok-push.ensures {u = tt}) (c.in_ok-push_expression-2.ensures {u = tt})) c.loop-other.invariant

pub push_expression-returns-in_ok-push-in-Call : goal.push_expression-returns-in_ok-push-in-Call
push_expression-returns-in_ok-push-in-Call t c =
    IfOk-equal c.push_arguments.result _ _ _ c.push_arguments.ensures (call_text (vocabulary_of c.args.names.now) c.in-Call.f c.in-Call.given c.args.expr.now _ _ _ c.in-Call.is c.deref-in-Call.ensures.value (search rules))

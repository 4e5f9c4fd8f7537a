use Rattle.std.proofs.Common.{◌+◌, ◌*◌}
use Rattle.spf_types_forms.proofs.Weight.{expr_weight, exprs_weight}
use Rattle.spf_types_names.specs.HereView.{setting}
use Rattle.spf_types_forms.proofs.Arguments.{AreResolved}
use Rattle.spf_types_forms.proofs.expression.+number.Given as goal

abbrev pub decreases-number : goal.decreases-number
decreases-number l = 2 * expr_weight l.raw.now

abbrev pub decreases-boxed_expression : goal.decreases-boxed_expression
decreases-boxed_expression l = 2 * expr_weight l.raw.now + 1

abbrev pub decreases-numbers : goal.decreases-numbers
decreases-numbers l = 2 * exprs_weight l.raw.now

abbrev pub invariant-numbers-loop-argument : goal.invariant-numbers-loop-argument
invariant-numbers-loop-argument l =
    AreResolved (setting l.here) l.locals.locals l.line l.raw l.arguments.items l.argument-index

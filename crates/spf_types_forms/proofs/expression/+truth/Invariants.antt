use Rattle.std.proofs.Common.{◌+◌, ◌*◌}
use Rattle.spf_types_forms.proofs.Weight.{expr_weight}
use Rattle.spf_types_forms.proofs.expression.+truth.Given as goal

abbrev pub decreases-truth : goal.decreases-truth
decreases-truth l = 2 * expr_weight l.raw.now

abbrev pub decreases-boxed_truth : goal.decreases-boxed_truth
decreases-boxed_truth l = 2 * expr_weight l.raw.now + 1

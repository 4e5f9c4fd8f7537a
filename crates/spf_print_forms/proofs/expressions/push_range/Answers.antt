use Rattle.std.proofs.Common.{append_assoc, append-nil}
use Rattle.std.proofs.lemmas.Result.{IfOk-equal}
use Rattle.spf_print_forms.proofs.expressions.push_range.Goals as goal

pub returns : goal.returns
returns c =
    IfOk-equal c.push_expression-2.result _ _ _ c.push_expression-2.ensures (rw (c.in_ok-push.ensures {u = tt}, c.in_ok-push_expression.ensures {u = tt}) (simp (append_assoc, append-nil)))

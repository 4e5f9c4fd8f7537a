use Rattle.std.proofs.Common.{append_assoc}
use Rattle.std.proofs.lemmas.Result.{IfOk-equal}
use Rattle.spf_print_forms.proofs.expressions.push_slice.Goals as goal

pub returns : goal.returns
returns c =
    IfOk-equal c.push-3.result _ _ _ c.push-3.ensures (rw (c.in_ok-push_range.ensures {u = tt}, c.in_ok-push-2.ensures {u = tt}, c.in_ok-push.ensures {u = tt}, c.array_name.ensures) (simp append_assoc))

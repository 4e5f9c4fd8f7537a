use Rattle.std.proofs.Common.{append_assoc}
use Rattle.std.proofs.lemmas.Result.{IfOk-equal}
use Rattle.spf_print.proofs.lines.push_fold_range.Goals as goal

pub returns : goal.returns
returns c =
    IfOk-equal c.push_range.result _ _ _ c.push_range.ensures (rw (c.in_ok-push-3.ensures {u = tt}, c.in_ok-push-2.ensures {u = tt}, c.slot_name.ensures, c.in_ok-push.ensures {u = tt}) (simp append_assoc))

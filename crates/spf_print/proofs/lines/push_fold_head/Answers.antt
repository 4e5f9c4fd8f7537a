use Rattle.std.proofs.Common.{append_assoc}
use Rattle.std.proofs.lemmas.Result.{IfOk-equal}
use Rattle.spf_print.proofs.lines.push_fold_head.Goals as goal

pub returns : goal.returns
returns c =
    IfOk-equal c.push_predict.result _ _ _ c.push_predict.ensures (rw (c.deref.ensures.value, c.in_ok-push_fold_range.ensures {u = tt}, c.in_ok-push_fold_start.ensures {u = tt}) (simp append_assoc))

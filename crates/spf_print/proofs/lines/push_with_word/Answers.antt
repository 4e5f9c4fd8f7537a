use Rattle.std.proofs.Common.{append_assoc}
use Rattle.std.proofs.lemmas.Result.{IfOk-equal}
use Rattle.spf_print.proofs.lines.push_with_word.Goals as goal

pub returns : goal.returns
returns c =
    IfOk-equal c.push-3.result _ _ _ c.push-3.ensures (rw (c.in_ok-push_expression.ensures {u = tt}, c.in_ok-push-2.ensures {u = tt}, c.in_ok-push.ensures {u = tt}) (simp append_assoc))

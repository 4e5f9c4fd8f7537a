use Rattle.std.proofs.Common.{append_assoc, rules, w64}
use Rattle.std.proofs.lemmas.Int.{to_z-of_z}
use Rattle.std.proofs.lemmas.Result.{IfOk-equal}
use Rattle.spf_print.proofs.programs.push_array.Goals as goal

pub returns : goal.returns
returns c =
    let factor = to_z-of_z w64 c.args.array.now.factor (search rules) in
    let offset = to_z-of_z w64 c.args.array.now.offset (search rules) in
    IfOk-equal c.push-3.result _ _ _ c.push-3.ensures (rw (c.in_ok-push_size.ensures {u = tt}, c.in_ok-push-2.ensures {u = tt}, c.in_ok-push_name.ensures {u = tt}, c.in_ok-push.ensures {u = tt}, factor, offset) (simp append_assoc))

use Rattle.std.proofs.Common.{refl}
use Rattle.std.proofs.lemmas.Result.{IfOk-equal}
use Rattle.spf_print_forms.proofs.pieces.push_count.Goals as goal

pub returns : goal.returns
returns c = IfOk-equal c.push.result _ _ _ c.push.ensures (rw (c.as_bytes.ensures.value, c.in_ok-digits.ensures.ok) refl)

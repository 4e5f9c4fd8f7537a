use Rattle.std.proofs.Common.{append_assoc, arith, map}
use Rattle.std.proofs.lemmas.List.{length-map}
use Rattle.std.proofs.lemmas.Result.{IfOk-equal}
use Rattle.spf_ast.specs.View.{name}
use Rattle.spf_ast.specs.Spelling.{name_at}
use Rattle.spf_print_forms.proofs.Printing.{in_several}
use Rattle.spf_print_forms.proofs.pieces.push_carried.Goals as goal

pub returns-in_ok-push_slots : goal.returns-in_ok-push_slots
returns-in_ok-push_slots c =
    IfOk-equal c.push-then-slots-gt1.result _ _ _ c.push-then-slots-gt1.ensures (rw (c.in_ok-push_slots.ensures {u = tt}, c.in_ok-push.ensures {u = tt}, in_several (map (name_at (map name c.args.names.now)) c.args.slots.now) _ (omega (arith, length-map c.args.slots.now (name_at (map name c.args.names.now)), c.if-slots-gt1.true))) (simp append_assoc))

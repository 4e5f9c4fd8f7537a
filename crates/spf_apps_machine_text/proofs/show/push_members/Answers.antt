use Rattle.std.proofs.Common.{◌≡◌, suc, ◌+◌, ◌-◌, ◌++◌, ap, sym, refl, ◌∙◌, arith}
use Rattle.spf_apps_machine_text.specs.MachineText.{member_text}
use Rattle.spf_apps_machine_text.proofs.Steps.{one_more, none_left, members_are, member_yes, member_no}
use Rattle.spf_apps_machine_text.proofs.show.push_members.Goals as goal
use Rattle.spf_apps_machine_text.proofs.show.push_members.Goals.{then-file-byte+in_ok-extend_from_slice, else-file-byte}

pub loop-byte-init : goal.loop-byte-init
loop-byte-init c = ap (λ t. c.args.text.now.items ++ t) (sym (members_are c.args.file.now c.args.class))

pub loop-byte-preserved : goal.loop-byte-preserved
loop-byte-preserved c =
    let count : 256 - c.loop-byte.byte ≡ suc (256 - (c.loop-byte.byte + 1)) = omega arith in
    one_more (member_text c.args.file.now c.args.class) c.loop-byte.text.items c.if-file-byte.text.items (256 - c.loop-byte.byte) (256 - (c.loop-byte.byte + 1))
    c.loop-byte.byte (c.loop-byte.byte + 1) count refl (elim c.if-file-byte.branch [
      | then-file-byte+in_ok-extend_from_slice w ↦
          ap (λ t. t.items) w.text-is ∙ w.in_ok-extend_from_slice.ensures.items
          ∙ ap (λ b. c.loop-byte.text.items ++ b) (w.byte_text.ensures ∙ sym (member_yes c.args.file.now c.args.class c.loop-byte.byte w.if-file-byte.true))
      | else-file-byte w ↦
          ap (λ t. t.items) w.text-is ∙ member_no c.args.file.now c.loop-byte.text.items c.args.class c.loop-byte.byte w.if-file-byte.false
    ])
    ∙ c.loop-byte.invariant

pub returns : goal.returns
returns c = sym (none_left (member_text c.args.file.now c.args.class) c.loop-byte.text.items (256 - c.loop-byte.byte) c.loop-byte.byte (omega arith)) ∙ c.loop-byte.invariant

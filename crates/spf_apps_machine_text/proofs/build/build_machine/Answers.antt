use Rattle.std.proofs.Common.{sym, ◌∙◌, subst}
use Rattle.spf_apps_machine_text.specs.MachineText.{IsMachine, IsTextOf}
use Rattle.spf_apps_machine_text.proofs.Again.{text_again}
use Rattle.spf_apps_machine_text.proofs.build.build_machine.Goals as goal

pub returns-then-not-is_machine : goal.returns-then-not-is_machine
returns-then-not-is_machine c = λ file h.
    let same = c.deref.ensures.value ∙ c.in_ok-file.ensures ∙ text_again c.args.text.now file h in
    c.is_machine.ensures.no c.if-not-is_machine.true (subst IsMachine (sym same) h.machine)

pub is_text_of-requires : goal.is_text_of-requires
is_text_of-requires c = subst IsMachine (c.deref.ensures.value ∙ sym c.deref-2.ensures.value) (c.is_machine.ensures.yes c.if-not-is_machine.false)

pub returns-then-not-branch : goal.returns-then-not-branch
returns-then-not-branch c = λ file h.
    let same = c.deref-2.ensures.value ∙ c.in_ok-file.ensures ∙ text_again c.args.text.now file h in
    c.in_ok-is_text_of.ensures.no c.if-not-branch.true (subst (IsTextOf c.args.text.now) (sym same) h)

pub returns : goal.returns
returns c = subst (IsTextOf c.args.text.now) c.deref-2.ensures.value (c.in_ok-is_text_of.ensures.yes c.if-not-branch.false)

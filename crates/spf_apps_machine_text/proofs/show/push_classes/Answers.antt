use Rattle.std.proofs.Common.{◌≡◌, suc, ◌+◌, ◌-◌, refl, ◌∙◌, arith}
use Rattle.spf_apps_machine_text.specs.MachineText.{class_line, classes_of}
use Rattle.spf_apps_machine_text.proofs.Steps.{one_more}
use Rattle.spf_apps_machine_text.proofs.show.push_classes.Goals as goal

pub loop-class-init : goal.loop-class-init
loop-class-init c = refl

pub loop-class-preserved : goal.loop-class-preserved
loop-class-preserved c =
    let file = c.args.file.now in
    let count : classes_of file - c.loop-class.class ≡ suc (classes_of file - (c.loop-class.class + 1)) = omega arith in
    one_more (class_line file) c.loop-class.text.items c.push_class.new.text.items _ _ c.loop-class.class (c.loop-class.class + 1) count refl c.in_ok-push_class.ensures
    ∙ c.loop-class.invariant

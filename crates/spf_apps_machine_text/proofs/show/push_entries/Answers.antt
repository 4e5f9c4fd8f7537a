use Rattle.std.proofs.Common.{◌≡◌, suc, ◌+◌, ◌-◌, refl, ◌∙◌, arith}
use Rattle.spf_apps_machine_text.specs.MachineText.{entry_text, classes_of}
use Rattle.spf_apps_machine_text.proofs.Steps.{one_more}
use Rattle.spf_apps_machine_text.proofs.show.push_entries.Goals as goal

pub loop-class-preserved : goal.loop-class-preserved
loop-class-preserved c =
    let file = c.args.file.now in
    let count : classes_of file - c.loop-class.class ≡ suc (classes_of file - (c.loop-class.class + 1)) = omega arith in
    one_more (entry_text file c.args.state) c.loop-class.text.items c.push_entry.new.text.items _ _ c.loop-class.class (c.loop-class.class + 1) count refl c.in_ok-push_entry.ensures
    ∙ c.loop-class.invariant

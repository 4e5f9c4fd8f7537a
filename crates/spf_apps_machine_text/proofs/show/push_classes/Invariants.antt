use Rattle.std.proofs.Common.{◌≡◌, ◌-◌, ◌++◌}
use Rattle.std.specs.List.{flat_map, range_with_len}
use Rattle.spf_apps_machine_text.specs.MachineText.{class_line, classes_of}
use Rattle.spf_apps_machine_text.proofs.show.push_classes.Given as goal

abbrev pub invariant-loop-class : goal.invariant-loop-class
invariant-loop-class l =
    l.text.items ++ flat_map (class_line l.file) (range_with_len l.class (classes_of l.file - l.class))
    ≡ l.fn.text.items ++ flat_map (class_line l.file) (range_with_len 1 (classes_of l.file - 1))

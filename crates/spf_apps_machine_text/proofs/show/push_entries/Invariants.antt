use Rattle.std.proofs.Common.{◌≡◌, ◌-◌, ◌++◌}
use Rattle.std.specs.List.{flat_map, range_with_len}
use Rattle.spf_apps_machine_text.specs.MachineText.{entry_text, classes_of}
use Rattle.spf_apps_machine_text.proofs.show.push_entries.Given as goal

abbrev pub invariant-loop-class : goal.invariant-loop-class
invariant-loop-class l =
    l.text.items ++ flat_map (entry_text l.file l.state) (range_with_len l.class (classes_of l.file - l.class))
    ≡ l.fn.text.items ++ flat_map (entry_text l.file l.state) (range_with_len 0 (classes_of l.file))

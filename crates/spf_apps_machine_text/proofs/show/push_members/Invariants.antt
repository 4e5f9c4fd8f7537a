use Rattle.std.proofs.Common.{◌≡◌, ◌-◌, ◌++◌}
use Rattle.std.specs.List.{flat_map, range_with_len}
use Rattle.spf_apps_machine_text.specs.MachineText.{member_text, all_bytes}
use Rattle.spf_apps_machine_text.proofs.show.push_members.Given as goal

abbrev pub invariant-loop-byte : goal.invariant-loop-byte
invariant-loop-byte l =
    l.text.items ++ flat_map (member_text l.file l.class) (range_with_len l.byte (256 - l.byte))
    ≡ l.fn.text.items ++ flat_map (member_text l.file l.class) all_bytes

use Rattle.std.proofs.Common.{◌≡◌, ◌-◌, ◌++◌}
use Rattle.std.specs.List.{flat_map, range_with_len}
use Rattle.spf_apps_machine_text.specs.MachineText.{state_line, states_of}
use Rattle.spf_apps_machine_text.proofs.show.push_states.Given as goal

abbrev pub invariant-loop-state : goal.invariant-loop-state
invariant-loop-state l =
    l.text.items ++ flat_map (state_line l.file) (range_with_len l.state (states_of l.file - l.state))
    ≡ l.fn.text.items ++ flat_map (state_line l.file) (range_with_len 0 (states_of l.file))

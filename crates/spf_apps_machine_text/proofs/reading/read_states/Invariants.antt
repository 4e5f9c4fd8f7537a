use Rattle.std.proofs.Common.{◌≡◌, ◌-◌}
use Rattle.spf_apps_machine_text.specs.Reading.{states_read, behind}
use Rattle.spf_apps_machine_text.proofs.reading.read_states.Given as goal

abbrev pub invariant-loop : goal.invariant-loop
invariant-loop l =
    behind l.file.items (states_read l.classes (l.count - l.counter) l.rest)
    ≡ behind l.fn.file.items (states_read l.classes l.count l.fn.text)

use Rattle.std.proofs.Common.{◌≡◌, ◌-◌}
use Rattle.spf_apps_machine_text.specs.Reading.{entries_read, behind}
use Rattle.spf_apps_machine_text.proofs.reading.read_entries.Given as goal

abbrev pub invariant-loop : goal.invariant-loop
invariant-loop l =
    behind l.file.items (entries_read (l.count - l.counter) l.rest) ≡ behind l.fn.file.items (entries_read l.count l.fn.text)

use Rattle.std.proofs.Common.{◌≡◌, drop}
use Rattle.spf_apps_machine_text.specs.Reading.{number_from, number_at}
use Rattle.spf_apps_machine_text.proofs.reading.number.Given as goal

abbrev pub invariant-loop-offset : goal.invariant-loop-offset
invariant-loop-offset l = number_from l.value (drop l.offset l.text) ≡ number_at l.text

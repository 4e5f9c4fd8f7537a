use Rattle.std.proofs.Common.{◌≡◌, ◌-◌}
use Rattle.spf_apps_machine_text.specs.Reading.{classes_read}
use Rattle.spf_apps_machine_text.proofs.reading.read_classes.Given as goal

abbrev pub invariant-loop-class : goal.invariant-loop-class
invariant-loop-class l =
    classes_read (l.classes - l.class) l.class (l.table, l.rest) ≡ classes_read (l.classes - 1) 1 (l.fn.table, l.fn.text)

use Rattle.std.proofs.Common.{◌≡◌, take, drop}
use Rattle.spf_apps_machine_text.specs.Reading.{bytes_read, behind}
use Rattle.spf_apps_machine_text.proofs.reading.read_bytes.Given as goal

abbrev pub invariant-loop-byte : goal.invariant-loop-byte
invariant-loop-byte l =
    behind (take l.byte l.table) (bytes_read l.class l.byte (drop l.byte l.table) l.rest) ≡ bytes_read l.class 0 l.fn.table l.fn.text

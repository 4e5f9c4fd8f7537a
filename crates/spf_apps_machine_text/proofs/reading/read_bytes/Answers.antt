use Rattle.std.proofs.Common.{◌+◌, take, drop, ap, sym, ◌∙◌, arith}
use Rattle.spf_apps_machine_text.specs.Reading.{bytes_read, behind}
use Rattle.spf_apps_machine_text.proofs.Steps.{bytes_yes, bytes_no, bytes_all}
use Rattle.spf_apps_machine_text.proofs.reading.read_bytes.Goals as goal
use Rattle.spf_apps_machine_text.proofs.reading.read_bytes.Goals.{in-Some, in_default}

pub loop-byte-preserved : goal.loop-byte-preserved
loop-byte-preserved c =
    elim c.match-after_byte.branch [
      | in-Some w ↦ (λ i. behind (take (c.loop-byte.byte + 1) (w.table-is i)) (bytes_read c.args.class (c.loop-byte.byte + 1) (drop (c.loop-byte.byte + 1) (w.table-is i)) ((ap (λ r. r.now) w.rest-is ∙ w.in-Some.ensures.1) i)))
          ∙ bytes_yes c.args.class c.loop-byte.byte c.loop-byte.table c.loop-byte.rest.now (omega arith) w.in-Some.ensures.0
          ∙ c.loop-byte.invariant
      | in_default w ↦ (λ i. behind (take (c.loop-byte.byte + 1) (w.table-is i)) (bytes_read c.args.class (c.loop-byte.byte + 1) (drop (c.loop-byte.byte + 1) (w.table-is i)) (ap (λ r. r.now) w.rest-is i)))
          ∙ bytes_no c.args.class c.loop-byte.byte c.loop-byte.table c.loop-byte.rest.now (omega arith) w.in_default.ensures
          ∙ c.loop-byte.invariant
    ]

pub returns-clause-table : goal.returns-clause-table
returns-clause-table c = ap (λ r. r.0) (sym (bytes_all c.args.class c.loop-byte.byte c.loop-byte.table c.loop-byte.rest.now (omega arith)) ∙ c.loop-byte.invariant)

pub returns-clause-rest : goal.returns-clause-rest
returns-clause-rest c = ap (λ r. r.1) (sym (bytes_all c.args.class c.loop-byte.byte c.loop-byte.table c.loop-byte.rest.now (omega arith)) ∙ c.loop-byte.invariant)

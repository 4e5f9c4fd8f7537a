use Rattle.std.proofs.Common.{◌≡◌, suc, ◌+◌, ◌-◌, drop, ap, ◌∙◌, arith}
use Rattle.spf_apps_machine_text.specs.Reading.{number_at, bytes_read}
use Rattle.spf_apps_machine_text.proofs.Steps.{classes_more}
use Rattle.spf_apps_machine_text.proofs.reading.read_classes.Goals as goal

pub loop-class-preserved : goal.loop-class-preserved
loop-class-preserved c =
    let count : c.args.classes - c.loop-class.class ≡ suc (c.args.classes - (c.loop-class.class + 1)) = omega arith in
    let members : c.number.result.1.now ≡ (number_at (drop 6 c.loop-class.rest.now)).1 = c.number.ensures.rest ∙ ap (λ t. (number_at t).1) c.after.ensures in
    classes_more _ _ c.loop-class.class c.loop-class.table c.read_bytes.new.table c.loop-class.rest.now c.after-rest-in-loop-class.result.now count
    (c.read_bytes.ensures.table ∙ ap (λ t. (bytes_read c.loop-class.class 0 c.loop-class.table t).0) members)
    (c.after-rest-in-loop-class.ensures ∙ ap (drop 1) (c.read_bytes.ensures.rest ∙ ap (λ t. (bytes_read c.loop-class.class 0 c.loop-class.table t).1) members))
    ∙ c.loop-class.invariant

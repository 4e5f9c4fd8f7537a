use Rattle.std.proofs.Common.{◌≡◌, suc, ◌+◌, ◌-◌, drop, ap, ◌∙◌, arith}
use Rattle.spf_apps_machine_text.specs.Reading.{number_at, next_read}
use Rattle.spf_apps_machine_text.proofs.Steps.{read_more}
use Rattle.spf_apps_machine_text.proofs.reading.read_entries.Goals as goal

pub loop-preserved : goal.loop-preserved
loop-preserved c =
    let count : c.args.count - c.loop.counter ≡ suc (c.args.count - (c.loop.counter + 1)) = omega arith in
    let behind_next : c.after-in-loop.result.now ≡ drop 1 (next_read c.loop.rest.now).1 =
    c.after-in-loop.ensures ∙ ap (drop 1) (c.number-next.ensures.rest ∙ ap (λ t. (number_at t).1) c.after.ensures) in
    read_more _ _ c.number-next.result.0 c.number-mark.result.0 c.loop.file.items c.push.new.self.items c.push-in-loop.new.self.items c.loop.rest.now c.number-mark.result.1.now count
    (c.number-next.ensures.number ∙ ap (λ t. (number_at t).0) c.after.ensures)
    (c.number-mark.ensures.number ∙ ap (λ t. (number_at t).0) behind_next)
    (c.number-mark.ensures.rest ∙ ap (λ t. (number_at t).1) behind_next)
    c.in_ok-push.ensures.items c.in_ok-push-2.ensures.items
    ∙ c.loop.invariant

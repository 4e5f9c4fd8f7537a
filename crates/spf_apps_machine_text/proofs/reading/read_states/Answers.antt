use Rattle.std.proofs.Common.{◌≡◌, suc, ◌+◌, ◌-◌, ◌++◌, drop, ap, ◌∙◌, arith}
use Rattle.spf_apps_machine_text.specs.Reading.{number_at, entries_read}
use Rattle.spf_apps_machine_text.proofs.Steps.{states_more}
use Rattle.spf_apps_machine_text.proofs.reading.read_states.Goals as goal

pub loop-preserved : goal.loop-preserved
loop-preserved c =
    let count : c.args.count - c.loop.counter ≡ suc (c.args.count - (c.loop.counter + 1)) = omega arith in
    let entries : c.number.result.1.now ≡ (number_at (drop 6 c.loop.rest.now)).1 = c.number.ensures.rest ∙ ap (λ t. (number_at t).1) c.after.ensures in
    states_more c.args.classes _ _ c.loop.file.items c.read_entries.new.file.items c.loop.rest.now c.after-rest-in-loop.result.now count
    (c.in_ok-read_entries.ensures.file ∙ ap (λ t. c.loop.file.items ++ (entries_read c.args.classes t).0) entries)
    (c.after-rest-in-loop.ensures ∙ ap (drop 1) (c.in_ok-read_entries.ensures.rest ∙ ap (λ t. (entries_read c.args.classes t).1) entries))
    ∙ c.loop.invariant

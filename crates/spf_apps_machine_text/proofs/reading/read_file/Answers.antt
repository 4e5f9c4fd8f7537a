use Rattle.std.proofs.Common.{◌≡◌, ◌++◌, drop, refl, ap, ◌∙◌}
use Rattle.spf_apps_formats.specs.Lex1.{signature}
use Rattle.spf_apps_machine_text.specs.Reading.{number_at, states_count, classes_count}
use Rattle.spf_apps_machine_text.proofs.Steps.{assembled, table_is}
use Rattle.spf_apps_machine_text.proofs.reading.read_file.Goals as goal

pub returns : goal.returns
returns c =
    let states : c.number-states.result.0 ≡ (states_count c.args.text.now).0 = c.number-states.ensures.number ∙ ap (λ t. (number_at t).0) c.after.ensures in
    let later : c.after-2.result.now ≡ drop 9 (states_count c.args.text.now).1 =
    c.after-2.ensures ∙ ap (drop 9) (c.number-states.ensures.rest ∙ ap (λ t. (number_at t).1) c.after.ensures) in
    let classes : c.number-classes.result.0 ≡ (classes_count c.args.text.now).0 = c.number-classes.ensures.number ∙ ap (λ t. (number_at t).0) later in
    let lines : c.after-3.result.now ≡ drop 1 (classes_count c.args.text.now).1 =
    c.after-3.ensures ∙ ap (drop 1) (c.number-classes.ensures.rest ∙ ap (λ t. (number_at t).1) later) in
    assembled c.args.text.now c.number-states.result.0 c.number-classes.result.0 c.extend_from_slice.new.self.items c.push.new.self.items c.push-2.new.self.items c.extend_from_slice-2.new.self.items c.read_states.new.file.items
    c.read_classes-rest.new.table c.read_classes-rest.result.now states classes
    (table_is c.args.text.now c.number-classes.result.0 _ c.after-3.result.now _ classes refl lines c.read_classes-rest.ensures)
    (c.in_ok-extend_from_slice.ensures.items ∙ ap (λ x. x ++ signature) c.new-file.ensures.items) c.in_ok-push.ensures.items c.in_ok-push-2.ensures.items c.in_ok-extend_from_slice-2.ensures.items c.in_ok-read_states.ensures.file

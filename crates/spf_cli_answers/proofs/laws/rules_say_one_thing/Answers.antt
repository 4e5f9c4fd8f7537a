use Rattle.spf_cli_answers.proofs.laws.rules_say_one_thing.Goals as goal

pub returns : goal.returns
returns c =
    let refusal = c.one_first_refusal.ensures in
    let explanation = c.one_explanation.ensures in
    record { some = refusal.some; one = refusal.one; refused = refusal.refused; explained = explanation.some; explanation = explanation.one }

use Rattle.std.proofs.Common.{◌≡◌, ◌∙◌, ap}
use Rattle.spf_ast.specs.Program.{outcome, seen_outcome}
use Rattle.spf_exec_instance.specs.Instance.{InstanceValue, program_of}
use Rattle.spf_guess_statistics.specs.Statistics.{none}
use Rattle.spf_cli_answers.specs.Answering.{seen_answer}
use Rattle.spf_cli_answers.specs.Following.{ran_there}
use Rattle.spf_cli_answers.proofs.Steps.{if_ok}
use Rattle.spf_cli_answers.proofs.answer.answer_plainly.Goals as goal

pub returns : goal.returns
returns c =
    let options = c.args.options in
    let made = c.args.instance in
    let same = c.fill_tables.ensures.same in
    let came = c.in_ok-outcome.ensures ∙ ap (λ (i : InstanceValue). outcome (program_of i) i.input) same in
    if_ok c.answer_of_run.result (λ a. seen_answer a ≡ ran_there options c.fill_tables.new.instance (seen_outcome c.in_ok-outcome.outcome) c.none.result)
    (λ a. seen_answer a ≡ ran_there options made (outcome (program_of made) made.input) none)
    (λ a e. e ∙ (λ i. ran_there options (same i) (came i) (c.none.ensures i))) c.answer_of_run.ensures

use Rattle.std.proofs.Common.{map, refl, subst}
use Rattle.std.specs.Prelude.{Some}
use Rattle.spf_exec_instance.specs.Instance.{program_of}
use Rattle.spf_guess.specs.Answers.{handed_in}
use Rattle.spf_replay_sim.specs.Drawing.{HasTooManySteps}
use Rattle.spf_replay_sim.specs.Simulating.{ComesTo}
use Rattle.spf_cli_answers.specs.Answering.{seen_answer}
use Rattle.spf_cli_answers.proofs.Logs.{drawn_by, too_long_so}
use Rattle.spf_cli_answers.proofs.replaying.simulate_on.Goals as goal

pub returns-in_ok-answer_of_simulation-in-Some : goal.returns-in_ok-answer_of_simulation-in-Some
returns-in_ok-answer_of_simulation-in-Some g c =
    let p = program_of c.args.instance.now in
    let input = c.args.instance.now.input in
    let hosts = handed_in (map (λ h. (goal.Predictor-dyn g (h.vtable, h.value)).answer h.value) c.args.hosts.now.items) in
    let came : ComesTo hosts p input c.args.seed (Some c.in-Some.made) = subst (ComesTo hosts p input c.args.seed) c.in-Some.is c.in_ok-made.ensures.simulated in
    let a = seen_answer c.in_ok-answer_of_simulation-in-Some.field-0 in
    drawn_by c.each_run_has_one_schedule.ensures.one hosts p p input input c.args.seed c.in-Some.made a refl refl came c.in_ok-answer_of_simulation-in-Some.ensures

pub returns-in_ok-too_many_steps-in-None : goal.returns-in_ok-too_many_steps-in-None
returns-in_ok-too_many_steps-in-None g c =
    let p = program_of c.args.instance.now in
    let input = c.args.instance.now.input in
    let hosts = handed_in (map (λ h. (goal.Predictor-dyn g (h.vtable, h.value)).answer h.value) c.args.hosts.now.items) in
    let long : HasTooManySteps hosts p input c.args.seed = subst (ComesTo hosts p input c.args.seed) c.in-None.is c.in_ok-made.ensures.simulated in
    too_long_so hosts p input c.args.seed (seen_answer c.in_ok-too_many_steps-in-None.field-0) long c.in_ok-too_many_steps-in-None.ensures

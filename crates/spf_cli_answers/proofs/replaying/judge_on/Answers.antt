use Rattle.std.proofs.Common.{map}
use Rattle.spf_exec_instance.specs.Instance.{program_of}
use Rattle.spf_guess.specs.Answers.{handed_in}
use Rattle.spf_replay_log.specs.Log.{sections_of}
use Rattle.spf_cli_answers.specs.Answering.{seen_answer}
use Rattle.spf_cli_answers.proofs.Logs.{ruled_so}
use Rattle.spf_cli_answers.proofs.replaying.judge_on.Goals as goal

pub returns : goal.returns
returns g c =
    let hosts = handed_in (map (λ h. (goal.Predictor-dyn g (h.vtable, h.value)).answer h.value) c.args.hosts.now.items) in
    ruled_so c.verdicts_are_exact.ensures.one hosts (program_of c.args.instance.now) c.args.instance.now.input (sections_of c.args.log.now) c.in_ok-verdict.verdict (seen_answer c.in_ok-answer_of_verdict.field-0)
    c.in_ok-verdict.ensures.verdict c.in_ok-answer_of_verdict.ensures

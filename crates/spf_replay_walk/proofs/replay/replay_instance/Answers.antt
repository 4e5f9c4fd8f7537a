use Rattle.std.proofs.Common.{map}
use Rattle.spf_exec_instance.specs.Instance.{program_of}
use Rattle.spf_guess.specs.Answers.{handed_in}
use Rattle.spf_replay_walk.proofs.Walking.{log-verdict}
use Rattle.spf_replay_walk.proofs.replay.replay_instance.Goals as goal

pub returns-clause-verdict : goal.returns-clause-verdict
returns-clause-verdict g c =
    log-verdict c.verdicts_are_exact.ensures.alike c.runs_look_alike.ensures (handed_in (map (λ h. (goal.Predictor-dyn g (h.vtable, h.value)).answer h.value) c.args.hosts.now.items))
    (program_of c.args.instance.now) c.args.instance.now.input c.args.log.now c.new-judge.result _ c.verdict.result c.new-judge.ensures.log c.new-judge.ensures.judged c.in_ok-walk.ensures.visited c.verdict.ensures

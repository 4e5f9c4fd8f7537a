use Rattle.spf_replay_walk.specs.Judging.{seen_log}
use Rattle.spf_replay_walk.proofs.Verdicts.{judged-wrong-before}
use Rattle.spf_replay_walk.proofs.judging.judge_section.Goals as goal

pub returns-in-No-clause-judged : goal.returns-in-No-clause-judged
returns-in-No-clause-judged c = λ passed x h same guesses. judged-wrong-before passed x (seen_log c.args.log.now) c.args.judged _ c.in-No.is h

use Rattle.std.proofs.Common.{length, sym}
use Rattle.spf_replay_walk.specs.Judging.{seen_log}
use Rattle.spf_replay_walk.proofs.Verdicts.{as-long, ends-wrong, ends-so}
use Rattle.spf_replay_walk.proofs.judging.judge_end.Goals as goal

pub returns-in-No : goal.returns-in-No
returns-in-No c = λ passed h. ends-wrong passed (seen_log c.args.log.now) c.args.judged _ c.in-No.is h

pub returns-in-Yes : goal.returns-in-Yes
returns-in-Yes c = λ passed h.
    ends-so passed (seen_log c.args.log.now) c.args.judged (length c.args.log.now) c.end_verdict.result (sym (as-long c.args.log.now)) c.in-Yes.is h c.end_verdict.ensures.right c.end_verdict.ensures.early

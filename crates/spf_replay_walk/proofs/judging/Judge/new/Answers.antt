use Rattle.std.proofs.Common.{refl}
use Rattle.spf_replay_walk.specs.Judging.{seen_log}
use Rattle.spf_replay_walk.proofs.judging.Judge.new.Goals as goal

pub returns-clause-judged : goal.returns-clause-judged
returns-clause-judged c = record { same_log = refl; judged = c.nothing_judged.ensures (seen_log c.args.log.now) }

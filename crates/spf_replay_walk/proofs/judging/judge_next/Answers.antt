use Rattle.std.proofs.Common.{refl, subst}
use Rattle.spf_replay.specs.Entered.{entry_of}
use Rattle.spf_replay_walk.specs.Judging.{seen_log, IsAfterRun}
use Rattle.spf_replay_walk.proofs.Verdicts.{after-right, after-wrong}
use Rattle.spf_replay_walk.proofs.judging.judge_next.Goals as goal

pub returns-in-Some-clause-judged : goal.returns-in-Some-clause-judged
returns-in-Some-clause-judged c = λ passed x h same guesses.
    let log = seen_log c.args.log.now in
    after-right passed x log c.args.judged _ (entry_of c.args.entered.now) c.in-Some.next c.requires.right h same
    (subst (λ r. IsAfterRun log c.args.judged.next (entry_of c.args.entered.now) x.guess r) c.in-Some.is (c.in_ok-next.ensures.after x.guess guesses)) refl refl

pub returns-in-None-clause-judged : goal.returns-in-None-clause-judged
returns-in-None-clause-judged c = λ passed x h same guesses.
    let log = seen_log c.args.log.now in
    after-wrong passed x log c.args.judged c.refuse.result (entry_of c.args.entered.now) c.requires.right h same
    (subst (λ r. IsAfterRun log c.args.judged.next (entry_of c.args.entered.now) x.guess r) c.in-None.is (c.in_ok-next.ensures.after x.guess guesses)) c.refuse.ensures

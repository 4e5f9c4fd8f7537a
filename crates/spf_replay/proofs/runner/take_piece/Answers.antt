use Rattle.std.proofs.Common.{◌++◌, ap, ◌∙◌, sym, arith}
use Rattle.spf_speculation.specs.Steps.{steps_of}
use Rattle.spf_replay.specs.Runners.{next_status}
use Rattle.spf_replay.specs.SeenSteps.{seen_steps}
use Rattle.spf_replay.proofs.Pieces.{turn-found, end-found, stands-on, stands-stopped}
use Rattle.spf_replay.proofs.runner.take_piece.Goals as goal

pub returns-then-runner-clause-steps : goal.returns-then-runner-clause-steps
returns-then-runner-clause-steps c e h =
    let r = c.args.runner.now in
    let p = turn-found e c.args.n r c.deref.result.now c.in-Some.end r.flag h c.deref.ensures.value c.in-Some.ensures.1 c.in-Some.ensures.2 in
    c.in_ok-push_piece.ensures ∙ ap (λ l. seen_steps c.args.steps.now.items ++ steps_of c.args.n l) p.0

pub returns-then-runner-clause-status : goal.returns-then-runner-clause-status
returns-then-runner-clause-status c e h =
    let r = c.args.runner.now in
    let p = turn-found e c.args.n r c.deref.result.now c.in-Some.end r.flag h c.deref.ensures.value c.in-Some.ensures.1 c.in-Some.ensures.2 in
    stands-on e c.args.n r c.in-Some.end r.running c.requires.running c.if-runner.true p.1

pub returns-in-Some-clause-steps : goal.returns-in-Some-clause-steps
returns-in-Some-clause-steps c e h =
    let r = c.args.runner.now in
    let p = turn-found e c.args.n r c.deref.result.now c.in-Some.end r.flag h c.deref.ensures.value c.in-Some.ensures.1 c.in-Some.ensures.2 in
    c.in_ok-push_piece.ensures ∙ ap (λ l. seen_steps c.args.steps.now.items ++ steps_of c.args.n l) p.0

pub returns-in-Some-clause-status : goal.returns-in-Some-clause-status
returns-in-Some-clause-status c e h =
    let r = c.args.runner.now in
    let p = turn-found e c.args.n r c.deref.result.now c.in-Some.end r.flag h c.deref.ensures.value c.in-Some.ensures.1 c.in-Some.ensures.2 in
    stands-stopped r.flag r.attempt r.row _ _ (omega arith) p.1

pub returns-in-None-clause-steps : goal.returns-in-None-clause-steps
returns-in-None-clause-steps c e h =
    let r = c.args.runner.now in
    let p = end-found e c.args.n r c.deref.result.now r.flag h c.requires.piece c.deref.ensures.value c.in-None.ensures in
    c.in_ok-push_piece.ensures ∙ ap (λ l. seen_steps c.args.steps.now.items ++ steps_of c.args.n l) p.0

pub returns-in-None-clause-status : goal.returns-in-None-clause-status
returns-in-None-clause-status c e h =
    let r = c.args.runner.now in
    let p = end-found e c.args.n r c.deref.result.now r.flag h c.requires.piece c.deref.ensures.value c.in-None.ensures in
    sym (ap (next_status r.flag r.attempt r.row) p.1)

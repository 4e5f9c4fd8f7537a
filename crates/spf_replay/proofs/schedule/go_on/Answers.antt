use Rattle.std.proofs.Common.{◌++◌, [], drop, ap, ◌∙◌, arith}
use Rattle.spf_speculation.specs.Steps.{steps_of}
use Rattle.spf_replay.specs.declared.runner.Runner.{Runner}
use Rattle.spf_replay.specs.Entered.{entry_of}
use Rattle.spf_replay.specs.Runners.{next_status}
use Rattle.spf_replay.specs.Schedule.{attempt_events, piece, after_piece}
use Rattle.spf_replay.specs.SeenSteps.{seen_steps}
use Rattle.spf_replay.proofs.Simulated.{steps-more}
use Rattle.spf_replay.proofs.schedule.go_on.Goals as goal

pub returns-then-not-branch-clause-too_many : goal.returns-then-not-branch-clause-too_many
returns-then-not-branch-clause-too_many c is =
    let over = c.in_ok-extend_record.ensures.long c.if-not-branch.true c.args.runner.now.flag in
    let few = c.requires.few in
    let len = c.len.ensures in
    omega (arith, over, few, len)

pub returns-clause-steps : goal.returns-clause-steps
returns-clause-steps c =
    let e = entry_of c.args.entered.now in
    c.in_ok-take_piece.ensures.steps e c.in_ok-extend_record.ensures.runner
    ∙ ap (λ (x : Runner). seen_steps c.args.steps.now.items ++ steps_of c.args.n (piece x.flag (drop x.taken (attempt_events e c.args.n x.row [])))) c.in_ok-extend_record.ensures.same

pub returns-then-len-limit-clause-too_many : goal.returns-then-len-limit-clause-too_many
returns-then-len-limit-clause-too_many c is =
    let e = entry_of c.args.entered.now in
    let r = c.args.runner.now in
    let size = steps-more c.args.steps.now.items c.take_piece.new.steps.items c.args.n (piece r.flag (drop r.taken (attempt_events e c.args.n r.row [])))
    (c.in_ok-take_piece.ensures.steps e c.in_ok-extend_record.ensures.runner
    ∙ ap (λ (x : Runner). seen_steps c.args.steps.now.items ++ steps_of c.args.n (piece x.flag (drop x.taken (attempt_events e c.args.n x.row [])))) c.in_ok-extend_record.ensures.same) in
    let over = c.if-len-limit.true in
    let len = c.len-2.ensures in
    omega (arith, size, over, len)

pub returns-clause-runner : goal.returns-clause-runner
returns-clause-runner c = c.in_ok-take_piece.ensures.runner (entry_of c.args.entered.now) c.in_ok-extend_record.ensures.runner

pub returns-clause-status : goal.returns-clause-status
returns-clause-status c =
    let e = entry_of c.args.entered.now in
    c.in_ok-take_piece.ensures.status e c.in_ok-extend_record.ensures.runner
    ∙ ap (λ (x : Runner). next_status x.flag x.attempt x.row (after_piece (drop x.taken (attempt_events e c.args.n x.row [])))) c.in_ok-extend_record.ensures.same

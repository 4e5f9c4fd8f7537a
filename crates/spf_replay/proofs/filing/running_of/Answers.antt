use Rattle.std.proofs.Common.{◌≡◌, ◌+◌, get_or, refl, ap, ◌∙◌, arith}
use Rattle.spf_replay.specs.Schedule.{running_blocks}
use Rattle.spf_replay.proofs.Settled.{at-index, more-running, no-more-running}
use Rattle.spf_replay.proofs.filing.running_of.Goals.{then-runners-n+in_ok-push, else-runners-n}
use Rattle.spf_replay.proofs.filing.running_of.Goals as goal

pub loop-n-preserved : goal.loop-n-preserved
loop-n-preserved c e s are =
    let n = c.loop-n.n in
    let r = get_or c.args.runners.now n c.index-runners-n.result in
    let block = are.each n r (at-index c.args.runners.now n c.index-runners-n.result r c.loop-n-test.true refl) in
    elim c.if-runners-n.branch [
      | then-runners-n+in_ok-push w ↦ ap (λ v. v.items) w.running-is ∙ w.in_ok-push.ensures.items
          ∙ more-running e s n (n + 1) r c.loop-n.running.items (omega arith) block w.if-runners-n.true (c.loop-n.invariant e s are)
      | else-runners-n w ↦ ap (λ v. v.items) w.running-is
          ∙ no-more-running e s n (n + 1) r c.loop-n.running.items (omega arith) block w.if-runners-n.false (c.loop-n.invariant e s are)
    ]

pub returns : goal.returns
returns c e s are =
    let past = c.loop-n-test.false in
    let bound = c.loop-n.auto.n-end in
    let count = are.count in
    let whole : c.loop-n.n ≡ e.header.blocks = omega (arith, past, bound, count) in
    c.loop-n.invariant e s are ∙ ap (running_blocks s.status) whole

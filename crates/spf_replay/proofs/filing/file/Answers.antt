use Rattle.std.proofs.Common.{◌+◌, get_or, refl, ap, ◌∙◌, arith}
use Rattle.std.specs.Prelude.{slice_get}
use Rattle.spf_replay.specs.Entered.{entry_of}
use Rattle.spf_replay.proofs.Scheduled.{real}
use Rattle.spf_replay.proofs.Settled.{at-index, settled-on, all-settled}
use Rattle.spf_replay.proofs.filing.file.Goals as goal

pub loop-n-init : goal.loop-n-init
loop-n-init c s are again = (λ k r at from. are.each k r at, λ k r at low. absurd (omega (arith, low)))

pub loop-n-preserved : goal.loop-n-preserved
loop-n-preserved c s are again =
    let e = entry_of c.args.entered.now in
    let n = c.loop-n.n in
    let r = get_or c.loop-n.runners n c.index-runners-n.result in
    let below = c.loop-n-test.true in
    let size = c.loop-n.auto.runners in
    let count = are.count in
    let block = c.front_of-block.result in
    let here = c.front_of-block.ensures s are in
    settled-on e s c.loop-n.runners n (n + 1) block r c.settle.new.runner c.real_row.result (omega arith) again (omega (arith, below, size, count))
    (at-index c.loop-n.runners n c.index-runners-n.result r (omega (arith, below, size)) refl)
    here (c.real_row.ensures ∙ ap (λ l. slice_get l block) c.requires.is.reals ∙ ap (real e) here)
    (c.settle.ensures.runner e) (c.settle.ensures.status e) (c.settle.ensures.flag e) (c.loop-n.invariant s are again)

pub returns : goal.returns
returns c s are again =
    let past = c.loop-n-test.false in
    let size = c.loop-n.auto.runners in
    let count = are.count in
    all-settled (entry_of c.args.entered.now) s c.loop-n.runners c.loop-n.n (omega (arith, size, count)) (omega (arith, past, size)) (c.loop-n.invariant s are again).1

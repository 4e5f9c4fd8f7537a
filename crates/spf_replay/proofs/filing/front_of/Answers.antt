use Rattle.std.proofs.Common.{◌≡◌, ◌+◌, true, false, sym, ap, ◌∙◌, arith}
use Rattle.std.specs.Prelude.{slice_get}
use Rattle.spf_replay.specs.Entered.{entry_of}
use Rattle.spf_replay.specs.Schedule.{is_valid, is_valid_in, front}
use Rattle.spf_replay.proofs.Settled.{at-index, front-on, front-found}
use Rattle.spf_replay.proofs.filing.front_of.Goals as goal

pub returns-then-not-has_ended : goal.returns-then-not-has_ended
returns-then-not-has_ended c s are =
    let e = entry_of c.args.entered.now in
    let n = c.loop-n.n in
    let r = c.index-runners-n.result in
    let below = c.loop-n-test.true in
    let count = are.count in
    let block = are.each n r (at-index c.args.runners.now n _ r below c.index-runners-n.is) in
    let row = c.real_row.ensures ∙ ap (λ l. slice_get l n) c.requires.is.reals in
    let ended : is_valid_in e s.status n ≡ false = sym (λ i. is_valid (row i) (block.status i)) ∙ sym (c.has_ended.ensures e n) ∙ c.if-not-has_ended.true in
    front-found (is_valid_in e s.status) n e.header.blocks (front e s.status) (omega (arith, below, count)) ended (c.loop-n.invariant s are)

pub loop-n-preserved : goal.loop-n-preserved
loop-n-preserved c s are =
    let e = entry_of c.args.entered.now in
    let n = c.loop-n.n in
    let r = c.index-runners-n.result in
    let below = c.loop-n-test.true in
    let count = are.count in
    let block = are.each n r (at-index c.args.runners.now n _ r below c.index-runners-n.is) in
    let row = c.real_row.ensures ∙ ap (λ l. slice_get l n) c.requires.is.reals in
    let ended : is_valid_in e s.status n ≡ true = sym (λ i. is_valid (row i) (block.status i)) ∙ sym (c.has_ended.ensures e n) ∙ c.if-not-has_ended.false in
    front-on (is_valid_in e s.status) n (n + 1) e.header.blocks (front e s.status) (omega arith) (omega (arith, below, count)) ended (c.loop-n.invariant s are)

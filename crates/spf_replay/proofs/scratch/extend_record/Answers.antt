use Rattle.std.proofs.Common.{◌≡◌, ◌<◌, [], length, drop, ap, subst, arith}
use Rattle.spf_replay.specs.declared.runner.Runner.{Runner}
use Rattle.spf_replay.specs.Entered.{entry_of}
use Rattle.spf_replay.specs.Schedule.{attempt_events, piece}
use Rattle.spf_replay.proofs.Growing.{long-piece}
use Rattle.spf_replay.proofs.scratch.extend_record.Goals as goal

pub returns-then-size-largest-clause-long : goal.returns-then-size-largest-clause-long
returns-then-size-largest-clause-long c not number =
    let e = entry_of c.args.entered.now in
    let i = c.loop-alloc.invariant in
    let r = c.loop-alloc.runner in
    let cut = c.has_piece.ensures.cut c.loop-alloc-test.true in
    let count = i.full cut.0 in
    let taken : r.taken ≡ c.args.runner.now.taken = ap (λ (x : Runner). x.taken) i.same in
    let large = c.if-size-largest.true in
    subst (λ (x : Runner). c.args.most < length (piece number (drop x.taken (attempt_events e c.args.n x.row [])))) i.same
    (long-piece e c.args.n r c.args.most i.runner cut.1 (omega (arith, count, taken, large)) number)

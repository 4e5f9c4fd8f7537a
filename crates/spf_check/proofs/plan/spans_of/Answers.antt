use Rattle.std.proofs.Common.{arith, w64, ◌≡◌}
use Rattle.std.proofs.lemmas.Int.{to_z-of_z}
use Rattle.spf_check.proofs.Planning.{pushed}
use Rattle.spf_check.proofs.plan.spans_of.Goals as goal

pub loop-block-preserved : goal.loop-block-preserved
loop-block-preserved c = record {
  listed =
      let low = to_z-of_z w64 c.args.low record { sfits = c.ranges.low.sfits } in
      pushed c.args.writes.now c.args.extents.now _ c.number_of-number.result c.loop-block.block c.loop-block.plan.items _ c.in_ok-spans.spans c.of_block.result.now
      c.loop-block.invariant.listed c.in_ok-push.ensures.items c.number_of-number.ensures c.of_block.ensures c.in_ok-spans.ensures.ascending (rw (to_z-of_z w64 c.number_of-number.result record { sfits = c.number_of-number.type_inv }) at c.in_ok-spans.ensures.cells);
}

pub returns : goal.returns
returns c =
    let low = to_z-of_z w64 c.args.low record { sfits = c.ranges.low.sfits } in
    let all : c.loop-block.block ≡ c.args.blocks = omega (arith, c.loop-block-test.false, c.loop-block.auto.block-end) in
    rw (← all) (rw low at c.loop-block.invariant.listed)

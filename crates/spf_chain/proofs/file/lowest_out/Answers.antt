use Rattle.std.proofs.Common.{None, arith}
use Rattle.std.proofs.lemmas.Option.{slice_get_within}
use Rattle.spf_chain.proofs.Lists.{not-both}
use Rattle.spf_chain.proofs.Lists.{none-below}
use Rattle.spf_chain.proofs.file.lowest_out.Goals as goal

pub loop-block-preserved : goal.loop-block-preserved
loop-block-preserved c =
    none-below c.args.homes.now c.loop-block.block c.loop-block.invariant (λ out. not-both c.is_out.result (c.is_out.ensures.1 out) c.if-is_out.false)

pub returns-then-is_out : goal.returns-then-is_out
returns-then-is_out c = (c.is_out.ensures.0 c.if-is_out.true, c.loop-block.invariant)

pub returns : goal.returns
returns c = λ n out. let low = slice_get_within c.args.homes.now n None out in c.loop-block.invariant n (omega (arith, low, c.loop-block-test.false)) out

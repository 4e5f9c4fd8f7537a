use Rattle.std.proofs.Common.{arith}
use Rattle.spf_cells.proofs.Spans.{cells_room, cells_longer}
use Rattle.spf_cells.proofs.make.size_of_spans.Goals as goal

pub overflow_add-size : goal.overflow_add-size
overflow_add-size c = let i = c.loop-span.invariant in let e = c.saturating_sub.ensures in omega (arith, cells_room c.args.spans.now c.loop-span.span-index record { from = 0; to = 0 } c.loop-span-test.true)

pub loop-span-preserved : goal.loop-span-preserved
loop-span-preserved c = let i = c.loop-span.invariant in let e = c.saturating_sub.ensures in omega (arith, cells_longer c.args.spans.now c.loop-span.span-index record { from = 0; to = 0 } c.loop-span-test.true)

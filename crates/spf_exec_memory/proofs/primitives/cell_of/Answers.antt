use Rattle.std.proofs.Common.{arith}
use Rattle.spf_exec_memory.proofs.primitives.cell_of.Goals as goal

pub overflow_add-result : goal.overflow_add-result
overflow_add-result c = let r = rw (← c.extent-base.ensures) at c.requires in omega (arith, r, c.if-i-size.true)

pub returns-then-i-size-clause-within : goal.returns-then-i-size-clause-within
returns-then-i-size-clause-within c = rw (← c.extent-base.ensures) (omega (arith, c.if-i-size.true))

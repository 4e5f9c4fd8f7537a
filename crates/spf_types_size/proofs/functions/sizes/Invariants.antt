use Rattle.spf_types_size.proofs.Tables.{AreCounted}
use Rattle.spf_types_size.proofs.functions.sizes.Given as goal

abbrev pub invariant-loop-function : goal.invariant-loop-function
invariant-loop-function l = AreCounted l.functions l.sizes.items l.function-index

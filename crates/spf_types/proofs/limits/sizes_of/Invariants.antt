use Rattle.spf_types.proofs.Kept.{AreMeasured}
use Rattle.spf_types.proofs.limits.sizes_of.Given as goal

abbrev pub invariant-loop-index : goal.invariant-loop-index
invariant-loop-index l = AreMeasured l.functions l.sizes.items l.index

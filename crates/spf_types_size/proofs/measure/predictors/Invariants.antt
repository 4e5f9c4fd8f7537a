use Rattle.spf_types_size.specs.Sizes.{Counts, IsTable}
use Rattle.spf_types_size.proofs.Measures.{SizeBehind, predictors_from}
use Rattle.spf_types_size.proofs.measure.predictors.Given as goal

abbrev pub invariant-loop-part : goal.invariant-loop-part
invariant-loop-part l =
    (counts : Counts) → IsTable counts l.sizes → SizeBehind counts (predictors_from l.predict 0) (predictors_from l.predict l.part-index) l.size

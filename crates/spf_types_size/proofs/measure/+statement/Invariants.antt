use Rattle.spf_types_size.specs.Sizes.{Counts, IsTable}
use Rattle.spf_types_size.proofs.Measures.{SizeBehind, block_from}
use Rattle.spf_types_size.proofs.measure.+statement.Given as goal

abbrev pub invariant-block-loop-stmt : goal.invariant-block-loop-stmt
invariant-block-loop-stmt l =
    (counts : Counts) → IsTable counts l.sizes → SizeBehind counts (block_from l.statements 0) (block_from l.statements l.stmt-index) l.size

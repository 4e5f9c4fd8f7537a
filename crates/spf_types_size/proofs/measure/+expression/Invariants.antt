use Rattle.spf_types_size.specs.Sizes.{Counts, IsTable}
use Rattle.spf_types_size.proofs.Measures.{SizeBehind, arguments_from}
use Rattle.spf_types_size.proofs.measure.+expression.Given as goal

abbrev pub invariant-arguments-loop-expr : goal.invariant-arguments-loop-expr
invariant-arguments-loop-expr l =
    (counts : Counts) → IsTable counts l.sizes → SizeBehind counts (arguments_from l.given 0) (arguments_from l.given l.expr-index) l.size

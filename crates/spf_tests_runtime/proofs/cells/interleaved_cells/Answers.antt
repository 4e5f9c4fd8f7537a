use Rattle.std.proofs.Common.{List, sym, subst}
use Rattle.spf_region.specs.declared.span.Span.{Span}
use Rattle.spf_cells.specs.Spans.{IsDisjointWithin}
use Rattle.spf_tests_runtime.proofs.Examples.{four_blocks_disjoint}
use Rattle.spf_tests_runtime.proofs.cells.interleaved_cells.Goals as goal

pub make-requires : goal.make-requires
make-requires c = subst (λ (l : List (List Span)). IsDisjointWithin l 8) (sym c.in_ok-plan.ensures) four_blocks_disjoint

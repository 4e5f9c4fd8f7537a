use Rattle.std.proofs.Common.{List, sym, subst}
use Rattle.spf_region.specs.declared.span.Span.{Span}
use Rattle.spf_cells.specs.Spans.{IsDisjointWithin}
use Rattle.spf_tests_runtime.specs.Examples.{two_blocks_spans}
use Rattle.spf_tests_runtime.proofs.Examples.{two_blocks_ascending}
use Rattle.spf_tests_runtime.proofs.cells.two_lanes.Goals as goal

pub make-requires : goal.make-requires
make-requires c = subst (λ (l : List (List Span)). IsDisjointWithin l 4) (sym c.in_ok-plan.ensures) (c.ascending_plans_are_disjoint.ensures.disjoint two_blocks_spans 4 two_blocks_ascending)

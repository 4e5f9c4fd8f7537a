use Rattle.std.proofs.Common.{◌≡◌, ℕ, false, take}
use Rattle.std.specs.Prelude.{not, nat_lt}
use Rattle.std.specs.List.{list_any}
use Rattle.spf_region.specs.Cells.{in_spans, cells_at}
use Rattle.spf_region.proofs.cells.spans_of.Given as goal

-- the spans so far have the cells of the ranges so far, and none is empty
abbrev pub invariant-loop-range : goal.invariant-loop-range
invariant-loop-range l = record {
  cells : (cell : ℕ) → in_spans l.spans.items cell ≡ cells_at l.extents l.k (take l.range-index l.ranges) cell;
  filled : list_any (λ s. not (nat_lt s.from s.to)) l.spans.items ≡ false;
}

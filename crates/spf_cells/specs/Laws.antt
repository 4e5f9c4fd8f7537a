-- Plans that cells can be made of, and the cells of their lanes.
use Rattle.std.specs.Prelude.{◌≡◌, ◌≢◌, ◌↔◌, ℕ, ◌<◌, true, List, Some, slice_get}
use Rattle.spf_region.specs.declared.span.Span.{Span}
use Rattle.spf_region.specs.Cells.{in_spans, AreAscending}
use Rattle.spf_cells.specs.Spans.{Covers, IsDisjointWithin}

-- the spans of each block ascend, no cell is in those of two blocks, and each is below the size of the memory
pub record IsAscendingPlan (plan : List (List Span)) (size : ℕ) : Type 0 where
  pub ascending : (block : ℕ) (spans : List Span) → slice_get plan block ≡ Some spans → AreAscending spans
  pub disjoint : (block other : ℕ) (one two : List Span) (cell : ℕ) → block ≢ other → slice_get plan block ≡ Some one → slice_get plan other ≡ Some two
      → in_spans one cell ≡ true → in_spans two cell ≡ true → ⊥
  pub within : (block : ℕ) (spans : List Span) (cell : ℕ) → slice_get plan block ≡ Some spans → in_spans spans cell ≡ true → cell < size

-- such a plan is one that cells can be made of
abbrev pub AscendingPlansAreDisjoint : Type 0
AscendingPlansAreDisjoint = (plan : List (List Span)) (size : ℕ) → IsAscendingPlan plan size → IsDisjointWithin plan size

-- spans cover the cells that are in them, and no others
abbrev pub SpansCoverTheirCells : Type 0
SpansCoverTheirCells = (spans : List Span) (cell : ℕ) → Covers spans cell ↔ (in_spans spans cell ≡ true)

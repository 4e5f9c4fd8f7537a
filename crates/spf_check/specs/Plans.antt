-- Which cells the blocks of a construct write.
use Rattle.std.specs.Prelude.{◌≡◌, ◌≢◌, ℕ, ◌<◌, ◌≤◌, true, List, length, Some, ℤ, pos, ◌+ℤ◌, slice_get}
use Rattle.spf_ast.specs.Syntax.{Program}
use Rattle.spf_ast.specs.Construct.{Construct, fold, pair, part_of}
use Rattle.spf_region.specs.declared.span.Span.{Span}
use Rattle.spf_region.specs.Cells.{Extent, cells_at, in_spans, AreAscending}
use Rattle.spf_check_rules.specs.Rules.{may_write}

-- a fold has any number of blocks; a pair's are its producer and its consumer
abbrev pub AreBlocksOf : Construct → ℕ → Type 0
AreBlocksOf (fold line head body) blocks = Unit {0}
AreBlocksOf (pair line head producer consumer) blocks = blocks ≤ 2

-- the spans of a block: ascending, and exactly the cells that its part may write at its number
pub record AreSpansOf (p : Program) (construct : Construct) (extents : List Extent) (low : ℤ) (block : ℕ) (spans : List Span) : Type 0 where
  pub ascending : AreAscending spans
  pub cells : (cell : ℕ) → in_spans spans cell ≡ cells_at extents (low +ℤ pos block) (may_write p construct (part_of construct block)) cell

-- a plan has the spans of each of the first `blocks` blocks; no cell is in those of two, and each is a cell of the run
pub record IsPlanOf (p : Program) (construct : Construct) (extents : List Extent) (cells : ℕ) (low : ℤ) (blocks : ℕ) (plan : List (List Span)) : Type 0 where
  pub count : length plan ≡ blocks
  pub spans : (block : ℕ) (list : List Span) → slice_get plan block ≡ Some list → AreSpansOf p construct extents low block list
  pub disjoint : (block other : ℕ) (one two : List Span) (cell : ℕ) → block ≢ other → slice_get plan block ≡ Some one
      → slice_get plan other ≡ Some two → in_spans one cell ≡ true → in_spans two cell ≡ true → ⊥
  pub within : (block : ℕ) (list : List Span) (cell : ℕ) → slice_get plan block ≡ Some list → in_spans list cell ≡ true → cell < cells

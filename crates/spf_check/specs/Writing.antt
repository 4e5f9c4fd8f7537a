-- What single blocks may write, by the lists of a construct.
use Rattle.std.specs.Prelude.{◌≡◌, ℕ, ◌==◌, if◌then◌else◌, List, length, Option, Some, None, slice_get, ℤ, pos, ◌+ℤ◌}
use Rattle.spf_region.specs.declared.span.Span.{Span}
use Rattle.spf_region.specs.Cells.{Extent, AreAscending, in_spans, cells_at}
use Rattle.spf_region.specs.declared.range.Range.{Range}
use Rattle.spf_check.specs.declared.checked.Writes.{Writes}

-- of a pair, block 0 is the producer's
abbrev pub list_with : List Range → Option (List Range) → ℕ → List Range
list_with guessed None block = guessed
list_with guessed (Some producer) block = if block == 0 then producer else guessed

abbrev pub list_of : Writes → ℕ → List Range
list_of w block = list_with w.guessed w.producer block

-- each of the first `blocks` blocks has ascending spans, whose cells are those of its list
pub record AreListed (w : Writes) (extents : List Extent) (low : ℤ) (blocks : ℕ) (plan : List (List Span)) : Type 0 where
  pub count : length plan ≡ blocks
  pub spans : (block : ℕ) (list : List Span) → slice_get plan block ≡ Some list
      → AreAscending list × ((cell : ℕ) → in_spans list cell ≡ cells_at extents (low +ℤ pos block) (list_of w block) cell)

-- The cells of ranges at a block, and of spans.
use Rattle.std.specs.Prelude.{ℕ, ◌+◌, ◌<◌, Bool, ◌&&◌, nat_le, nat_lt, List, [], ◌∷◌, slice_index_or, ℤ, pos, ◌+ℤ◌, ◌-ℤ◌, ◌*ℤ◌}
use Rattle.std.specs.List.{list_any}
use Rattle.spf_region.specs.declared.range.Range.{Range}
use Rattle.spf_region.specs.declared.range.Range.TheVariants.{Whole, Affine}
use Rattle.spf_region.specs.declared.span.Span.{Span}
use Rattle.spf_region.specs.Ranges.{array_of, is_between}

-- where an array begins, and how many cells it has
abbrev pub Extent : Type 0
Extent = ℕ × ℕ

-- the value of a factor and an offset at block k
abbrev pub at_block : ℤ → ℤ → ℤ → ℤ
at_block k factor offset = (factor *ℤ k) +ℤ offset

-- a cell of an array
abbrev pub in_extent : Extent → ℕ → Bool
in_extent e cell = nat_le e.0 cell && nat_lt cell (e.0 + e.1)

-- a cell of a range at block k, inside the extent of its array
abbrev pub is_cell : Extent → ℤ → Range → ℕ → Bool
is_cell e k (Whole a) cell = in_extent e cell
is_cell e k (Affine a f from to) cell = in_extent e cell && is_between (at_block k f from) (at_block k f to) (pos cell -ℤ pos e.0)

-- a cell of one of the ranges at block k, inside the extent of its array
abbrev pub cells_at : List Extent → ℤ → List Range → ℕ → Bool
cells_at extents k list cell = list_any (λ r. is_cell (slice_index_or extents (array_of r) (0, 0)) k r cell) list

-- a cell of a span
abbrev pub in_span : Span → ℕ → Bool
in_span s cell = nat_le s.from cell && nat_lt cell s.to

-- a cell of one of the spans
abbrev pub in_spans : List Span → ℕ → Bool
in_spans spans cell = list_any (λ s. in_span s cell) spans

abbrev pub EndsBeforeEach : Span → List Span → Type 0
EndsBeforeEach s [] = Unit {0}
EndsBeforeEach s (t ∷ rest) = (s.to < t.from) × EndsBeforeEach s rest

-- no span is empty, and they ascend, with a gap between each and the next
abbrev pub AreAscending : List Span → Type 0
AreAscending [] = Unit {0}
AreAscending (s ∷ rest) = (s.from < s.to) × EndsBeforeEach s rest × AreAscending rest

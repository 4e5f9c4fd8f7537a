-- The plans of the tests, and lanes before and after steps.
use Rattle.std.specs.Prelude.{◌≡◌, ℕ, ◌+◌, ◌<◌, length, slice_index_or, List, [], ◌∷◌}
use Rattle.spf_region.specs.declared.span.Span.{Span}
use Rattle.spf_cells.specs.Values.{LaneValue, IsSameLane}

-- the span of one cell
abbrev cell : ℕ → Span
cell c = record { from = c; to = c + 1 }

-- block 0 with the cells 0 and 1, and block 1 with the cell 3
abbrev pub two_blocks_spans : List (List Span)
two_blocks_spans = (record { from = 0; to = 2 } ∷ []) ∷ (record { from = 3; to = 4 } ∷ []) ∷ []

-- four blocks, of which the block n has the cells n and n + 4
abbrev pub four_blocks_spans : List (List Span)
four_blocks_spans = (cell 0 ∷ cell 4 ∷ []) ∷ (cell 1 ∷ cell 5 ∷ []) ∷ (cell 2 ∷ cell 6 ∷ []) ∷ (cell 3 ∷ cell 7 ∷ []) ∷ []

-- the span from a cell up to but excluding another
abbrev span : ℕ → ℕ → Span
span from to = record { from = from; to = to }

-- two blocks of spans out of order: block 0 with the cells 6, 7, 0, 1 and 3, and block 1 with the cells 4, 5 and 2
abbrev pub mixed_spans : List (List Span)
mixed_spans = (span 6 8 ∷ span 0 2 ∷ span 3 4 ∷ []) ∷ (span 4 6 ∷ span 2 3 ∷ []) ∷ []

-- at each index the lanes are the same one
abbrev pub AreSameLanes : List LaneValue → List LaneValue → Type 0
AreSameLanes old new = (length new ≡ length old) × ((i : ℕ) (d : LaneValue) → i < length old → IsSameLane (slice_index_or old i d) (slice_index_or new i d))

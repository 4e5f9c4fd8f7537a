-- The cells of spans and of plans.
use Rattle.std.specs.Prelude.{◌≡◌, ℕ, zero, suc, ◌-◌, ◌<◌, List, [], ◌∷◌, ◌++◌, map, slice_index_or, ℤ, pos}
use Rattle.std.specs.Int.{cast_unsigned}
use mir.Syntax.{w64}
use mathlib.Core.Option.{some}
use lib.ListN.{get_elem?}
use Rattle.spf_region.specs.declared.span.Span.{Span}

-- consecutive numbers from this one on
abbrev pub consecutive : ℕ → ℕ → List ℕ
consecutive from zero = []
consecutive from (suc n) = from ∷ consecutive (suc from) n

-- the cells of spans, span by span
abbrev pub cells_of : List Span → List ℕ
cells_of [] = []
cells_of (s ∷ ss) = consecutive s.from (s.to - s.from) ++ cells_of ss

-- the cell is in the spans
abbrev pub Covers : List Span → ℕ → Type 0
Covers spans cell = (i : ℕ) × (get_elem? (cells_of spans) i ≡ some cell)

-- the cells of a plan, block by block
abbrev pub cells_of_plan : List (List Span) → List ℕ
cells_of_plan [] = []
cells_of_plan (spans ∷ rest) = cells_of spans ++ cells_of_plan rest

-- the cells of the blocks from b on, each beside its block
abbrev pub cells_with_blocks_from : ℕ → List (List Span) → List (ℕ × ℕ)
cells_with_blocks_from b [] = []
cells_with_blocks_from b (spans ∷ rest) = map (λ c. (b, c)) (cells_of spans) ++ cells_with_blocks_from (suc b) rest

-- the cells of a plan, block by block, each beside its block
unfoldable pub cells_with_blocks : List (List Span) → List (ℕ × ℕ)
cells_with_blocks plan = cells_with_blocks_from 0 plan

-- the spans of a plan are disjoint and inside a memory of this size: no cell is there twice, and each is below the size
pub record IsDisjointWithin (plan : List (List Span)) (size : ℕ) : Type 0 where
  pub once : (i j c : ℕ) → get_elem? (cells_of_plan plan) i ≡ some c → get_elem? (cells_of_plan plan) j ≡ some c → i ≡ j
  pub inside : (i c : ℕ) → get_elem? (cells_of_plan plan) i ≡ some c → c < size

-- the 64 bits of a cell's word in this memory
abbrev pub entry_word : List ℤ → ℕ → ℕ
entry_word entry cell = cast_unsigned w64 (slice_index_or entry cell (pos 0))

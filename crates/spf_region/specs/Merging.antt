-- How two lists in normal form are merged, and how their common part is found, in one pass from the left.
use Rattle.std.specs.Prelude.{ℕ, Bool, Option, Some, None, if◌then◌else◌, ◌==◌, ◌&&◌, ◌||◌, nat_le, nat_lt, List, [], ◌∷◌, ℤ, pos, ◌+ℤ◌, int_le, int_lt}
use Rattle.std.specs.Ordering.{int_eq}
use Rattle.std.specs.Int.{int_min, int_max}
use Rattle.spf_region.specs.declared.range.Range.{Range}
use Rattle.spf_region.specs.declared.range.Range.TheVariants.{Whole, Affine}
use Rattle.spf_region.specs.Ranges.{array_of}

-- offset o of array a and factor f doesn't come after offset p of array b and factor g
abbrev pub in_order : (a : ℕ) (f o : ℤ) (b : ℕ) (g p : ℤ) → Bool
in_order a f o b g p = nat_lt a b || ((a == b) && (int_lt f g || (int_eq f g && int_le o p)))

-- the first range doesn't begin after the second
abbrev pub starts_by : Range → Range → Bool
starts_by (Whole a) s = nat_le a (array_of s)
starts_by (Affine a f l h) (Whole b) = nat_lt a b
starts_by (Affine a f l h) (Affine b g m i) = in_order a f l b g m

-- the first range doesn't end after the second
abbrev pub ends_by : Range → Range → Bool
ends_by (Whole a) s = nat_le a (array_of s)
ends_by (Affine a f l h) (Whole b) = nat_lt a b
ends_by (Affine a f l h) (Affine b g m i) = in_order a f h b g i

-- the range that covers both, where they meet or touch and the second doesn't begin before the first
abbrev pub hull : Range → Range → Option Range
hull (Whole a) (Whole b) = if a == b then Some (Whole a) else None
hull (Whole a) (Affine b g m i) = None
hull (Affine a f l h) (Whole b) = None
hull (Affine a f l h) (Affine b g m i) =
    if (a == b) && (int_eq f g && int_le m (h +ℤ pos 1)) then Some (Affine a f l (int_max h i)) else None

-- the range of these offsets, if there are any
abbrev pub filled : ℕ → ℤ → ℤ → ℤ → Option Range
filled array factor from to = if int_le from to then Some (Affine array factor from to) else None

-- the range of what both have
abbrev pub overlap : Range → Range → Option Range
overlap (Whole a) (Whole b) = if a == b then Some (Whole a) else None
overlap (Whole a) (Affine b g m i) = None
overlap (Affine a f l h) (Whole b) = None
overlap (Affine a f l h) (Affine b g m i) =
    if (a == b) && int_eq f g then filled a f (int_max l m) (int_min h i) else None

-- the ranges of both lists by where they begin
abbrev pub interleaved : List Range → List Range → List Range
interleaved [] ys = ys
interleaved (x ∷ xs) [] = x ∷ xs
interleaved (x ∷ xs) (y ∷ ys) = if starts_by x y then x ∷ interleaved xs (y ∷ ys) else y ∷ interleaved (x ∷ xs) ys

-- what follows a range that is joined to the next, or isn't
abbrev pub joined_or : Option Range → (Range → List Range) → List Range → List Range
joined_or (Some wider) further apart = further wider
joined_or None further apart = apart

-- the ranges after the pending one, each joined to the one before it where they touch
abbrev pub coalesced_after : Range → List Range → List Range
coalesced_after pending [] = pending ∷ []
coalesced_after pending (r ∷ rest) = joined_or (hull pending r) (λ wider. coalesced_after wider rest) (pending ∷ coalesced_after r rest)

abbrev pub coalesced : List Range → List Range
coalesced [] = []
coalesced (r ∷ rest) = coalesced_after r rest

-- with a range before them, where there is one
abbrev pub preceded : Option Range → List Range → List Range
preceded (Some r) rest = r ∷ rest
preceded None rest = rest

-- the common ranges of two lists, from the left
abbrev pub met : List Range → List Range → List Range
met [] ys = []
met (x ∷ xs) [] = []
met (x ∷ xs) (y ∷ ys) = preceded (overlap x y) (if ends_by x y then met xs (y ∷ ys) else met (x ∷ xs) ys)

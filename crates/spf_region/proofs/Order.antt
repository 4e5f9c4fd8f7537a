-- How ranges follow each other, and what is joined and common of two.
use Rattle.std.proofs.Common.{◌≡◌, ◌⊎◌, inl, inr, ℕ, ◌<◌, ◌≤◌, Bool, true, false, ℤ, refl, sym, arith}
use Rattle.std.specs.Prelude.{◌≤ℤ◌, ◌<ℤ◌, ◌==◌, ◌&&◌, ◌||◌, nat_lt, int_le, int_lt}
use Rattle.std.specs.Ordering.{int_eq}
use Rattle.std.proofs.lemmas.Int.{ints}
use Rattle.spf_region.specs.declared.range.Range.{Range}
use Rattle.spf_region.specs.declared.range.Range.TheVariants.{Whole, Affine}
use Rattle.spf_region.specs.Ranges.{array_of, IsBefore, IsFilled, has_offset, is_whole}
use Rattle.spf_region.specs.Merging.{in_order, starts_by, ends_by}

-- offset o of array a and factor f doesn't come after offset p of array b and factor g
abbrev pub InOrder : (a : ℕ) (f o : ℤ) (b : ℕ) (g p : ℤ) → Type 0
InOrder a f o b g p = (a < b) ⊎ ((a ≡ b) × ((f <ℤ g) ⊎ ((f ≡ g) × (o ≤ℤ p))))

abbrev pub StartsBy : Range → Range → Type 0
StartsBy (Whole a) (Whole b) = a ≤ b
StartsBy (Whole a) (Affine b g m i) = a ≤ b
StartsBy (Affine a f l h) (Whole b) = a < b
StartsBy (Affine a f l h) (Affine b g m i) = InOrder a f l b g m

abbrev pub EndsBy : Range → Range → Type 0
EndsBy (Whole a) (Whole b) = a ≤ b
EndsBy (Whole a) (Affine b g m i) = a ≤ b
EndsBy (Affine a f l h) (Whole b) = a < b
EndsBy (Affine a f l h) (Affine b g m i) = InOrder a f h b g i

order-true : (a : ℕ) (f o : ℤ) (b : ℕ) (g p : ℤ) → in_order a f o b g p ≡ true → InOrder a f o b g p
order-true a f o b g p e = go (nat_lt a b) (a == b) (int_lt f g) (int_eq f g) (int_le o p) refl refl refl refl refl e
  where
    go : (u v w x y : Bool) → nat_lt a b ≡ u → (a == b) ≡ v → int_lt f g ≡ w → int_eq f g ≡ x → int_le o p ≡ y → (u || (v && (w || (x && y)))) ≡ true → InOrder a f o b g p
    go true v w x y eu ev ew ex ey t = inl (grind (arith, eu))
    go false true true x y eu ev ew ex ey t = inr (grind (arith, ev), inl (grind (arith, ints, ew)))
    go false true false true true eu ev ew ex ey t = inr (grind (arith, ev), inr (grind (arith, ints, ex), grind (arith, ints, ey)))
    go false true false true false eu ev ew ex ey t = cc
    go false true false false y eu ev ew ex ey t = cc
    go false false w x y eu ev ew ex ey t = cc

order-false : (a : ℕ) (f o : ℤ) (b : ℕ) (g p : ℤ) → in_order a f o b g p ≡ false → InOrder b g p a f o
order-false a f o b g p e = go (nat_lt a b) (a == b) (int_lt f g) (int_eq f g) (int_le o p) refl refl refl refl refl e
  where
    go : (u v w x y : Bool) → nat_lt a b ≡ u → (a == b) ≡ v → int_lt f g ≡ w → int_eq f g ≡ x → int_le o p ≡ y → (u || (v && (w || (x && y)))) ≡ false → InOrder b g p a f o
    go true v w x y eu ev ew ex ey t = cc
    go false true true x y eu ev ew ex ey t = cc
    go false true false true true eu ev ew ex ey t = cc
    go false true false true false eu ev ew ex ey t = inr (sym (grind (arith, ev)), inr (sym (grind (arith, ints, ex)), grind (arith, ints, ey)))
    go false true false false y eu ev ew ex ey t = inr (sym (grind (arith, ev)), inl (grind (arith, ints, ew, ex)))
    go false false w x y eu ev ew ex ey t = inl (grind (arith, eu, ev))

pub starts-true : (r s : Range) → starts_by r s ≡ true → StartsBy r s
starts-true (Whole a) (Whole b) e = grind (arith, e)
starts-true (Whole a) (Affine b g m i) e = grind (arith, e)
starts-true (Affine a f l h) (Whole b) e = grind (arith, e)
starts-true (Affine a f l h) (Affine b g m i) e = order-true a f l b g m e

pub starts-false : (r s : Range) → starts_by r s ≡ false → StartsBy s r
starts-false (Whole a) (Whole b) e = grind (arith, e)
starts-false (Whole a) (Affine b g m i) e = grind (arith, e)
starts-false (Affine a f l h) (Whole b) e = grind (arith, e)
starts-false (Affine a f l h) (Affine b g m i) e = order-false a f l b g m e

pub ends-true : (r s : Range) → ends_by r s ≡ true → EndsBy r s
ends-true (Whole a) (Whole b) e = grind (arith, e)
ends-true (Whole a) (Affine b g m i) e = grind (arith, e)
ends-true (Affine a f l h) (Whole b) e = grind (arith, e)
ends-true (Affine a f l h) (Affine b g m i) e = order-true a f h b g i e

pub ends-false : (r s : Range) → ends_by r s ≡ false → EndsBy s r
ends-false (Whole a) (Whole b) e = grind (arith, e)
ends-false (Whole a) (Affine b g m i) e = grind (arith, e)
ends-false (Affine a f l h) (Whole b) e = grind (arith, e)
ends-false (Affine a f l h) (Affine b g m i) e = order-false a f h b g i e

pub starts-trans : (q r s : Range) → StartsBy q r → StartsBy r s → StartsBy q s
starts-trans (Whole a) (Whole b) (Whole c) x y = omega arith
starts-trans (Whole a) (Whole b) (Affine c h n j) x y = omega arith
starts-trans (Whole a) (Affine b g m i) (Whole c) x y = omega arith
starts-trans (Whole a) (Affine b g m i) (Affine c h n j) x y = grind (arith, ints)
starts-trans (Affine a f l k) (Whole b) (Whole c) x y = omega arith
starts-trans (Affine a f l k) (Whole b) (Affine c h n j) x y = grind (arith, ints)
starts-trans (Affine a f l k) (Affine b g m i) (Whole c) x y = grind (arith, ints)
starts-trans (Affine a f l k) (Affine b g m i) (Affine c h n j) x y = grind (arith, ints)

-- what stands before a range begins before it
pub before-starts : (r s : Range) → IsFilled r → IsBefore r s → StartsBy r s
before-starts (Whole a) (Whole b) f x = omega arith
before-starts (Whole a) (Affine b g m i) f x = x
before-starts (Affine a f l h) (Whole b) u x = x
before-starts (Affine a f l h) (Affine b g m i) u x = grind (arith, ints)

-- what stands before a range stands before all that doesn't begin before it
pub before-then : (q r s : Range) → IsBefore q r → StartsBy r s → IsBefore q s
before-then (Whole a) (Whole b) (Whole c) x y = omega arith
before-then (Whole a) (Whole b) (Affine c h n j) x y = omega arith
before-then (Whole a) (Affine b g m i) (Whole c) x y = omega arith
before-then (Whole a) (Affine b g m i) (Affine c h n j) x y = grind (arith, ints)
before-then (Affine a f l k) (Whole b) (Whole c) x y = omega arith
before-then (Affine a f l k) (Whole b) (Affine c h n j) x y = grind (arith, ints)
before-then (Affine a f l k) (Affine b g m i) (Whole c) x y = grind (arith, ints)
before-then (Affine a f l k) (Affine b g m i) (Affine c h n j) x y = grind (arith, ints)

-- what ends by a range stands before all that the range stands before
pub ends-before : (q r s : Range) → EndsBy q r → IsBefore r s → IsBefore q s
ends-before (Whole a) (Whole b) (Whole c) x y = omega arith
ends-before (Whole a) (Whole b) (Affine c h n j) x y = omega arith
ends-before (Whole a) (Affine b g m i) (Whole c) x y = omega arith
ends-before (Whole a) (Affine b g m i) (Affine c h n j) x y = grind (arith, ints)
ends-before (Affine a f l k) (Whole b) (Whole c) x y = omega arith
ends-before (Affine a f l k) (Whole b) (Affine c h n j) x y = grind (arith, ints)
ends-before (Affine a f l k) (Affine b g m i) (Whole c) x y = grind (arith, ints)
ends-before (Affine a f l k) (Affine b g m i) (Affine c h n j) x y = grind (arith, ints)

-- ---- what is joined

-- a range in which each of two is, where they touch
pub record Joins (r s q : Range) : Type 0 where
  pub filled : IsFilled q
  pub starts : (x : Range) → StartsBy r x → StartsBy q x
  pub follows : (x : Range) → IsBefore x r → IsBefore x q
  pub offsets : (a : ℕ) (f o : ℤ) → has_offset q a f o ≡ (has_offset r a f o || has_offset s a f o)
  pub wholes : (a : ℕ) → is_whole q a ≡ (is_whole r a || is_whole s a)
  pub arrays : (a : ℕ) → (array_of q == a) ≡ ((array_of r == a) || (array_of s == a))

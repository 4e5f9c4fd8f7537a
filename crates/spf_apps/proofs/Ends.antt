-- Bounds of the ends of blocks, and of the indices in them.
use Rattle.std.proofs.Common.{◌≡◌, ℕ, ◌+◌, ◌-◌, ◌*◌, ◌≤◌, ◌^◌, Bool, true, false, [], ◌∷◌, ◌++◌, Some, None, ℤ, pos, refl, sym, ap, ◌∙◌, subst, arith}
use Rattle.std.specs.Prelude.{if◌then◌else◌, ◌&&◌, ◌||◌, nat_le, ◌+ℤ◌, ◌-ℤ◌, ◌*ℤ◌, ◌≤ℤ◌, ◌<ℤ◌, int_lt}
use Rattle.std.specs.Ordering.{int_eq}
use Rattle.std.specs.Int.{int_min, int_max}
use Rattle.std.proofs.lemmas.Int.{ints}
use Rattle.std.proofs.lemmas.Cmp.{int_eq_equiv}
use Rattle.std.proofs.lemmas.Bool.Decides.{nat_tests}
use Rattle.spf_region.specs.declared.bound.Bound.{Bound}
use Rattle.spf_region.specs.declared.bound.Bound.TheVariants.{Known, Unknown}
use Rattle.spf_region.specs.Bounds.{small, known, kept, number, plus, times, constant, times_constants}
use Rattle.spf_region.specs.declared.range.Range.TheVariants.{Affine}
use Rattle.spf_region.specs.Ranges.{Offsets, array_of, joined, has_offset}
use Rattle.spf_region.proofs.Covers.{has-of}
use Rattle.std.specs.List.{AllByRecursion}
use Rattle.spf_effects_findings.specs.Found.{turn_bound, writes_range, may_write_whole, may_write_between, surely_writes_between, ◌then◌, Found}
use Rattle.spf_apps.proofs.Tame.{IsTame, more_kept}
use Rattle.spf_apps.proofs.Rules.{IsInside}

same_int : (z : ℤ) → int_eq z z ≡ true
same_int z = int_eq_equiv.refl z

-- numbers that are small enough to be kept
small-pos : (n : ℕ) → n ≤ 2 ^ 40 → small (pos n) ≡ Some (pos n)
small-pos n h = ap (λ b. if b then Some (pos n) else None) (let t : nat_le n (2 ^ 40) ≡ true = grind (arith, nat_tests, h) in t)

kept-pos : (a b c : ℕ) → a ≤ 2 ^ 40 → b ≤ 2 ^ 40 → c ≤ 2 ^ 40 → kept (pos a) (pos b) (pos c) ≡ Known (pos a) (pos b) (pos c)
kept-pos a b c h k l = λ i. known (small-pos a h i) (small-pos b k i) (small-pos c l i)

pub number-is : (n : ℕ) → n ≤ 2 ^ 40 → number (pos n) ≡ Known (pos 0) (pos n) (pos n)
number-is n h = kept-pos 0 n n (omega arith) h h

constant-is : (n : ℕ) → constant (Known (pos 0) (pos n) (pos n)) ≡ Some (pos n)
constant-is n = ap (λ b. if b then Some (pos n) else None) (same_int (pos n))

-- n * k
pub begin-is : (n : ℕ) → n ≤ 2 ^ 40 → times (number (pos n)) (Known (pos 1) (pos 0) (pos 0)) ≡ Known (pos n) (pos 0) (pos 0)
begin-is n h =
    ap (λ b. times b (Known (pos 1) (pos 0) (pos 0))) (number-is n h)
    ∙ ap (λ c. times_constants (Known (pos 0) (pos n) (pos n)) c (Known (pos 1) (pos 0) (pos 0)) None) (constant-is n)
    ∙ (λ i. kept (one i) (zero_min i) (zero_max i))
    ∙ kept-pos n 0 0 h (omega arith) (omega arith)
  where
    one : pos 1 *ℤ pos n ≡ pos n
    one = omega (arith, ints)

    zero_min : int_min (pos 0 *ℤ pos n) (pos 0 *ℤ pos n) ≡ pos 0
    zero_min = grind (arith, ints)

    zero_max : int_max (pos 0 *ℤ pos n) (pos 0 *ℤ pos n) ≡ pos 0
    zero_max = grind (arith, ints)

-- n * k + n
pub end-is : (n : ℕ) → n ≤ 2 ^ 40 → plus (times (number (pos n)) (Known (pos 1) (pos 0) (pos 0))) (number (pos n)) ≡ Known (pos n) (pos n) (pos n)
end-is n h =
    (λ i. plus (begin-is n h i) (number-is n h i))
    ∙ (λ i. kept (right i) (left i) (left i))
    ∙ kept-pos n n n h h h
  where
    right : pos n +ℤ pos 0 ≡ pos n
    right = omega (arith, ints)

    left : pos 0 +ℤ pos n ≡ pos n
    left = omega (arith, ints)

less_one : (n : ℕ) → 1 ≤ n → pos n -ℤ pos 1 ≡ pos (n - 1)
less_one n h = omega (arith, ints)

chosen : (b : Bool) (x y : Bound) → b ≡ true → (if b then x else y) ≡ x
chosen true x y e = refl
chosen false x y e = cc

-- from n * k up to n * k + n
pub turn-is : (n : ℕ) → 1 ≤ n → n ≤ 2 ^ 40 → turn_bound (Known (pos n) (pos 0) (pos 0)) (Known (pos n) (pos n) (pos n)) ≡ Known (pos n) (pos 0) (pos (n - 1))
turn-is n some h =
    chosen (int_eq (pos n) (pos n)) (kept (pos n) (pos 0) (pos n -ℤ pos 1)) Unknown (same_int (pos n))
    ∙ ap (λ z. kept (pos n) (pos 0) z) (less_one n some)
    ∙ kept-pos n 0 (n - 1) h (omega arith) (omega arith)

-- from 0 up to n
pub count-is : (n : ℕ) → 1 ≤ n → n ≤ 2 ^ 40 → turn_bound (number (pos 0)) (number (pos n)) ≡ Known (pos 0) (pos 0) (pos (n - 1))
count-is n some h =
    ap (λ b. turn_bound (number (pos 0)) b) (number-is n h)
    ∙ ap (λ z. kept (pos 0) (pos 0) z) (less_one n some)
    ∙ kept-pos 0 0 (n - 1) (omega arith) (omega arith) (omega arith)

-- 8 * i, where i is at most m
pub eight-is : (m : ℕ) → m ≤ 2 ^ 30 → times (number (pos 8)) (Known (pos 0) (pos 0) (pos m)) ≡ Known (pos 0) (pos 0) (pos (8 * m))
eight-is m h = by_test (int_eq (pos 0) (pos m)) refl
  where
    eight : Bound
    eight = Known (pos 0) (pos 8) (pos 8)

    low : int_min (pos 0 *ℤ pos 8) (pos m *ℤ pos 8) ≡ pos 0
    low = grind (arith, ints)

    high : int_max (pos 0 *ℤ pos 8) (pos m *ℤ pos 8) ≡ pos (8 * m)
    high = grind (arith, ints)

    by_test : (b : Bool) → int_eq (pos 0) (pos m) ≡ b → times_constants eight (Some (pos 8)) (Known (pos 0) (pos 0) (pos m)) (if b then Some (pos 0) else None) ≡ Known (pos 0) (pos 0) (pos (8 * m))
    by_test true e = let none : 0 ≡ m = grind (arith, ints, e) in ap (λ k. Known (pos 0) (pos 0) (pos (8 * k))) none
    by_test false e = (λ i. kept (pos 0) (low i) (high i)) ∙ kept-pos 0 0 (8 * m) (omega arith) (omega arith) (omega (arith, h))

-- 8n * k + 8 * i + j
pub bit-is : (n : ℕ) → 1 ≤ n → n ≤ 2 ^ 30 → plus (plus (times (number (pos (8 * n))) (Known (pos 1) (pos 0) (pos 0))) (times (number (pos 8)) (turn_bound (number (pos 0)) (number (pos n))))) (turn_bound (number (pos 0)) (number (pos 8))) ≡ Known (pos (8 * n)) (pos 0) (pos (8 * (n - 1) + 7))
bit-is n some h =
    (λ i. plus (plus (begin-is (8 * n) (omega (arith, h)) i) (times (number (pos 8)) (count-is n some (omega (arith, h)) i))) (turn_bound (number (pos 0)) (number (pos 8))))
    ∙ ap (λ b. plus (plus (Known (pos (8 * n)) (pos 0) (pos 0)) b) (turn_bound (number (pos 0)) (number (pos 8)))) (eight-is (n - 1) (omega (arith, h)))
    ∙ ap (λ b. plus b (Known (pos 0) (pos 0) (pos 7))) ((λ i. kept (right i) (pos 0) (left i)) ∙ kept-pos (8 * n) 0 (8 * (n - 1)) (omega (arith, h)) (omega arith) (omega (arith, h)))
    ∙ (λ i. kept (right i) (pos 0) (sum i))
    ∙ kept-pos (8 * n) 0 (8 * (n - 1) + 7) (omega (arith, h)) (omega arith) (omega (arith, h))
  where
    right : pos (8 * n) +ℤ pos 0 ≡ pos (8 * n)
    right = omega (arith, ints)

    left : pos 0 +ℤ pos (8 * (n - 1)) ≡ pos (8 * (n - 1))
    left = omega (arith, ints)

    sum : pos (8 * (n - 1)) +ℤ pos 7 ≡ pos (8 * (n - 1) + 7)
    sum = omega (arith, ints)

-- n * k to n * k + n is filled
range_found : (array n : ℕ) (w : Offsets) → 1 ≤ n → writes_range array (Known (pos n) (pos 0) (pos 0)) (Known (pos n) (pos n) (pos n)) w ≡ record { uncovered = []; may = Affine array (pos n) (pos 0) (pos (n - 1)) ∷ []; written = joined (Affine array (pos n) (pos 0) (pos (n - 1))) w }
range_found array n w some =
    ap (λ b. (if b then may_write_between array (pos n) (pos 0) (pos n) then surely_writes_between array (pos n) (pos 0) (pos 0) (pos n) (pos n) else may_write_whole array) w) (same_int (pos n))
    ∙ (λ i. record {
      uncovered = [];
      may = (if above i then Affine array (pos n) (pos 0) (less_one n some i) ∷ [] else []) ++ [];
      written = if same_int (pos n) i && above i then joined (Affine array (pos n) (pos 0) (less_one n some i)) w else w;
    })
  where
    above : int_lt (pos 0) (pos n) ≡ true
    above = grind (arith, ints)

-- the first n cells of each block are inside them
pub inside : (array n : ℕ) → 1 ≤ n → IsInside array (pos n) (Affine array (pos n) (pos 0) (pos (n - 1)))
inside array n some = (refl, refl, omega (arith, ints), omega (arith, ints))

pub range-tame : (array n : ℕ) → 1 ≤ n → (low high : Bound) → low ≡ Known (pos n) (pos 0) (pos 0) → high ≡ Known (pos n) (pos n) (pos n) → IsTame array (IsInside array (pos n)) (writes_range array low high)
range-tame array n some low high low_is high_is =
    subst (λ (x : Bound × Bound). IsTame array (IsInside array (pos n)) (writes_range array x.0 x.1)) (λ i. (sym low_is i, sym high_is i)) (record {
      bare = λ w. subst (λ (f : Found). AllByRecursion (λ r. array_of r ≡ array → ⊥) f.uncovered) (sym (range_found array n w some)) tt;
      may = λ w. subst (λ (f : Found). AllByRecursion (IsInside array (pos n)) f.may) (sym (range_found array n w some)) (inside array n some, tt);
      keeps = λ w a g o h. subst (λ (f : Found). f.written a g o ≡ true) (sym (range_found array n w some)) (more_kept true (Affine array (pos n) (pos 0) (pos (n - 1))) w a g o h);
    })

pub range-fills : (array n : ℕ) → 1 ≤ n → (low high : Bound) → low ≡ Known (pos n) (pos 0) (pos 0) → high ≡ Known (pos n) (pos n) (pos n) → (w : Offsets) (o : ℤ) → pos 0 ≤ℤ o → o <ℤ pos n → (writes_range array low high w).written array (pos n) o ≡ true
range-fills array n some low high low_is high_is w o from to =
    subst (λ (x : Bound × Bound). (writes_range array x.0 x.1 w).written array (pos n) o ≡ true) (λ i. (sym low_is i, sym high_is i))
    (subst (λ (f : Found). f.written array (pos n) o ≡ true) (sym (range_found array n w some)) (first_holds (has_offset (Affine array (pos n) (pos 0) (pos (n - 1))) array (pos n) o) (w array (pos n) o) (has-of array (pos n) (pos 0) (pos (n - 1)) o from (omega (arith, ints, to)))))
  where
    first_holds : (a b : Bool) → a ≡ true → (a || b) ≡ true
    first_holds true b e = refl
    first_holds false b e = cc

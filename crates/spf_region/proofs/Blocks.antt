-- Separate ranges share no cell at different blocks, and disjoint ones at none.
use Rattle.std.proofs.Common.{◌≡◌, ◌≢◌, ◌⊎◌, inl, inr, ℕ, zero, suc, Bool, true, false, not, List, ℤ, pos, negsuc, refl, arith}
use Rattle.std.specs.Prelude.{◌+ℤ◌, ◌-ℤ◌, ◌*ℤ◌, ◌≤ℤ◌, ◌<ℤ◌, ◌==◌, ◌||◌, int_le, int_lt, slice_index_or}
use Rattle.std.specs.Ordering.{int_eq}
use Rattle.std.specs.Int.{int_min, int_max}
use lib.IntN.{suc_ℤ-*ℤ, pred_ℤ-*ℤ, *ℤ_comm, zero-*ℤ}
use Rattle.std.proofs.lemmas.Int.{ints, clamps}
use Rattle.spf_region.specs.declared.range.Range.{Range}
use Rattle.spf_region.specs.declared.range.Range.TheVariants.{Whole, Affine}
use Rattle.spf_region.specs.Ranges.{array_of, separate, separate_offsets, disjoint, disjoint_offsets}
use Rattle.spf_region.specs.Cells.{Extent, at_block, in_extent, is_cell}
use Rattle.spf_region.specs.Laws.{LieApart, IsCellAt}
use Rattle.spf_region.proofs.Bools.{and-left, and-right, int-le-is, int-lt-is}

-- ---- products

left_distrib : (k a b : ℤ) → k *ℤ (a +ℤ b) ≡ (k *ℤ a) +ℤ (k *ℤ b)
left_distrib (pos zero) a b = omega (arith, ints, zero-*ℤ (a +ℤ b), zero-*ℤ a, zero-*ℤ b)
left_distrib (pos (suc n)) a b =
    omega (arith, ints, suc_ℤ-*ℤ (pos n) (a +ℤ b), suc_ℤ-*ℤ (pos n) a, suc_ℤ-*ℤ (pos n) b, left_distrib (pos n) a b)
left_distrib (negsuc zero) a b =
    omega (arith, ints, pred_ℤ-*ℤ (pos 0) (a +ℤ b), pred_ℤ-*ℤ (pos 0) a, pred_ℤ-*ℤ (pos 0) b, zero-*ℤ (a +ℤ b), zero-*ℤ a, zero-*ℤ b)
left_distrib (negsuc (suc n)) a b =
    omega (arith, ints, pred_ℤ-*ℤ (negsuc n) (a +ℤ b), pred_ℤ-*ℤ (negsuc n) a, pred_ℤ-*ℤ (negsuc n) b, left_distrib (negsuc n) a b)

-- an order times a factor
rises : (n : ℕ) (x y : ℤ) → x ≤ℤ y → (pos n *ℤ x) ≤ℤ (pos n *ℤ y)
rises zero x y h = omega (arith, ints, zero-*ℤ x, zero-*ℤ y)
rises (suc n) x y h = omega (arith, ints, rises n x y h, suc_ℤ-*ℤ (pos n) x, suc_ℤ-*ℤ (pos n) y)

-- a higher block begins at least one factor later
next-block : (f k j : ℤ) → pos 0 <ℤ f → k <ℤ j → ((f *ℤ k) +ℤ f) ≤ℤ (f *ℤ j)
next-block (pos n) k j up h =
    omega (arith, ints, rises n (k +ℤ pos 1) j (omega (arith, ints)), left_distrib (pos n) k (pos 1), *ℤ_comm (pos n) (pos 1), one)
  where
    one : pos 1 *ℤ pos n ≡ pos n
    one = omega (arith, ints)
next-block (negsuc n) k j up h = absurd (omega (arith, ints))

-- ---- cells

-- a cell of a range is in its array
inside : (e : Extent) (k : ℤ) (r : Range) (cell : ℕ) → is_cell e k r cell ≡ true → in_extent e cell ≡ true
inside e k (Whole a) cell t = t
inside e k (Affine a f l h) cell t = and-left _ _ t

-- where it stands
index-of : (e : Extent) (k : ℤ) (a : ℕ) (f l h : ℤ) (cell : ℕ) → is_cell e k (Affine a f l h) cell ≡ true → (at_block k f l ≤ℤ (pos cell -ℤ pos e.0)) × ((pos cell -ℤ pos e.0) ≤ℤ at_block k f h)
index-of e k a f l h cell t =
    let b = and-right (in_extent e cell) _ t in
    (int-le-is (at_block k f l) (pos cell -ℤ pos e.0) (and-left _ _ b), int-le-is (pos cell -ℤ pos e.0) (at_block k f h) (and-right (int_le (at_block k f l) (pos cell -ℤ pos e.0)) _ b))

abbrev extent : List Extent → ℕ → Extent
extent g a = slice_index_or g a (0, 0)

apart-arrays : (g : List Extent) (k j : ℤ) (r s : Range) (cell : ℕ) → LieApart g → (array_of r == array_of s) ≡ false → IsCellAt g k r cell → IsCellAt g j s cell → ⊥
apart-arrays g k j r s cell apart e x y = apart (array_of r) (array_of s) cell (other (array_of r) (array_of s) e) (inside (extent g (array_of r)) k r cell x) (inside (extent g (array_of s)) j s cell y)
  where
    other : (a b : ℕ) → (a == b) ≡ false → a ≢ b
    other a b e = grind (arith, e)

not-true : (b : Bool) → not b ≡ true → b ≡ false
not-true true e = cc
not-true false e = refl

same-is : (x y : ℕ) → (x == y) ≡ true → x ≡ y
same-is x y e = grind (arith, e)

lt-cases : (x y : ℤ) → x ≢ y → (x <ℤ y) ⊎ (y <ℤ x)
lt-cases x y ne = grind (arith, ints, ne)

same-array : (g : List Extent) (k j : ℤ) (a b : ℕ) (f l h f' m i : ℤ) (cell : ℕ) → k ≢ j → a ≡ b → separate_offsets f l h f' m i ≡ true → IsCellAt g k (Affine a f l h) cell → IsCellAt g j (Affine b f' m i) cell → ⊥
same-array g k j a b f l h f' m i cell ne ab e x y =
    let e0 : int_eq f f' ≡ true = and-left _ _ e in
    let e1 = and-right (int_eq f f') _ e in
    let e2 = and-right (int_lt (pos 0) f) _ e1 in
    let ff : f ≡ f' = grind (arith, ints, e0) in
    let up = int-lt-is (pos 0) f (and-left _ _ e1) in
    let first = int-lt-is (h -ℤ m) f (and-left _ _ e2) in
    let second = int-lt-is (i -ℤ l) f (and-right (int_lt (h -ℤ m) f) _ e2) in
    let p = index-of (extent g a) k a f l h cell x in
    let y' : is_cell (extent g a) j (Affine a f m i) cell ≡ true = rw (ab, ff) y in
    let q = index-of (extent g a) j a f m i cell y' in
    which first second up p q (lt-cases k j ne)
  where
    which : (h -ℤ m) <ℤ f → (i -ℤ l) <ℤ f → pos 0 <ℤ f → (at_block k f l ≤ℤ (pos cell -ℤ pos (extent g a).0)) × ((pos cell -ℤ pos (extent g a).0) ≤ℤ at_block k f h) → (at_block j f m ≤ℤ (pos cell -ℤ pos (extent g a).0)) × ((pos cell -ℤ pos (extent g a).0) ≤ℤ at_block j f i) → (k <ℤ j) ⊎ (j <ℤ k) → ⊥
    which first second up p q (inl lt) = omega (arith, ints, next-block f k j up lt, p.1, q.0)
    which first second up p q (inr lt) = omega (arith, ints, next-block f j k up lt, p.0, q.1)

pub separate-cells : (g : List Extent) (k j : ℤ) (r s : Range) (cell : ℕ) → LieApart g → k ≢ j → separate r s ≡ true → IsCellAt g k r cell → IsCellAt g j s cell → ⊥
separate-cells g k j (Whole a) (Whole b) cell apart ne e x y = apart-arrays g k j (Whole a) (Whole b) cell apart (not-true _ e) x y
separate-cells g k j (Whole a) (Affine b f l h) cell apart ne e x y = apart-arrays g k j (Whole a) (Affine b f l h) cell apart (not-true _ e) x y
separate-cells g k j (Affine a f l h) (Whole b) cell apart ne e x y = apart-arrays g k j (Affine a f l h) (Whole b) cell apart (not-true _ e) x y
separate-cells g k j (Affine a f l h) (Affine b f' m i) cell apart ne e x y = go (a == b) refl e
  where
    go : (t : Bool) → (a == b) ≡ t → (not t || separate_offsets f l h f' m i) ≡ true → ⊥
    go true q e = same-array g k j a b f l h f' m i cell ne (same-is a b q) e x y
    go false q e = apart-arrays g k j (Affine a f l h) (Affine b f' m i) cell apart q x y

pub disjoint-cells : (g : List Extent) (k j : ℤ) (r s : Range) (cell : ℕ) → LieApart g → disjoint r s ≡ true → IsCellAt g k r cell → IsCellAt g j s cell → ⊥
disjoint-cells g k j (Whole a) (Whole b) cell apart e x y = apart-arrays g k j (Whole a) (Whole b) cell apart (not-true _ e) x y
disjoint-cells g k j (Whole a) (Affine b f l h) cell apart e x y = apart-arrays g k j (Whole a) (Affine b f l h) cell apart (not-true _ e) x y
disjoint-cells g k j (Affine a f l h) (Whole b) cell apart e x y = apart-arrays g k j (Affine a f l h) (Whole b) cell apart (not-true _ e) x y
disjoint-cells g k j (Affine a f l h) (Affine b f' m i) cell apart e x y = go (a == b) refl e
  where
    still : (f k : ℤ) → f ≡ pos 0 → f *ℤ k ≡ pos 0
    still f k e = rw e (zero-*ℤ k)

    same : a ≡ b → disjoint_offsets f l h f' m i ≡ true → ⊥
    same ab e =
        let e0 : int_eq f (pos 0) ≡ true = and-left _ _ e in
        let e1 = and-right (int_eq f (pos 0)) _ e in
        let e2 : int_eq f' (pos 0) ≡ true = and-left _ _ e1 in
        let none = int-lt-is (int_min h i) (int_max l m) (and-right (int_eq f' (pos 0)) _ e1) in
        let fz : f ≡ pos 0 = grind (arith, ints, e0) in
        let gz : f' ≡ pos 0 = grind (arith, ints, e2) in
        let p = index-of (extent g a) k a f l h cell x in
        let y' : is_cell (extent g a) j (Affine a f' m i) cell ≡ true = rw ab y in
        let q = index-of (extent g a) j a f' m i cell y' in
        omega (arith, ints, clamps, p.0, p.1, q.0, q.1, still f k fz, still f' j gz)

    go : (t : Bool) → (a == b) ≡ t → (not t || disjoint_offsets f l h f' m i) ≡ true → ⊥
    go true q e = same (same-is a b q) e
    go false q e = apart-arrays g k j (Affine a f l h) (Affine b f' m i) cell apart q x y

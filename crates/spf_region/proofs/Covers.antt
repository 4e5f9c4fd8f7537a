-- A list in normal form covers a range exactly where one of its ranges has all offsets of it.
use Rattle.std.proofs.Common.{◌≡◌, ◌⊎◌, inl, inr, ℕ, zero, suc, ◌<◌, Bool, true, List, [], ◌∷◌, ℤ, pos, negsuc, refl, sym, ap, ◌∙◌, arith}
use Rattle.std.specs.Prelude.{◌+ℤ◌, ◌≤ℤ◌, ◌<ℤ◌, ◌==◌, int_le}
use Rattle.std.specs.List.{list_any}
use Rattle.std.specs.Ordering.{int_eq}
use Rattle.std.specs.Int.{int_gap}
use Rattle.std.proofs.lemmas.Int.{ints}
use Rattle.spf_region.specs.declared.range.Range.{Range}
use Rattle.spf_region.specs.declared.range.Range.TheVariants.{Whole, Affine}
use Rattle.spf_region.specs.Ranges.{Offsets, IsBefore, IsBeforeEach, IsNormal, has_offset, offsets_of, covers, every_offset}
use Rattle.spf_region.specs.Spanning.{spans}
use Rattle.spf_region.proofs.Bools.{and-left, and-right, both-true, or-cases, or-left, or-right, same-bool, int-le-is, int-le-of}

-- ---- offsets one by one

every-at : (n : ℕ) (from : ℤ) (test : ℤ → Bool) (j : ℕ) → every_offset n from test ≡ true → j < n → test (from +ℤ pos j) ≡ true
every-at zero from test j e below = absurd (omega arith)
every-at (suc n) from test zero e below =
    let same : from +ℤ pos 0 ≡ from = omega (arith, ints) in rw same (and-left (test from) _ e)
every-at (suc n) from test (suc j) e below =
    let same : from +ℤ pos (suc j) ≡ (from +ℤ pos 1) +ℤ pos j = omega (arith, ints) in
    rw same (every-at n (from +ℤ pos 1) test j (and-right (test from) _ e) (omega arith))

every-of : (n : ℕ) (from : ℤ) (test : ℤ → Bool) → ((j : ℕ) → j < n → test (from +ℤ pos j) ≡ true) → every_offset n from test ≡ true
every-of zero from test h = refl
every-of (suc n) from test h =
    let same : from +ℤ pos 0 ≡ from = omega (arith, ints) in
    both-true _ _ (ap test (sym same) ∙ h 0 (omega arith))
    (every-of n (from +ℤ pos 1) test (λ j below. let q : (from +ℤ pos 1) +ℤ pos j ≡ from +ℤ pos (suc j) = omega (arith, ints) in ap test q ∙ h (suc j) (omega arith)))

-- how far one number is above another
far : (x y : ℤ) → x ≤ℤ y → (j : ℕ) × (y ≡ x +ℤ pos j) × (int_gap x y ≡ j)
far (pos a) (pos b) h = (int_gap (pos a) (pos b), omega (arith, ints), refl)
far (pos a) (negsuc b) h = absurd (omega (arith, ints))
far (negsuc a) (pos b) h = (int_gap (negsuc a) (pos b), omega (arith, ints), refl)
far (negsuc a) (negsuc b) h = (int_gap (negsuc a) (negsuc b), omega (arith, ints), refl)

no-gap : (x y : ℤ) → y ≤ℤ x → int_gap x y ≡ 0
no-gap (pos a) (pos b) h = omega (arith, ints)
no-gap (pos a) (negsuc b) h = refl
no-gap (negsuc a) (pos b) h = absurd (omega (arith, ints))
no-gap (negsuc a) (negsuc b) h = omega (arith, ints)

-- every offset from l to h passes the test
abbrev pub Each : ℤ → ℤ → (ℤ → Bool) → Type 0
Each l h test = (o : ℤ) → l ≤ℤ o → o ≤ℤ h → test o ≡ true

pub covers-each : (w : Offsets) (a : ℕ) (f l h : ℤ) → covers w (Affine a f l h) ≡ true → Each l h (w a f)
covers-each w a f l h e o low high =
    let up = far l (h +ℤ pos 1) (omega (arith, ints)) in
    let at = far l o low in
    rw at.1 (every-at (int_gap l (h +ℤ pos 1)) l (w a f) at.0 e (omega (arith, ints, up.1, up.2, at.1)))

pub each-covers : (w : Offsets) (a : ℕ) (f l h : ℤ) → Each l h (w a f) → covers w (Affine a f l h) ≡ true
each-covers w a f l h each = go (order l (h +ℤ pos 1))
  where
    order : (x y : ℤ) → (x ≤ℤ y) ⊎ (y ≤ℤ x)
    order x y = grind (arith, ints)

    go : (l ≤ℤ (h +ℤ pos 1)) ⊎ ((h +ℤ pos 1) ≤ℤ l) → covers w (Affine a f l h) ≡ true
    go (inl le) =
        let up = far l (h +ℤ pos 1) le in
        every-of (int_gap l (h +ℤ pos 1)) l (w a f) (λ j below. each (l +ℤ pos j) (omega (arith, ints)) (omega (arith, ints, up.1, up.2)))
    go (inr ge) = rw (no-gap l (h +ℤ pos 1) ge) refl

-- ---- lists in normal form

-- what has an offset, by its parts
pub has-parts : (a : ℕ) (f l h : ℤ) (b : ℕ) (g o : ℤ) → has_offset (Affine a f l h) b g o ≡ true → (b ≡ a) × (g ≡ f) × (l ≤ℤ o) × (o ≤ℤ h)
has-parts a f l h b g o e =
    let e0 : (b == a) ≡ true = and-left _ _ e in
    let e1 = and-right (b == a) _ e in
    let e2 : int_eq g f ≡ true = and-left _ _ e1 in
    let e3 = and-right (int_eq g f) _ e1 in
    (grind (arith, e0), grind (arith, ints, e2), int-le-is l o (and-left _ _ e3), int-le-is o h (and-right (int_le l o) _ e3))

pub has-of : (a : ℕ) (f l h o : ℤ) → l ≤ℤ o → o ≤ℤ h → has_offset (Affine a f l h) a f o ≡ true
has-of a f l h o low high =
    let e0 : (a == a) ≡ true = grind arith in
    let e2 : int_eq f f ≡ true = grind (arith, ints) in
    both-true _ _ e0 (both-true _ _ e2 (both-true _ _ (int-le-of l o low) (int-le-of o h high)))

-- an offset of a list that a range stands before is after this range, with a gap
before-has : (a : ℕ) (f l h o : ℤ) (xs : List Range) → IsBeforeEach (Affine a f l h) xs → offsets_of xs a f o ≡ true → (h +ℤ pos 1) <ℤ o
before-has a f l h o [] b e = cc
before-has a f l h o (x ∷ xs) b e = go x b.0 (before-has a f l h o xs b.1) (or-cases (has_offset x a f o) _ e)
  where
    go : (x : Range) → IsBefore (Affine a f l h) x → (offsets_of xs a f o ≡ true → (h +ℤ pos 1) <ℤ o) → (has_offset x a f o ≡ true) ⊎ (offsets_of xs a f o ≡ true) → (h +ℤ pos 1) <ℤ o
    go x before further (inr t) = further t
    go (Whole c) before further (inl t) = cc
    go (Affine c g m i) before further (inl t) = let p = has-parts c g m i a f o t in grind (arith, ints, p.0, p.1, p.2)

spans-has : (a : ℕ) (f l h : ℤ) (x : Range) → spans (Affine a f l h) x ≡ true → Each l h (has_offset x a f)
spans-has a f l h (Whole b) e o low high = cc
spans-has a f l h (Affine b g m i) e o low high =
    let e0 : (a == b) ≡ true = and-left _ _ e in
    let e1 = and-right (a == b) _ e in
    let e2 : int_eq f g ≡ true = and-left _ _ e1 in
    let e3 = and-right (int_eq f g) _ e1 in
    let first = int-le-is m l (and-left _ _ e3) in
    let last = int-le-is h i (and-right (int_le m l) _ e3) in
    both-true _ _ e0 (both-true _ _ e2 (both-true _ _ (int-le-of m o (omega (arith, ints))) (int-le-of o i (omega (arith, ints)))))

spanned-has : (a : ℕ) (f l h : ℤ) (xs : List Range) → list_any (spans (Affine a f l h)) xs ≡ true → Each l h (offsets_of xs a f)
spanned-has a f l h [] e o low high = cc
spanned-has a f l h (x ∷ xs) e o low high = go (λ t. spanned-has a f l h xs t o low high) (or-cases (spans (Affine a f l h) x) _ e)
  where
    go : (list_any (spans (Affine a f l h)) xs ≡ true → offsets_of xs a f o ≡ true) → (spans (Affine a f l h) x ≡ true) ⊎ (list_any (spans (Affine a f l h)) xs ≡ true) → offsets_of (x ∷ xs) a f o ≡ true
    go further (inl t) = or-left _ _ (spans-has a f l h x t o low high)
    go further (inr t) = or-right _ _ (further t)

has-spanned : (a : ℕ) (f l h : ℤ) (xs : List Range) → IsNormal xs → l ≤ℤ h → Each l h (offsets_of xs a f) → list_any (spans (Affine a f l h)) xs ≡ true
has-spanned a f l h [] n le each = each l (omega (arith, ints)) le
has-spanned a f l h (x ∷ xs) n le each = go x n.1 each (has-spanned a f l h xs n.2 le) (or-cases (has_offset x a f l) _ (each l (omega (arith, ints)) le))
  where
    order : (x y : ℤ) → (x ≤ℤ y) ⊎ (y <ℤ x)
    order x y = grind (arith, ints)

    later : (x : Range) → IsBeforeEach x xs → Each l h (offsets_of (x ∷ xs) a f) → offsets_of xs a f l ≡ true → Each l h (offsets_of xs a f)
    later (Whole b) before each t o low high = each o low high
    later (Affine b g m i) before each t o low high = pick (or-cases (has_offset (Affine b g m i) a f o) _ (each o low high))
      where
        pick : (has_offset (Affine b g m i) a f o ≡ true) ⊎ (offsets_of xs a f o ≡ true) → offsets_of xs a f o ≡ true
        pick (inr u) = u
        pick (inl u) =
            let p = has-parts b g m i a f o u in
            let before' : IsBeforeEach (Affine a f m i) xs = rw (p.0, p.1) before in
            let behind = before-has a f m i l xs before' t in
            absurd (omega (arith, ints, p.3))

    go : (x : Range) → IsBeforeEach x xs → Each l h (offsets_of (x ∷ xs) a f) → (Each l h (offsets_of xs a f) → list_any (spans (Affine a f l h)) xs ≡ true) → (has_offset x a f l ≡ true) ⊎ (offsets_of xs a f l ≡ true) → list_any (spans (Affine a f l h)) (x ∷ xs) ≡ true
    go x before each further (inr t) = or-right _ _ (further (later x before each t))
    go (Whole b) before each further (inl t) = cc
    go (Affine b g m i) before each further (inl t) = ends (order h i)
      where
        p : (a ≡ b) × (f ≡ g) × (m ≤ℤ l) × (l ≤ℤ i)
        p = has-parts b g m i a f l t

        next : (has_offset (Affine b g m i) a f (i +ℤ pos 1) ≡ true) ⊎ (offsets_of xs a f (i +ℤ pos 1) ≡ true) → ⊥
        next (inl u) = let q = has-parts b g m i a f (i +ℤ pos 1) u in omega (arith, ints, q.3)
        next (inr u) =
            let before' : IsBeforeEach (Affine a f m i) xs = rw (p.0, p.1) before in
            let behind = before-has a f m i (i +ℤ pos 1) xs before' u in
            omega (arith, ints)

        ends : (h ≤ℤ i) ⊎ (i <ℤ h) → list_any (spans (Affine a f l h)) (Affine b g m i ∷ xs) ≡ true
        ends (inl le') =
            let e0 : (a == b) ≡ true = grind (arith, p.0) in
            let e1 : int_eq f g ≡ true = grind (arith, ints, p.1) in
            or-left _ _ (both-true _ _ e0 (both-true _ _ e1 (both-true _ _ (int-le-of m l p.2) (int-le-of h i le'))))
        ends (inr less) = absurd (next (or-cases (has_offset (Affine b g m i) a f (i +ℤ pos 1)) _ (each (i +ℤ pos 1) (omega (arith, ints, p.3)) (omega (arith, ints)))))

pub covers-spans : (a : ℕ) (f l h : ℤ) (xs : List Range) → IsNormal xs → l ≤ℤ h → covers (offsets_of xs) (Affine a f l h) ≡ list_any (spans (Affine a f l h)) xs
covers-spans a f l h xs n le = same-bool _ _
    (λ e. has-spanned a f l h xs n le (covers-each (offsets_of xs) a f l h e))
    (λ e. each-covers (offsets_of xs) a f l h (spanned-has a f l h xs e))

pub covers-empty : (w : Offsets) (a : ℕ) (f l h : ℤ) → h <ℤ l → covers w (Affine a f l h) ≡ true
covers-empty w a f l h less = rw (no-gap l (h +ℤ pos 1) (omega (arith, ints))) refl

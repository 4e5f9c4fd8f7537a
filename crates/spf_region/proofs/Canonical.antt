-- Two lists in normal form that have the same offsets and whole arrays are one.
use Rattle.std.proofs.Common.{◌≡◌, ◌⊎◌, inl, inr, ℕ, Bool, true, List, [], ◌∷◌, ℤ, pos, refl, sym, ap, ◌∙◌, arith}
use Rattle.std.specs.Prelude.{◌+ℤ◌, ◌<ℤ◌, ◌==◌}
use Rattle.std.specs.List.{list_any}
use Rattle.std.proofs.lemmas.Int.{ints}
use Rattle.spf_region.specs.declared.range.Range.{Range}
use Rattle.spf_region.specs.declared.range.Range.TheVariants.{Whole, Affine}
use Rattle.spf_region.specs.Ranges.{IsBefore, IsBeforeEach, IsFilled, IsNormal, has_offset, is_whole, offsets_of, wholes_of}
use Rattle.spf_region.proofs.Bools.{or-cases, or-left, or-right, same-bool}
use Rattle.spf_region.proofs.Order.{StartsBy, before-then}
use Rattle.spf_region.proofs.Covers.{has-parts, has-of}

-- an offset of an array and a factor, or a whole array
data Entry : Type 0 where
  AtWhole : ℕ → Entry
  AtOffset : ℕ → ℤ → ℤ → Entry

abbrev has : Entry → Range → Bool
has (AtWhole a) r = is_whole r a
has (AtOffset a f o) r = has_offset r a f o

abbrev single : Entry → Range
single (AtWhole a) = Whole a
single (AtOffset a f o) = Affine a f o o

abbrev first : Range → Entry
first (Whole a) = AtWhole a
first (Affine a f l h) = AtOffset a f l

-- two lists have the same entries
abbrev AreAlike : List Range → List Range → Type 0
AreAlike xs ys = (e : Entry) → list_any (has e) xs ≡ list_any (has e) ys

has-first : (r : Range) → IsFilled r → has (first r) r ≡ true
has-first (Whole a) f = grind arith
has-first (Affine a f l h) u = has-of a f l h l (omega (arith, ints)) u

whole-is : (a b : ℕ) → (a == b) ≡ true → a ≡ b
whole-is a b e = grind (arith, e)

-- a range that has an entry begins no later than it
starts-single : (r : Range) (e : Entry) → has e r ≡ true → StartsBy r (single e)
starts-single (Whole a) (AtWhole b) t = let same = whole-is b a t in omega arith
starts-single (Whole a) (AtOffset b g o) t = cc
starts-single (Affine a f l h) (AtWhole b) t = cc
starts-single (Affine a f l h) (AtOffset b g o) t = let p = has-parts a f l h b g o t in inr (sym p.0, inr (sym p.1, p.2))

-- what stands before an entry doesn't have it
before-hasn't : (r : Range) (e : Entry) → IsBefore r (single e) → has e r ≡ true → ⊥
before-hasn't (Whole a) (AtWhole b) x t = let same = whole-is b a t in omega arith
before-hasn't (Whole a) (AtOffset b g o) x t = cc
before-hasn't (Affine a f l h) (AtWhole b) x t = cc
before-hasn't (Affine a f l h) (AtOffset b g o) x t = let p = has-parts a f l h b g o t in grind (arith, ints, p.0, p.1, p.3)

before-entry : (r : Range) (xs : List Range) (e : Entry) → IsBeforeEach r xs → list_any (has e) xs ≡ true → IsBefore r (single e)
before-entry r [] e b t = cc
before-entry r (x ∷ xs) e b t = go (before-entry r xs e b.1) (or-cases (has e x) _ t)
  where
    go : (list_any (has e) xs ≡ true → IsBefore r (single e)) → (has e x ≡ true) ⊎ (list_any (has e) xs ≡ true) → IsBefore r (single e)
    go further (inl u) = before-then r x (single e) b.0 (starts-single x e u)
    go further (inr u) = further u

before-starts-single : (r : Range) (e : Entry) → IsFilled r → IsBefore r (single e) → StartsBy r (single e)
before-starts-single (Whole a) (AtWhole b) f x = omega arith
before-starts-single (Whole a) (AtOffset b g o) f x = x
before-starts-single (Affine a f l h) (AtWhole b) u x = x
before-starts-single (Affine a f l h) (AtOffset b g o) u x = grind (arith, ints)

-- each entry of a list is at or after the start of its first range
starts-entry : (x : Range) (xs : List Range) (e : Entry) → IsNormal (x ∷ xs) → list_any (has e) (x ∷ xs) ≡ true → StartsBy x (single e)
starts-entry x xs e n t = go (or-cases (has e x) _ t)
  where
    go : (has e x ≡ true) ⊎ (list_any (has e) xs ≡ true) → StartsBy x (single e)
    go (inl u) = starts-single x e u
    go (inr u) = before-starts-single x e n.0 (before-entry x xs e n.1 u)

-- where one range begins as another and is longer, its list has an offset more
no-longer : (a : ℕ) (f l h i : ℤ) (xs ys : List Range) → AreAlike (Affine a f l h ∷ xs) (Affine a f l i ∷ ys) → IsNormal (Affine a f l h ∷ xs) → h <ℤ i → ⊥
no-longer a f l h i xs ys alike n less =
    let o = h +ℤ pos 1 in
    let there : list_any (has (AtOffset a f o)) (Affine a f l i ∷ ys) ≡ true = or-left _ _ (has-of a f l i o (omega (arith, ints, n.0)) (omega (arith, ints))) in
    go (or-cases (has_offset (Affine a f l h) a f o) _ (alike (AtOffset a f o) ∙ there))
  where
    go : (has_offset (Affine a f l h) a f (h +ℤ pos 1) ≡ true) ⊎ (list_any (has (AtOffset a f (h +ℤ pos 1))) xs ≡ true) → ⊥
    go (inl t) = let p = has-parts a f l h a f (h +ℤ pos 1) t in omega (arith, ints, p.3)
    go (inr t) =
        let b : IsBefore (Affine a f l h) (Affine a f (h +ℤ pos 1) (h +ℤ pos 1)) = before-entry (Affine a f l h) xs (AtOffset a f (h +ℤ pos 1)) n.1 t in
        grind (arith, ints)

same-head : (x y : Range) (xs ys : List Range) → AreAlike (x ∷ xs) (y ∷ ys) → IsNormal (x ∷ xs) → IsNormal (y ∷ ys) → x ≡ y
same-head x y xs ys alike n m =
    go x y alike n m (starts-entry x xs (first y) n (alike (first y) ∙ or-left _ _ (has-first y m.0))) (starts-entry y ys (first x) m (sym (alike (first x)) ∙ or-left _ _ (has-first x n.0)))
  where
    order : (x y : ℤ) → (x ≡ y) ⊎ ((x <ℤ y) ⊎ (y <ℤ x))
    order x y = grind (arith, ints)

    go : (x y : Range) → AreAlike (x ∷ xs) (y ∷ ys) → IsNormal (x ∷ xs) → IsNormal (y ∷ ys) → StartsBy x (single (first y)) → StartsBy y (single (first x)) → x ≡ y
    go (Whole a) (Whole b) alike n m u v = let e : a ≡ b = omega arith in ap Whole e
    go (Whole a) (Affine b g p i) alike n m u v = absurd (omega arith)
    go (Affine a f l h) (Whole b) alike n m u v = absurd (omega arith)
    go (Affine a f l h) (Affine b g p i) alike n m u v =
        let ab : a ≡ b = grind (arith, ints) in
        let fg : f ≡ g = grind (arith, ints) in
        let lp : l ≡ p = grind (arith, ints) in
        ends ab fg lp (order h i)
      where
        ends : a ≡ b → f ≡ g → l ≡ p → (h ≡ i) ⊎ ((h <ℤ i) ⊎ (i <ℤ h)) → Affine a f l h ≡ Affine b g p i
        ends ab fg lp (inl hi) = rw (ab, fg, lp, hi) refl
        ends ab fg lp (inr (inl less)) =
            let alike' : AreAlike (Affine a f l h ∷ xs) (Affine a f l i ∷ ys) = rw (ab, fg, lp) (rw (ab, fg, lp) at alike) in
            absurd (no-longer a f l h i xs ys alike' n less)
        ends ab fg lp (inr (inr less)) =
            let alike' : AreAlike (Affine b g p i ∷ ys) (Affine b g p h ∷ xs) = λ e. sym ((rw (ab, fg, lp) at alike) e) in
            absurd (no-longer b g p i h ys xs alike' m less)

same-tail : (x : Range) (xs ys : List Range) → AreAlike (x ∷ xs) (x ∷ ys) → IsNormal (x ∷ xs) → IsNormal (x ∷ ys) → AreAlike xs ys
same-tail x xs ys alike n m e = same-bool _ _ (only xs ys n (alike e)) (only ys xs m (sym (alike e)))
  where
    only : (xs ys : List Range) → IsNormal (x ∷ xs) → list_any (has e) (x ∷ xs) ≡ list_any (has e) (x ∷ ys) → list_any (has e) xs ≡ true → list_any (has e) ys ≡ true
    only xs ys n same t = go (or-cases (has e x) _ (sym same ∙ or-right (has e x) _ t))
      where
        go : (has e x ≡ true) ⊎ (list_any (has e) ys ≡ true) → list_any (has e) ys ≡ true
        go (inl u) = absurd (before-hasn't x e (before-entry x xs e n.1 t) u)
        go (inr u) = u

one-list : (xs ys : List Range) → AreAlike xs ys → IsNormal xs → IsNormal ys → xs ≡ ys
one-list [] [] alike n m = refl
one-list [] (y ∷ ys) alike n m = let t = or-left _ (list_any (has (first y)) ys) (has-first y m.0) in let f = alike (first y) in cc
one-list (x ∷ xs) [] alike n m = let t = or-left _ (list_any (has (first x)) xs) (has-first x n.0) in let f = alike (first x) in cc
one-list (x ∷ xs) (y ∷ ys) alike n m =
    let e = same-head x y xs ys alike n m in
    let alike' : AreAlike (x ∷ xs) (x ∷ ys) = rw (sym e) at alike in
    let m' : IsNormal (x ∷ ys) = rw (sym e) at m in
    rw e (ap (λ zs. y ∷ zs) (one-list xs ys (same-tail x xs ys alike' n m') n.2 m.2))

pub one-form : (xs ys : List Range) → IsNormal xs → IsNormal ys → offsets_of xs ≡ offsets_of ys → wholes_of xs ≡ wholes_of ys → xs ≡ ys
one-form xs ys n m o w = one-list xs ys alike n m
  where
    alike : AreAlike xs ys
    alike (AtWhole a) = ap (λ t. t a) w
    alike (AtOffset a f p) = ap (λ t. t a f p) o

-- Separate and disjoint lists, offset by offset.
use Rattle.std.proofs.Common.{◌≡◌, ◌≢◌, ◌⊎◌, inl, inr, ℕ, Bool, true, false, not, List, [], ◌∷◌, ℤ, pos, refl, sym, ap, ◌∙◌, subst, arith, cond}
use Rattle.std.specs.Prelude.{◌-ℤ◌, ◌≤ℤ◌, ◌<ℤ◌, ◌==◌, ◌||◌, ◌↔◌, Some, None, find, int_lt}
use Rattle.std.specs.List.{list_any}
use Rattle.std.specs.Ordering.{int_eq}
use Rattle.std.specs.Int.{int_min, int_max}
use Rattle.std.proofs.lemmas.Int.{ints, clamps}
use Rattle.spf_region.specs.declared.range.Range.{Range}
use Rattle.spf_region.specs.declared.range.Range.TheVariants.{Whole, Affine}
use Rattle.spf_region.specs.Ranges.{IsFilled, IsNormal, array_of, has_offset, is_whole, offsets_of, wholes_of, has_array, separate, separate_offsets, disjoint, disjoint_offsets, first_unseparated, first_meeting}
use Rattle.spf_region.specs.Laws.{HasEntry, AreSeparate, AreDisjoint}
use Rattle.spf_region.proofs.Bools.{and-left, and-right, both-true, or-cases, or-left, or-right, never, int-lt-is}
use Rattle.spf_region.proofs.Covers.{has-parts, has-of}

-- ---- what is in a list

-- a range of the list
abbrev In : Range → List Range → Type 0
In r [] = ⊥
In r (x ∷ xs) = (r ≡ x) ⊎ In r xs

in-any : (t : Range → Bool) (xs : List Range) → list_any t xs ≡ true → (r : Range) × In r xs × (t r ≡ true)
in-any t [] e = cc
in-any t (x ∷ xs) e = go (in-any t xs) (or-cases (t x) _ e)
  where
    go : (list_any t xs ≡ true → (r : Range) × In r xs × (t r ≡ true)) → (t x ≡ true) ⊎ (list_any t xs ≡ true) → (r : Range) × In r (x ∷ xs) × (t r ≡ true)
    go further (inl u) = (x, inl refl, u)
    go further (inr u) = let h = further u in (h.0, inr h.1, h.2)

any-in : (t : Range → Bool) (xs : List Range) (r : Range) → In r xs → t r ≡ true → list_any t xs ≡ true
any-in t [] r i e = absurd i
any-in t (x ∷ xs) r (inl q) e = or-left _ _ (ap t (sym q) ∙ e)
any-in t (x ∷ xs) r (inr i) e = or-right (t x) _ (any-in t xs r i e)

any-none : (t : Range → Bool) (xs : List Range) (r : Range) → list_any t xs ≡ false → In r xs → t r ≡ false
any-none t xs r e i = never (t r) (λ u. let h = any-in t xs r i u in cc)

none-any : (t : Range → Bool) (xs : List Range) → ((r : Range) → In r xs → t r ≡ false) → list_any t xs ≡ false
none-any t xs h = never (list_any t xs) (λ u. let p = in-any t xs u in let q = h p.0 p.1 in let s = p.2 in cc)

find-none : (t : Range → Bool) (xs : List Range) → find t xs ≡ None → list_any t xs ≡ false
find-none t [] e = refl
find-none t (x ∷ xs) e = go (t x) (find-none t xs) e
  where
    go : (b : Bool) → (find t xs ≡ None → list_any t xs ≡ false) → cond b (Some x) (find t xs) ≡ None → (b || list_any t xs) ≡ false
    go true further e = cc
    go false further e = further e

none-find : (t : Range → Bool) (xs : List Range) → list_any t xs ≡ false → find t xs ≡ None
none-find t [] e = refl
none-find t (x ∷ xs) e = go (t x) (none-find t xs) e
  where
    go : (b : Bool) → (list_any t xs ≡ false → find t xs ≡ None) → (b || list_any t xs) ≡ false → cond b (Some x) (find t xs) ≡ None
    go true further e = cc
    go false further e = further e

in-filled : (xs : List Range) (r : Range) → IsNormal xs → In r xs → IsFilled r
in-filled [] r n i = absurd i
in-filled (x ∷ xs) r n (inl q) = subst IsFilled (sym q) n.0
in-filled (x ∷ xs) r n (inr i) = in-filled xs r n.2 i

not-false : (b : Bool) → not b ≡ false → b ≡ true
not-false true e = refl
not-false false e = cc

not-true : (b : Bool) → b ≡ true → not b ≡ false
not-true true e = refl
not-true false e = cc

same-is : (x y : ℕ) → (x == y) ≡ true → x ≡ y
same-is x y e = grind (arith, e)

same-of : (x y : ℕ) → x ≡ y → (x == y) ≡ true
same-of x y e = grind (arith, e)

-- ---- arrays

pub arrays-of : (xs : List Range) (a : ℕ) → IsNormal xs → (has_array xs a ≡ true) ↔ HasEntry (offsets_of xs) (wholes_of xs) a
arrays-of xs a n = (forth, back)
  where
    entry : (r : Range) → IsFilled r → In r xs → array_of r ≡ a → HasEntry (offsets_of xs) (wholes_of xs) a
    entry (Whole b) f i e = inl (any-in (λ r. is_whole r a) xs (Whole b) i (same-of a b (sym e)))
    entry (Affine b f l h) u i e = inr (f, l, any-in (λ r. has_offset r a f l) xs (Affine b f l h) i (subst (λ c. has_offset (Affine b f l h) c f l ≡ true) e (has-of b f l h l (omega (arith, ints)) u)))

    forth : has_array xs a ≡ true → HasEntry (offsets_of xs) (wholes_of xs) a
    forth e = let p = in-any (λ r. array_of r == a) xs e in entry p.0 (in-filled xs p.0 n p.1) p.1 (same-is _ _ p.2)

    of-whole : (r : Range) → is_whole r a ≡ true → (array_of r == a) ≡ true
    of-whole (Whole b) e = same-of b a (sym (same-is a b e))
    of-whole (Affine b f l h) e = cc

    of-offset : (r : Range) (f o : ℤ) → has_offset r a f o ≡ true → (array_of r == a) ≡ true
    of-offset (Whole b) f o e = cc
    of-offset (Affine b g l h) f o e = same-of b a (sym (same-is a b (and-left _ _ e)))

    back : HasEntry (offsets_of xs) (wholes_of xs) a → has_array xs a ≡ true
    back (inl e) = let p = in-any (λ r. is_whole r a) xs e in any-in (λ r. array_of r == a) xs p.0 p.1 (of-whole p.0 p.2)
    back (inr e) = let p = in-any (λ r. has_offset r a e.0 e.1) xs e.2 in any-in (λ r. array_of r == a) xs p.0 p.1 (of-offset p.0 e.0 e.1 p.2)

-- ---- separate

or-second : (x y : Bool) → x ≡ true → (not x || y) ≡ true → y ≡ true
or-second true y e h = h
or-second false y e h = cc

of-self : (a : ℕ) → (a == a) ≡ true
of-self a = grind arith

-- the offsets of two separate ranges of an array
pub separate-parts : (a : ℕ) (r s : Range) (f g o p : ℤ) → separate r s ≡ true → has_offset r a f o ≡ true → has_offset s a g p ≡ true → (f ≡ g) × (pos 0 <ℤ f) × ((o -ℤ p) <ℤ f)
separate-parts a (Whole b) s f g o p e x y = cc
separate-parts a (Affine b f' l h) (Whole c) f g o p e x y = cc
separate-parts a (Affine b f' l h) (Affine c g' m i) f g o p e x y =
    let u = has-parts b f' l h a f o x in
    let v = has-parts c g' m i a g p y in
    let same = same-of b c (sym u.0 ∙ v.0) in
    let e0 = or-second (b == c) _ same e in
    let e1 : int_eq f' g' ≡ true = and-left _ _ e0 in
    let e2 = and-right (int_eq f' g') _ e0 in
    let e3 = and-right (int_lt (pos 0) f') _ e2 in
    let up = int-lt-is (pos 0) f' (and-left _ _ e2) in
    let first = int-lt-is (h -ℤ m) f' (and-left _ _ e3) in
    let one : f' ≡ g' = grind (arith, ints, e1) in
    (u.1 ∙ one ∙ sym v.1, omega (arith, ints, u.1), omega (arith, ints, u.1, u.3, v.2))

separate-of : (xs : List Range) → IsNormal xs → AreSeparate (offsets_of xs) (wholes_of xs) → (r s : Range) → In r xs → In s xs → separate r s ≡ true
separate-of xs n sep (Whole a) s i j = let t = any-in (λ r. is_whole r a) xs (Whole a) i (of-self a) in let f = sep.no_whole a in cc
separate-of xs n sep (Affine a f l h) (Whole b) i j = let t = any-in (λ r. is_whole r b) xs (Whole b) j (of-self b) in let f = sep.no_whole b in cc
separate-of xs n sep (Affine a f l h) (Affine b g m k) i j = go (a == b) refl
  where
    go : (t : Bool) → (a == b) ≡ t → (not t || separate_offsets f l h g m k) ≡ true
    go false e = refl
    go true e =
        let u = in-filled xs (Affine a f l h) n i in
        let v = in-filled xs (Affine b g m k) n j in
        let ab = same-is a b e in
        let last = any-in (λ r. has_offset r a f h) xs (Affine a f l h) i (has-of a f l h h u (omega (arith, ints))) in
        let first = any-in (λ r. has_offset r a f l) xs (Affine a f l h) i (has-of a f l h l (omega (arith, ints)) u) in
        let other-first : offsets_of xs a g m ≡ true = any-in (λ r. has_offset r a g m) xs (Affine b g m k) j (rw ab (has-of b g m k m (omega (arith, ints)) v)) in
        let other-last : offsets_of xs a g k ≡ true = any-in (λ r. has_offset r a g k) xs (Affine b g m k) j (rw ab (has-of b g m k k v (omega (arith, ints)))) in
        let p = sep.near a f g h m last other-first in
        let q = sep.near a g f k l other-last first in
        let e1 : int_eq f g ≡ true = grind (arith, ints, p.0) in
        let e2 : int_lt (pos 0) f ≡ true = grind (arith, ints, p.1) in
        let e3 : int_lt (h -ℤ m) f ≡ true = grind (arith, ints, p.2) in
        let e4 : int_lt (k -ℤ l) f ≡ true = grind (arith, ints, p.0, q.2) in
        both-true _ _ e1 (both-true _ _ e2 (both-true _ _ e3 e4))

pub separate-offsets : (xs : List Range) → IsNormal xs → (first_unseparated xs ≡ None) ↔ AreSeparate (offsets_of xs) (wholes_of xs)
separate-offsets xs n = (forth, back)
  where
    pair : first_unseparated xs ≡ None → (r s : Range) → In r xs → In s xs → separate r s ≡ true
    pair e r s i j = not-false _ (any-none (λ s. not (separate r s)) xs s (any-none (λ r. list_any (λ s. not (separate r s)) xs) xs r (find-none _ xs e) i) j)

    whole-breaks : (r : Range) (a : ℕ) → is_whole r a ≡ true → separate r r ≡ true → ⊥
    whole-breaks (Whole b) a w e = let t = of-self b in let f = or-second (b == b) false t in go (b == b) t e
      where
        go : (t : Bool) → t ≡ true → not t ≡ true → ⊥
        go true t e = cc
        go false t e = cc
    whole-breaks (Affine b f l h) a w e = cc

    forth : first_unseparated xs ≡ None → AreSeparate (offsets_of xs) (wholes_of xs)
    forth e = record {
      no_whole = λ a. never _ (λ t. let p = in-any (λ r. is_whole r a) xs t in whole-breaks p.0 a p.2 (pair e p.0 p.0 p.1 p.1));
      near = λ a f g o p x y.
          let u = in-any (λ r. has_offset r a f o) xs x in
          let v = in-any (λ r. has_offset r a g p) xs y in
          separate-parts a u.0 v.0 f g o p (pair e u.0 v.0 u.1 v.1) u.2 v.2;
    }

    back : AreSeparate (offsets_of xs) (wholes_of xs) → first_unseparated xs ≡ None
    back sep = none-find _ xs (none-any _ xs (λ r i. none-any _ xs (λ s j. not-true _ (separate-of xs n sep r s i j))))

-- ---- disjoint

-- the offsets of two disjoint ranges of an array
disjoint-parts : (a : ℕ) (r s : Range) (f g o p : ℤ) → disjoint r s ≡ true → has_offset r a f o ≡ true → has_offset s a g p ≡ true → (f ≡ pos 0) × (g ≡ pos 0) × (o ≢ p)
disjoint-parts a (Whole b) s f g o p e x y = cc
disjoint-parts a (Affine b f' l h) (Whole c) f g o p e x y = cc
disjoint-parts a (Affine b f' l h) (Affine c g' m i) f g o p e x y =
    let u = has-parts b f' l h a f o x in
    let v = has-parts c g' m i a g p y in
    let same = same-of b c (sym u.0 ∙ v.0) in
    let e0 = or-second (b == c) _ same e in
    let e1 : int_eq f' (pos 0) ≡ true = and-left _ _ e0 in
    let e2 = and-right (int_eq f' (pos 0)) _ e0 in
    let e3 : int_eq g' (pos 0) ≡ true = and-left _ _ e2 in
    let apart = int-lt-is (int_min h i) (int_max l m) (and-right (int_eq g' (pos 0)) _ e2) in
    let one : f' ≡ pos 0 = grind (arith, ints, e1) in
    let two : g' ≡ pos 0 = grind (arith, ints, e3) in
    (u.1 ∙ one, v.1 ∙ two, λ q. omega (arith, ints, clamps, u.2, u.3, v.2, v.3, q))

array-second : (a : ℕ) (r : Range) (xs : List Range) → In r xs → (a == array_of r) ≡ true → has_array xs a ≡ true
array-second a r xs i e = any-in (λ r. array_of r == a) xs r i (same-of (array_of r) a (sym (same-is a (array_of r) e)))

disjoint-of : (xs ys : List Range) → IsNormal xs → IsNormal ys → AreDisjoint (offsets_of xs) (wholes_of xs) (has_array xs) (offsets_of ys) (wholes_of ys) (has_array ys) → (r s : Range) → In r xs → In s ys → disjoint r s ≡ true
disjoint-of xs ys n m dis (Whole a) (Whole b) i j = go (a == b) refl
  where
    go : (t : Bool) → (a == b) ≡ t → not t ≡ true
    go false e = refl
    go true e = absurd (dis.no_whole a (any-in (λ r. is_whole r a) xs (Whole a) i (of-self a)) (array-second a (Whole b) ys j e))
disjoint-of xs ys n m dis (Whole a) (Affine b g l h) i j = go (a == b) refl
  where
    go : (t : Bool) → (a == b) ≡ t → not t ≡ true
    go false e = refl
    go true e = absurd (dis.no_whole a (any-in (λ r. is_whole r a) xs (Whole a) i (of-self a)) (array-second a (Affine b g l h) ys j e))
disjoint-of xs ys n m dis (Affine a f l h) (Whole b) i j = go (a == b) refl
  where
    go : (t : Bool) → (a == b) ≡ t → not t ≡ true
    go false e = refl
    go true e = absurd (dis.no_other_whole b (any-in (λ r. array_of r == b) xs (Affine a f l h) i e) (any-in (λ r. is_whole r b) ys (Whole b) j (of-self b)))
disjoint-of xs ys n m dis (Affine a f l h) (Affine b g p q) i j = go (a == b) refl
  where
    order : (x y : ℤ) → (x ≤ℤ y) ⊎ (y <ℤ x)
    order x y = grind (arith, ints)

    u : l ≤ℤ h
    u = in-filled xs (Affine a f l h) n i

    v : p ≤ℤ q
    v = in-filled ys (Affine b g p q) m j

    here : (o : ℤ) → l ≤ℤ o → o ≤ℤ h → offsets_of xs a f o ≡ true
    here o low high = any-in (λ r. has_offset r a f o) xs (Affine a f l h) i (has-of a f l h o low high)

    there : a ≡ b → (o : ℤ) → p ≤ℤ o → o ≤ℤ q → offsets_of ys a g o ≡ true
    there ab o low high = any-in (λ r. has_offset r a g o) ys (Affine b g p q) j (rw ab (has-of b g p q o low high))

    go : (t : Bool) → (a == b) ≡ t → (not t || disjoint_offsets f l h g p q) ≡ true
    go false e = refl
    go true e =
        let ab = same-is a b e in
        let z = dis.differ a f g l p (here l (omega (arith, ints)) u) (there ab p (omega (arith, ints)) v) in
        let e1 : int_eq f (pos 0) ≡ true = grind (arith, ints, z.0) in
        let e2 : int_eq g (pos 0) ≡ true = grind (arith, ints, z.1) in
        both-true _ _ e1 (both-true _ _ e2 (pick (order (int_max l p) (int_min h q))))
      where
        pick : (int_max l p ≤ℤ int_min h q) ⊎ (int_min h q <ℤ int_max l p) → int_lt (int_min h q) (int_max l p) ≡ true
        pick (inr less) = grind (arith, ints, less)
        pick (inl le) =
            let o = int_max l p in
            let ab = same-is a b e in
            let z = dis.differ a f g o o (here o (omega (arith, ints, clamps)) (omega (arith, ints, clamps))) (there ab o (omega (arith, ints, clamps)) (omega (arith, ints, clamps))) in
            absurd (z.2 refl)

pub disjoint-offsets : (xs ys : List Range) → IsNormal xs → IsNormal ys → (first_meeting xs ys ≡ None) ↔ AreDisjoint (offsets_of xs) (wholes_of xs) (has_array xs) (offsets_of ys) (wholes_of ys) (has_array ys)
disjoint-offsets xs ys n m = (forth, back)
  where
    pair : first_meeting xs ys ≡ None → (r s : Range) → In r xs → In s ys → disjoint r s ≡ true
    pair e r s i j = not-false _ (any-none (λ s. not (disjoint r s)) ys s (any-none (λ r. list_any (λ s. not (disjoint r s)) ys) xs r (find-none _ xs e) i) j)

    other-array : (a b : ℕ) → not (a == b) ≡ true → a ≡ b → ⊥
    other-array a b e q = let t = same-of a b q in go (a == b) e t
      where
        go : (t : Bool) → not t ≡ true → t ≡ true → ⊥
        go true e t = cc
        go false e t = cc

    whole-left : (r s : Range) (a : ℕ) → is_whole r a ≡ true → (array_of s == a) ≡ true → disjoint r s ≡ true → ⊥
    whole-left (Whole b) (Whole c) a w t e = other-array b c e (sym (same-is a b w) ∙ sym (same-is c a t))
    whole-left (Whole b) (Affine c f l h) a w t e = other-array b c e (sym (same-is a b w) ∙ sym (same-is c a t))
    whole-left (Affine b f l h) s a w t e = cc

    whole-right : (r s : Range) (a : ℕ) → (array_of r == a) ≡ true → is_whole s a ≡ true → disjoint r s ≡ true → ⊥
    whole-right (Whole b) (Whole c) a t w e = other-array b c e (same-is b a t ∙ same-is a c w)
    whole-right (Affine b f l h) (Whole c) a t w e = other-array b c e (same-is b a t ∙ same-is a c w)
    whole-right r (Affine c f l h) a t w e = cc

    forth : first_meeting xs ys ≡ None → AreDisjoint (offsets_of xs) (wholes_of xs) (has_array xs) (offsets_of ys) (wholes_of ys) (has_array ys)
    forth e = record {
      no_whole = λ a x y.
          let u = in-any (λ r. is_whole r a) xs x in
          let v = in-any (λ r. array_of r == a) ys y in
          whole-left u.0 v.0 a u.2 v.2 (pair e u.0 v.0 u.1 v.1);
      no_other_whole = λ a x y.
          let u = in-any (λ r. array_of r == a) xs x in
          let v = in-any (λ r. is_whole r a) ys y in
          whole-right u.0 v.0 a u.2 v.2 (pair e u.0 v.0 u.1 v.1);
      differ = λ a f g o p x y.
          let u = in-any (λ r. has_offset r a f o) xs x in
          let v = in-any (λ r. has_offset r a g p) ys y in
          disjoint-parts a u.0 v.0 f g o p (pair e u.0 v.0 u.1 v.1) u.2 v.2;
    }

    back : AreDisjoint (offsets_of xs) (wholes_of xs) (has_array xs) (offsets_of ys) (wholes_of ys) (has_array ys) → first_meeting xs ys ≡ None
    back dis = none-find _ xs (none-any _ xs (λ r i. none-any _ ys (λ s j. not-true _ (disjoint-of xs ys n m dis r s i j))))

-- Two lists merged have what either has, and their common part what both have; both are in normal form.
use Rattle.std.proofs.Common.{◌≡◌, ℕ, Bool, true, false, List, [], ◌∷◌, ℤ, refl, sym, ap, ◌∙◌, arith}
use Rattle.std.specs.Prelude.{Option, Some, None, if◌then◌else◌, not, ◌==◌, ◌&&◌, ◌||◌}
use Rattle.std.specs.List.{list_any}
use Rattle.std.proofs.lemmas.Int.{ints}
use Rattle.spf_region.specs.declared.range.Range.{Range}
use Rattle.spf_region.specs.declared.range.Range.TheVariants.{Whole, Affine}
use Rattle.spf_region.specs.Ranges.{IsBefore, IsBeforeEach, IsFilled, IsNormal, Offsets, Arrays, has_offset, is_whole, offsets_of, wholes_of, in_either, in_both, whole_in_either, whole_in_both, joined, whole_joined, array_joined, array_of, has_array, is_empty}
use Rattle.spf_region.specs.Merging.{hull, overlap, starts_by, ends_by, interleaved, joined_or, coalesced_after, coalesced, preceded, met}
use Rattle.spf_region.proofs.Bools.{or-assoc, or-swap}
use Rattle.spf_region.proofs.Order.{StartsBy, EndsBy, Joins, starts-true, starts-false, ends-true, ends-false, starts-trans, before-starts, before-then, ends-before}
use Rattle.spf_region.proofs.Pairs.{hull-some, hull-none, Shares, SharesNothing, overlap-some, overlap-none, before-nothing}

abbrev StartsByEach : Range → List Range → Type 0
StartsByEach r [] = Unit {0}
StartsByEach r (s ∷ rest) = StartsBy r s × StartsByEach r rest

-- none is empty, and each begins no later than those after it
abbrev IsSorted : List Range → Type 0
IsSorted [] = Unit {0}
IsSorted (r ∷ rest) = IsFilled r × StartsByEach r rest × IsSorted rest

before-starts-each : (r : Range) (xs : List Range) → IsFilled r → IsBeforeEach r xs → StartsByEach r xs
before-starts-each r [] f h = tt
before-starts-each r (x ∷ xs) f h = (before-starts r x f h.0, before-starts-each r xs f h.1)

normal-sorted : (xs : List Range) → IsNormal xs → IsSorted xs
normal-sorted [] h = tt
normal-sorted (x ∷ xs) h = (h.0, before-starts-each x xs h.0 h.1, normal-sorted xs h.2)

starts-each-trans : (q r : Range) (xs : List Range) → StartsBy q r → StartsByEach r xs → StartsByEach q xs
starts-each-trans q r [] h e = tt
starts-each-trans q r (x ∷ xs) h e = (starts-trans q r x h e.0, starts-each-trans q r xs h e.1)

-- ---- interleaved

interleaved-each : (r : Range) (xs ys : List Range) → StartsByEach r xs → StartsByEach r ys → StartsByEach r (interleaved xs ys)
interleaved-each r [] ys p q = q
interleaved-each r (x ∷ xs) [] p q = p
interleaved-each r (x ∷ xs) (y ∷ ys) p q = go (starts_by x y) (interleaved-each r xs (y ∷ ys) p.1 q) (interleaved-each r (x ∷ xs) ys p q.1)
  where
    go : (t : Bool) → StartsByEach r (interleaved xs (y ∷ ys)) → StartsByEach r (interleaved (x ∷ xs) ys) → StartsByEach r (if t then x ∷ interleaved xs (y ∷ ys) else y ∷ interleaved (x ∷ xs) ys)
    go true u v = (p.0, u)
    go false u v = (q.0, v)

interleaved-sorted : (xs ys : List Range) → IsSorted xs → IsSorted ys → IsSorted (interleaved xs ys)
interleaved-sorted [] ys p q = q
interleaved-sorted (x ∷ xs) [] p q = p
interleaved-sorted (x ∷ xs) (y ∷ ys) p q = go (starts_by x y) refl (interleaved-sorted xs (y ∷ ys) p.2 q) (interleaved-sorted (x ∷ xs) ys p q.2)
  where
    go : (t : Bool) → starts_by x y ≡ t → IsSorted (interleaved xs (y ∷ ys)) → IsSorted (interleaved (x ∷ xs) ys) → IsSorted (if t then x ∷ interleaved xs (y ∷ ys) else y ∷ interleaved (x ∷ xs) ys)
    go true e u v =
        let first = starts-true x y e in
        (p.0, interleaved-each x xs (y ∷ ys) p.1 (first, starts-each-trans x y ys first q.1), u)
    go false e u v =
        let first = starts-false x y e in
        (q.0, interleaved-each y (x ∷ xs) ys (first, starts-each-trans y x xs first p.1) q.1, v)

interleaved-any : (t : Range → Bool) (xs ys : List Range) → list_any t (interleaved xs ys) ≡ (list_any t xs || list_any t ys)
interleaved-any t [] ys = refl
interleaved-any t (x ∷ xs) [] = or-false (list_any t (x ∷ xs))
  where
    or-false : (b : Bool) → b ≡ (b || false)
    or-false true = refl
    or-false false = refl
interleaved-any t (x ∷ xs) (y ∷ ys) = go (starts_by x y) (interleaved-any t xs (y ∷ ys)) (interleaved-any t (x ∷ xs) ys)
  where
    go : (b : Bool) → list_any t (interleaved xs (y ∷ ys)) ≡ (list_any t xs || list_any t (y ∷ ys)) → list_any t (interleaved (x ∷ xs) ys) ≡ (list_any t (x ∷ xs) || list_any t ys) →
        list_any t (if b then x ∷ interleaved xs (y ∷ ys) else y ∷ interleaved (x ∷ xs) ys) ≡ (list_any t (x ∷ xs) || list_any t (y ∷ ys))
    go true u v = ap (λ b. t x || b) u ∙ or-assoc (t x) (list_any t xs) (list_any t (y ∷ ys))
    go false u v = ap (λ b. t y || b) v ∙ or-swap (t y) (list_any t (x ∷ xs)) (list_any t ys)

-- ---- coalesced

-- the joined range has what either has
abbrev pub IsAdditive : (Range → Bool) → Type 0
IsAdditive t = (r s q : Range) → Joins r s q → t q ≡ (t r || t s)

wider-each : (r s q : Range) (xs : List Range) → Joins r s q → StartsByEach r xs → StartsByEach q xs
wider-each r s q [] j h = tt
wider-each r s q (x ∷ xs) j h = (j.starts x h.0, wider-each r s q xs j h.1)

coalesced-any : (t : Range → Bool) → IsAdditive t → (p : Range) (xs : List Range) → IsFilled p → StartsByEach p xs → IsSorted xs → list_any t (coalesced_after p xs) ≡ (t p || list_any t xs)
coalesced-any t add p [] f s o = refl
coalesced-any t add p (x ∷ xs) f s o =
    go (hull p x) refl (λ w fw sw. coalesced-any t add w xs fw sw o.2) (coalesced-any t add x xs o.0 o.1 o.2)
  where
    go : (h : Option Range) → hull p x ≡ h → ((w : Range) → IsFilled w → StartsByEach w xs → list_any t (coalesced_after w xs) ≡ (t w || list_any t xs)) → list_any t (coalesced_after x xs) ≡ (t x || list_any t xs) →
        list_any t (joined_or h (λ wider. coalesced_after wider xs) (p ∷ coalesced_after x xs)) ≡ (t p || (t x || list_any t xs))
    go (Some w) e wide apart =
        let j = hull-some p x w f o.0 s.0 e in
        wide w j.filled (wider-each p x w xs j s.1) ∙ ap (λ b. b || list_any t xs) (add p x w j) ∙ sym (or-assoc (t p) (t x) (list_any t xs))
    go None e wide apart = ap (λ b. t p || b) apart

coalesced-before : (q p : Range) (xs : List Range) → IsBefore q p → IsFilled p → StartsByEach p xs → IsSorted xs → IsBeforeEach q (coalesced_after p xs)
coalesced-before q p [] b f s o = (b, tt)
coalesced-before q p (x ∷ xs) b f s o =
    go (hull p x) refl (λ w bw fw sw. coalesced-before q w xs bw fw sw o.2) (λ bx. coalesced-before q x xs bx o.0 o.1 o.2)
  where
    go : (h : Option Range) → hull p x ≡ h → ((w : Range) → IsBefore q w → IsFilled w → StartsByEach w xs → IsBeforeEach q (coalesced_after w xs)) → (IsBefore q x → IsBeforeEach q (coalesced_after x xs)) →
        IsBeforeEach q (joined_or h (λ wider. coalesced_after wider xs) (p ∷ coalesced_after x xs))
    go (Some w) e wide apart =
        let j = hull-some p x w f o.0 s.0 e in
        wide w (j.follows q b) j.filled (wider-each p x w xs j s.1)
    go None e wide apart = (b, apart (before-then q p x b s.0))

coalesced-normal : (p : Range) (xs : List Range) → IsFilled p → StartsByEach p xs → IsSorted xs → IsNormal (coalesced_after p xs)
coalesced-normal p [] f s o = (f, tt, tt)
coalesced-normal p (x ∷ xs) f s o =
    go (hull p x) refl (λ w fw sw. coalesced-normal w xs fw sw o.2) (coalesced-normal x xs o.0 o.1 o.2)
  where
    go : (h : Option Range) → hull p x ≡ h → ((w : Range) → IsFilled w → StartsByEach w xs → IsNormal (coalesced_after w xs)) → IsNormal (coalesced_after x xs) →
        IsNormal (joined_or h (λ wider. coalesced_after wider xs) (p ∷ coalesced_after x xs))
    go (Some w) e wide apart =
        let j = hull-some p x w f o.0 s.0 e in
        wide w j.filled (wider-each p x w xs j s.1)
    go None e wide apart = (f, coalesced-before p x xs (hull-none p x s.0 e) o.0 o.1 o.2, apart)

-- ---- merged

pub merged-normal : (xs ys : List Range) → IsNormal xs → IsNormal ys → IsNormal (coalesced (interleaved xs ys))
merged-normal xs ys p q = go (interleaved xs ys) (interleaved-sorted xs ys (normal-sorted xs p) (normal-sorted ys q))
  where
    go : (zs : List Range) → IsSorted zs → IsNormal (coalesced zs)
    go [] o = tt
    go (z ∷ zs) o = coalesced-normal z zs o.0 o.1 o.2

merged-any : (t : Range → Bool) → IsAdditive t → (xs ys : List Range) → IsNormal xs → IsNormal ys → list_any t (coalesced (interleaved xs ys)) ≡ (list_any t xs || list_any t ys)
merged-any t add xs ys p q = go (interleaved xs ys) (interleaved-sorted xs ys (normal-sorted xs p) (normal-sorted ys q)) ∙ interleaved-any t xs ys
  where
    go : (zs : List Range) → IsSorted zs → list_any t (coalesced zs) ≡ list_any t zs
    go [] o = refl
    go (z ∷ zs) o = coalesced-any t add z zs o.0 o.1 o.2

pub merged-offsets : (xs ys : List Range) → IsNormal xs → IsNormal ys → offsets_of (coalesced (interleaved xs ys)) ≡ in_either (offsets_of xs) (offsets_of ys)
merged-offsets xs ys p q = λ j a f o. merged-any (λ r. has_offset r a f o) (λ r s x h. h.offsets a f o) xs ys p q j

pub merged-wholes : (xs ys : List Range) → IsNormal xs → IsNormal ys → wholes_of (coalesced (interleaved xs ys)) ≡ whole_in_either (wholes_of xs) (wholes_of ys)
merged-wholes xs ys p q = λ j a. merged-any (λ r. is_whole r a) (λ r s x h. h.wholes a) xs ys p q j

pub merged-arrays : (xs ys : List Range) → IsNormal xs → IsNormal ys → has_array (coalesced (interleaved xs ys)) ≡ whole_in_either (has_array xs) (has_array ys)
merged-arrays xs ys p q = λ j a. merged-any (λ r. array_of r == a) (λ r s x h. h.arrays a) xs ys p q j

-- ---- met

met-before-left : (q : Range) (xs ys : List Range) → IsBeforeEach q xs → IsBeforeEach q (met xs ys)
met-before-left q [] ys b = tt
met-before-left q (x ∷ xs) [] b = tt
met-before-left q (x ∷ xs) (y ∷ ys) b = go (overlap x y) (ends_by x y) refl (met-before-left q xs (y ∷ ys) b.1) (met-before-left q (x ∷ xs) ys b)
  where
    go : (h : Option Range) (t : Bool) → overlap x y ≡ h → IsBeforeEach q (met xs (y ∷ ys)) → IsBeforeEach q (met (x ∷ xs) ys) → IsBeforeEach q (preceded h (if t then met xs (y ∷ ys) else met (x ∷ xs) ys))
    go (Some r) true e u v = ((overlap-some x y r e).left_follows q b.0, u)
    go (Some r) false e u v = ((overlap-some x y r e).left_follows q b.0, v)
    go None true e u v = u
    go None false e u v = v

met-before-right : (q : Range) (xs ys : List Range) → IsBeforeEach q ys → IsBeforeEach q (met xs ys)
met-before-right q [] ys b = tt
met-before-right q (x ∷ xs) [] b = tt
met-before-right q (x ∷ xs) (y ∷ ys) b = go (overlap x y) (ends_by x y) refl (met-before-right q xs (y ∷ ys) b) (met-before-right q (x ∷ xs) ys b.1)
  where
    go : (h : Option Range) (t : Bool) → overlap x y ≡ h → IsBeforeEach q (met xs (y ∷ ys)) → IsBeforeEach q (met (x ∷ xs) ys) → IsBeforeEach q (preceded h (if t then met xs (y ∷ ys) else met (x ∷ xs) ys))
    go (Some r) true e u v = ((overlap-some x y r e).right_follows q b.0, u)
    go (Some r) false e u v = ((overlap-some x y r e).right_follows q b.0, v)
    go None true e u v = u
    go None false e u v = v

leads-left : (r s q : Range) (xs : List Range) → Shares r s q → IsBeforeEach r xs → IsBeforeEach q xs
leads-left r s q [] h b = tt
leads-left r s q (x ∷ xs) h b = (h.left_leads x b.0, leads-left r s q xs h b.1)

leads-right : (r s q : Range) (xs : List Range) → Shares r s q → IsBeforeEach s xs → IsBeforeEach q xs
leads-right r s q [] h b = tt
leads-right r s q (x ∷ xs) h b = (h.right_leads x b.0, leads-right r s q xs h b.1)

pub met-normal : (xs ys : List Range) → IsNormal xs → IsNormal ys → IsNormal (met xs ys)
met-normal [] ys p q = tt
met-normal (x ∷ xs) [] p q = tt
met-normal (x ∷ xs) (y ∷ ys) p q = go (overlap x y) (ends_by x y) refl (met-normal xs (y ∷ ys) p.2 q) (met-normal (x ∷ xs) ys p q.2)
  where
    go : (h : Option Range) (t : Bool) → overlap x y ≡ h → IsNormal (met xs (y ∷ ys)) → IsNormal (met (x ∷ xs) ys) → IsNormal (preceded h (if t then met xs (y ∷ ys) else met (x ∷ xs) ys))
    go (Some r) true e u v = let s = overlap-some x y r e in (s.filled, met-before-left r xs (y ∷ ys) (leads-left x y r xs s p.1), u)
    go (Some r) false e u v = let s = overlap-some x y r e in (s.filled, met-before-right r (x ∷ xs) ys (leads-right x y r ys s q.1), v)
    go None true e u v = u
    go None false e u v = v

-- the common range has what both have, and where there is none they have nothing in common
pub record IsCommon (t : Range → Bool) : Type 0 where
  pub both : (r s q : Range) → Shares r s q → t q ≡ (t r && t s)
  pub none : (r s : Range) → SharesNothing r s → (t r && t s) ≡ false

nothing-each : (t : Range → Bool) → IsCommon t → (r : Range) (xs : List Range) → IsBeforeEach r xs → (t r && list_any t xs) ≡ false
nothing-each t c r [] b = and-false (t r)
  where
    and-false : (x : Bool) → (x && false) ≡ false
    and-false true = refl
    and-false false = refl
nothing-each t c r (x ∷ xs) b = go (t r) (t x) (list_any t xs) (c.none r x (before-nothing r x b.0)) (nothing-each t c r xs b.1)
  where
    go : (u v w : Bool) → (u && v) ≡ false → (u && w) ≡ false → (u && (v || w)) ≡ false
    go true true w e f = e
    go true false w e f = f
    go false v w e f = refl

ends-before-each : (q r : Range) (xs : List Range) → EndsBy q r → IsBeforeEach r xs → IsBeforeEach q xs
ends-before-each q r [] e b = tt
ends-before-each q r (x ∷ xs) e b = (ends-before q r x e b.0, ends-before-each q r xs e b.1)

met-any : (t : Range → Bool) → IsCommon t → (xs ys : List Range) → IsNormal xs → IsNormal ys → list_any t (met xs ys) ≡ (list_any t xs && list_any t ys)
met-any t c [] ys p q = refl
met-any t c (x ∷ xs) [] p q = and-none (list_any t (x ∷ xs))
  where
    and-none : (b : Bool) → false ≡ (b && false)
    and-none true = refl
    and-none false = refl
met-any t c (x ∷ xs) (y ∷ ys) p q = go (overlap x y) (ends_by x y) refl refl (met-any t c xs (y ∷ ys) p.2 q) (met-any t c (x ∷ xs) ys p q.2)
  where
    left : (a a2 b b2 : Bool) → (a && b2) ≡ false → ((a && b) || (a2 && (b || b2))) ≡ ((a || a2) && (b || b2))
    left true a2 true b2 e = refl
    left true true false b2 e = refl
    left true false false b2 e = sym e
    left false a2 b b2 e = refl

    right : (a a2 b b2 : Bool) → (b && a2) ≡ false → ((a && b) || ((a || a2) && b2)) ≡ ((a || a2) && (b || b2))
    right true a2 true b2 e = refl
    right true a2 false b2 e = refl
    right false a2 true b2 e = rw e refl
    right false a2 false b2 e = refl

    preceded-any : (h : Option Range) (rest : List Range) → overlap x y ≡ h → list_any t (preceded h rest) ≡ ((t x && t y) || list_any t rest)
    preceded-any (Some r) rest e = ap (λ b. b || list_any t rest) (c.both x y r (overlap-some x y r e))
    preceded-any None rest e = ap (λ b. b || list_any t rest) (sym (c.none x y (overlap-none x y e)))

    go : (h : Option Range) (b : Bool) → overlap x y ≡ h → ends_by x y ≡ b → list_any t (met xs (y ∷ ys)) ≡ (list_any t xs && list_any t (y ∷ ys)) → list_any t (met (x ∷ xs) ys) ≡ (list_any t (x ∷ xs) && list_any t ys) →
        list_any t (preceded h (if b then met xs (y ∷ ys) else met (x ∷ xs) ys)) ≡ (list_any t (x ∷ xs) && list_any t (y ∷ ys))
    go h true e d u v =
        let apart = nothing-each t c x ys (ends-before-each x y ys (ends-true x y d) q.1) in
        preceded-any h _ e ∙ ap (λ b. (t x && t y) || b) u ∙ left (t x) (list_any t xs) (t y) (list_any t ys) apart
    go h false e d u v =
        let apart = nothing-each t c y xs (ends-before-each y x xs (ends-false x y d) p.1) in
        preceded-any h _ e ∙ ap (λ b. (t x && t y) || b) v ∙ right (t x) (list_any t xs) (t y) (list_any t ys) apart

pub met-offsets : (xs ys : List Range) → IsNormal xs → IsNormal ys → offsets_of (met xs ys) ≡ in_both (offsets_of xs) (offsets_of ys)
met-offsets xs ys p q = λ j a f o. met-any (λ r. has_offset r a f o) (record { both = λ r s x h. h.offsets a f o; none = λ r s h. h.offsets a f o }) xs ys p q j

pub met-wholes : (xs ys : List Range) → IsNormal xs → IsNormal ys → wholes_of (met xs ys) ≡ whole_in_both (wholes_of xs) (wholes_of ys)
met-wholes xs ys p q = λ j a. met-any (λ r. is_whole r a) (record { both = λ r s x h. h.wholes a; none = λ r s h. h.wholes a }) xs ys p q j

-- ---- one more range

or-false : (b : Bool) → (b || false) ≡ b
or-false true = refl
or-false false = refl

single-normal : (r : Range) → is_empty r ≡ false → IsNormal (r ∷ [])
single-normal (Whole a) e = (tt, tt, tt)
single-normal (Affine a f l h) e = (grind (arith, ints, e), tt, tt)

pub added-offsets : (r : Range) (xs : List Range) → is_empty r ≡ false → IsNormal xs → offsets_of (coalesced (interleaved (r ∷ []) xs)) ≡ joined r (offsets_of xs)
added-offsets r xs e q = merged-offsets (r ∷ []) xs (single-normal r e) q ∙ (λ j a f o. or-false (has_offset r a f o) j || offsets_of xs a f o)

pub added-wholes : (r : Range) (xs : List Range) → is_empty r ≡ false → IsNormal xs → wholes_of (coalesced (interleaved (r ∷ []) xs)) ≡ whole_joined r (wholes_of xs)
added-wholes r xs e q = merged-wholes (r ∷ []) xs (single-normal r e) q ∙ (λ j a. or-false (is_whole r a) j || wholes_of xs a)

pub added-arrays : (r : Range) (xs : List Range) → is_empty r ≡ false → IsNormal xs → has_array (coalesced (interleaved (r ∷ []) xs)) ≡ array_joined r (has_array xs)
added-arrays r xs e q = merged-arrays (r ∷ []) xs (single-normal r e) q ∙ (λ j a. (or-false (array_of r == a) ∙ sym (ap (λ b. not b && (array_of r == a)) e)) j || has_array xs a)

pub empty-arrays : (r : Range) (w : Arrays) → is_empty r ≡ true → w ≡ array_joined r w
empty-arrays r w e = λ j a. sym (ap (λ b. (not b && (array_of r == a)) || w a) e) j

pub added-normal : (r : Range) (xs : List Range) → is_empty r ≡ false → IsNormal xs → IsNormal (coalesced (interleaved (r ∷ []) xs))
added-normal r xs e q = merged-normal (r ∷ []) xs (single-normal r e) q

-- an empty range adds nothing
pub empty-offsets : (r : Range) (w : Offsets) → is_empty r ≡ true → w ≡ joined r w
empty-offsets (Whole a) w e = cc
empty-offsets (Affine a f l h) w e = λ j b g o. ap (λ t. t || w b g o) (sym (none b g o)) j
  where
    none : (b : ℕ) (g o : ℤ) → has_offset (Affine a f l h) b g o ≡ false
    none b g o = grind (arith, ints, e)

pub empty-wholes : (r : Range) (w : Arrays) → is_empty r ≡ true → w ≡ whole_joined r w
empty-wholes (Whole a) w e = cc
empty-wholes (Affine a f l h) w e = refl

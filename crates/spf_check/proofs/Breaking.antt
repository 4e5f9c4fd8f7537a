-- What it means for a construct that a rule is found broken, or isn't.
use Rattle.std.proofs.Common.{◌≡◌, inl, inr, ℕ, Bool, true, false, not, List, [], ◌∷◌, Option, Some, None, ℤ, refl, sym, ap, ◌∙◌, subst, arith, Contains}
use Rattle.std.specs.Prelude.{◌==◌, ◌||◌, ◌≤ℤ◌, find, slice_get, MatchOption}
use Rattle.std.specs.List.{list_any}
use Rattle.spf_ast.specs.declared.syntax.Part.{Part}
use Rattle.spf_ast.specs.declared.syntax.Part.TheVariants.{Body, Producer, Consumer, Predictor}
use Rattle.spf_ast.specs.Syntax.{Program}
use Rattle.spf_ast.specs.Construct.{Construct, fold, pair}
use Rattle.spf_region.specs.declared.range.Range.{Range}
use Rattle.spf_region.specs.declared.range.Range.TheVariants.{Whole, Affine}
use Rattle.spf_region.specs.Ranges.{array_of, has_array, has_offset, is_whole, offsets_of, wholes_of, covers, separate, disjoint, first_unseparated, first_meeting, IsNormal}
use Rattle.spf_region.specs.Laws.{HasEntry, AreSeparate}
use Rattle.spf_region.proofs.Bools.{or-cases, or-left, or-right}
use Rattle.spf_region.proofs.Covers.{has-parts, has-of, covers-each, each-covers}
use Rattle.spf_region.proofs.Entries.{arrays-of, separate-offsets, disjoint-offsets}
use Rattle.spf_region.proofs.Canonical.{one-form}
use Rattle.spf_effects_findings.specs.Found.{nowhere}
use Rattle.spf_effects.specs.declared.effects.Effects.{Effects}
use Rattle.spf_effects_findings.specs.Parts.{PartEffects, part_effects}
use Rattle.spf_effects.specs.Effects.{AreEffects}
use Rattle.spf_check_rules.specs.Rules.{IsBlockPart, guessed_part, may_write, reads_bare, HasArray, IsWritten, ShareNothing, WritesAll}
use Rattle.spf_ast_lemmas.proofs.Members.{cases, first-in, none-in}
use Rattle.spf_check.specs.declared.breach.Breach.{Breach}
use Rattle.spf_check.specs.declared.construct.ConstructEffects.{ConstructEffects}
use Rattle.spf_check.specs.declared.rule.Rule.{Rule}
use Rattle.spf_check.specs.declared.rule.Rule.TheVariants.{OuterAssign, EmitInside, PredictorWrites, Overlap, PredictorReads, ReadBeforeWrite, NotOverwritten}
use Rattle.spf_check.specs.Accepting.{Keeps, Names, IsFirst, IsNormalFormOf, Overlaps}
use Rattle.spf_check.specs.Breaches.{breach, plain, by_range, is_written, of_producer, assigns_outer, emits_inside, meets, overlap, first_overlap}
use Rattle.spf_check.specs.Parts.{AreEffectsOf, IsProducerOf, AreNormal}
use Rattle.spf_check.proofs.Lists.{any-there, any-of, none-any, find-none, none-find, find-some, found-there}

-- ---- lists in normal form

-- the list of the analysis is the normal form of the list that is found
normal-may : (e : Effects) (f : PartEffects) → AreEffects f e → IsNormal e.may → IsNormalFormOf f.may e.may
normal-may e f h n = record { is_normal = n; offsets = h.may; wholes = h.may_wholes }

normal-bare : (e : Effects) (f : PartEffects) → AreEffects f e → IsNormal e.uncovered → IsNormalFormOf f.uncovered e.uncovered
normal-bare e f h n = record { is_normal = n; offsets = h.uncovered; wholes = h.uncovered_wholes }

-- an array of a list is that of a range of its normal form
array-there : (list xs : List Range) (a : ℕ) → IsNormalFormOf list xs → HasArray list a → (r : Range) × Contains xs r × (array_of r ≡ a)
array-there list xs a n (inl w) =
    let h = any-there (λ r. is_whole r a) xs (ap (λ f. f a) n.wholes ∙ w) in (h.0, h.1, of-whole h.0 h.2)
  where
    of-whole : (r : Range) → is_whole r a ≡ true → array_of r ≡ a
    of-whole (Whole b) e = grind (arith, e)
    of-whole (Affine b f l h) e = cc
array-there list xs a n (inr (f, o, w)) =
    let h = any-there (λ r. has_offset r a f o) xs (ap (λ g. g a f o) n.offsets ∙ w) in (h.0, h.1, of-offset h.0 h.2)
  where
    of-offset : (r : Range) → has_offset r a f o ≡ true → array_of r ≡ a
    of-offset (Whole b) e = cc
    of-offset (Affine b g l h) e = let p = has-parts b g l h a f o e in sym p.0

-- as a test on the normal form
array-is : (list xs : List Range) (a : ℕ) → IsNormalFormOf list xs → HasArray list a → has_array xs a ≡ true
array-is list xs a n h = let r = array-there list xs a n h in any-of (λ s. array_of s == a) xs r.0 r.1 (same r.0 r.2)
  where
    same : (r : Range) → array_of r ≡ a → (array_of r == a) ≡ true
    same r e = grind (arith, e)

pub is-array : (list xs : List Range) (a : ℕ) → IsNormalFormOf list xs → has_array xs a ≡ true → HasArray list a
is-array list xs a n h = go ((arrays-of xs a n.is_normal).0 h)
  where
    go : HasEntry (offsets_of xs) (wholes_of xs) a → HasArray list a
    go (inl w) = inl (sym (ap (λ f. f a) n.wholes) ∙ w)
    go (inr (f, o, w)) = inr (f, o, sym (ap (λ g. g a f o) n.offsets) ∙ w)

itself : (a : ℕ) → (a == a) ≡ true
itself a = grind arith

-- and each range of a normal form has its array
there-array : (list xs : List Range) (r : Range) → IsNormalFormOf list xs → Contains xs r → HasArray list (array_of r)
there-array list xs r n i = is-array list xs (array_of r) n (any-of (λ s. array_of s == array_of r) xs r i (itself (array_of r)))

-- the first range that passes a test
pub first-is : (list xs : List Range) (t : Range → Bool) (Holds : Range → Type 0) (r : Range) → IsNormalFormOf list xs → ((s : Range) → t s ≡ true → Holds s) → ((s : Range) → t s ≡ false → Holds s → ⊥) → find t xs ≡ Some r → IsFirst list Holds r
first-is list xs t Holds r n holds not' e =
    let f = find-some t xs r e in
    record {
      before = f.before;
      later = f.later;
      normal = subst (IsNormalFormOf list) f.parts n;
      holds = holds r f.passes;
      none_before = λ s i. not' s (f.others s i);
    }

-- ---- what is said of a rule

-- what is found of a rule: it is kept, or it is broken and a range is named
abbrev pub Said : Program → Construct → Rule → Option Breach → Type 0
Said p k rule None = Keeps p k rule
Said p k rule (Some b) = (Keeps p k rule → ⊥) × Names p k rule b.range

-- a rule that isn't about ranges
said-plain : (p : Program) (k : Construct) (rule : Rule) (b : Bool) → (b ≡ false → Keeps p k rule) → (b ≡ true → Keeps p k rule → ⊥) → Names p k rule None → Said p k rule (plain b)
said-plain p k rule true kept broken names = (broken refl, names)
said-plain p k rule false kept broken names = kept refl

-- a rule about ranges
said-range : (p : Program) (k : Construct) (rule : Rule) (o : Option Range) → (o ≡ None → Keeps p k rule) → ((r : Range) → o ≡ Some r → (Keeps p k rule → ⊥) × Names p k rule (Some r)) → Said p k rule (by_range o)
said-range p k rule None kept broken = kept refl
said-range p k rule (Some r) kept broken = broken r refl

-- ---- flags

neither : (x y : Bool) → (x || y) ≡ false → (x ≡ false) × (y ≡ false)
neither true y e = cc
neither false y e = (refl, e)

-- what block parts answer to a question
abbrev NoPart : Program → Construct → (PartEffects → Bool) → Type 0
NoPart p k field = (part : Part) → IsBlockPart part → field (part_effects p k part) ≡ false

flags-kept : (p : Program) (k : Construct) (c : ConstructEffects) (ask : Effects → Bool) (field : PartEffects → Bool) → ((e : Effects) (f : PartEffects) → AreEffects f e → ask e ≡ field f) → ((f : PartEffects) → f.must ≡ nowhere → f.emits ≡ false → f.assigns_outer ≡ false → field f ≡ false) → AreEffectsOf p k c → (ask c.guessed || of_producer c.producer ask) ≡ false → NoPart p k field
flags-kept p (fold line head body) c ask field same absent are e Body block = sym (same _ _ are.guessed) ∙ (neither (ask c.guessed) _ e).0
flags-kept p (fold line head body) c ask field same absent are e Producer block = absent _ refl refl refl
flags-kept p (fold line head body) c ask field same absent are e Consumer block = absent _ refl refl refl
flags-kept p (fold line head body) c ask field same absent are e Predictor block = absurd block
flags-kept p (pair line head producer consumer) c ask field same absent are e Body block = absent _ refl refl refl
flags-kept p (pair line head producer consumer) c ask field same absent are e Producer block = go c.producer are.producer (neither (ask c.guessed) _ e).1
  where
    go : (o : Option Effects) → IsProducerOf p (pair line head producer consumer) o → of_producer o ask ≡ false → field (part_effects p (pair line head producer consumer) Producer) ≡ false
    go None is e = absurd is
    go (Some f) is e = sym (same _ _ is) ∙ e
flags-kept p (pair line head producer consumer) c ask field same absent are e Consumer block = sym (same _ _ are.guessed) ∙ (neither (ask c.guessed) _ e).0
flags-kept p (pair line head producer consumer) c ask field same absent are e Predictor block = absurd block

guessed-block : (k : Construct) → IsBlockPart (guessed_part k)
guessed-block (fold line head body) = tt
guessed-block (pair line head producer consumer) = tt

flags-broken : (p : Program) (k : Construct) (c : ConstructEffects) (ask : Effects → Bool) (field : PartEffects → Bool) → ((e : Effects) (f : PartEffects) → AreEffects f e → ask e ≡ field f) → AreEffectsOf p k c → (ask c.guessed || of_producer c.producer ask) ≡ true → NoPart p k field → ⊥
flags-broken p k c ask field same are e none = cases (or-cases (ask c.guessed) _ e) one (other k c.producer are.producer none)
  where
    one : ask c.guessed ≡ true → ⊥
    one t = let n = none (guessed_part k) (guessed-block k) in let s = same _ _ are.guessed in cc

    other : (k : Construct) (o : Option Effects) → IsProducerOf p k o → NoPart p k field → of_producer o ask ≡ true → ⊥
    other k None is none t = cc
    other (fold line head body) (Some f) is none t = absurd is
    other (pair line head producer consumer) (Some f) is none t = let n = none Producer tt in let s = same _ _ is in cc

outer-same : (e : Effects) (f : PartEffects) → AreEffects f e → e.assigns_outer ≡ f.assigns_outer
outer-same e f h = h.assigns_outer

emits-same : (e : Effects) (f : PartEffects) → AreEffects f e → e.emits ≡ f.emits
emits-same e f h = h.emits

-- ---- written arrays

no-array : (a : ℕ) → HasArray [] a → ⊥
no-array a (inl w) = cc
no-array a (inr (f, o, w)) = cc

written-of : (p : Program) (k : Construct) (c : ConstructEffects) (a : ℕ) → AreNormal c → AreEffectsOf p k c → is_written c a ≡ true → IsWritten p k a
written-of p k c a n are e = cases (or-cases (has_array c.guessed.may a) _ e) one (other k c.producer n.producer are.producer)
  where
    one : has_array c.guessed.may a ≡ true → IsWritten p k a
    one t = record { part = guessed_part k; is_block_part = guessed-block k; entry = is-array _ c.guessed.may a (normal-may c.guessed _ are.guessed n.may) t }

    other : (k : Construct) (o : Option Effects) → MatchOption o (Unit {0}) (λ e. IsNormal e.may × IsNormal e.uncovered × IsNormal e.must) → IsProducerOf p k o → of_producer o (λ e. has_array e.may a) ≡ true → IsWritten p k a
    other k None m is t = cc
    other (fold line head body) (Some f) m is t = absurd is
    other (pair line head producer consumer) (Some f) m is t =
        record { part = Producer; is_block_part = tt; entry = is-array _ f.may a (normal-may f _ is m.0) t }

is-written : (p : Program) (k : Construct) (c : ConstructEffects) (a : ℕ) → AreNormal c → AreEffectsOf p k c → IsWritten p k a → is_written c a ≡ true
is-written p k c a n are w = go k w.part w.is_block_part w.entry are.guessed are.producer
  where
    one : (list : List Range) → IsNormalFormOf list c.guessed.may → HasArray list a → is_written c a ≡ true
    one list m h = or-left _ _ (array-is list c.guessed.may a m h)

    two : (k : Construct) (o : Option Effects) → MatchOption o (Unit {0}) (λ e. IsNormal e.may × IsNormal e.uncovered × IsNormal e.must) → (h : Effects → Type 0) → MatchOption o ⊥ h → ((e : Effects) → h e → IsNormal e.may → has_array e.may a ≡ true) → of_producer o (λ e. has_array e.may a) ≡ true
    two k None m h is f = absurd is
    two k (Some e) m h is f = f e is m.0

    of-pair : (line : ℕ) (head : _) (producer consumer : _) (o : Option Effects) → MatchOption o (Unit {0}) (λ e. IsNormal e.may × IsNormal e.uncovered × IsNormal e.must) → IsProducerOf p (pair line head producer consumer) o → HasArray (may_write p (pair line head producer consumer) Producer) a → of_producer o (λ e. has_array e.may a) ≡ true
    of-pair line head producer consumer None m is h = absurd is
    of-pair line head producer consumer (Some e) m is h = array-is _ e.may a (normal-may e _ is m.0) h

    go : (k : Construct) (part : Part) → IsBlockPart part → HasArray (may_write p k part) a → AreEffects (part_effects p k (guessed_part k)) c.guessed → IsProducerOf p k c.producer → is_written c a ≡ true
    go (fold line head body) Body block h g is = one _ (normal-may c.guessed _ g n.may) h
    go (fold line head body) Producer block h g is = absurd (no-array a h)
    go (fold line head body) Consumer block h g is = absurd (no-array a h)
    go (fold line head body) Predictor block h g is = absurd block
    go (pair line head producer consumer) Body block h g is = absurd (no-array a h)
    go (pair line head producer consumer) Producer block h g is = or-right (has_array c.guessed.may a) _ (of-pair line head producer consumer c.producer n.producer is h)
    go (pair line head producer consumer) Consumer block h g is = one _ (normal-may c.guessed _ g n.may) h
    go (pair line head producer consumer) Predictor block h g is = absurd block

not-written : (p : Program) (k : Construct) (c : ConstructEffects) (a : ℕ) → AreNormal c → AreEffectsOf p k c → is_written c a ≡ false → IsWritten p k a → ⊥
not-written p k c a n are e w = let t = is-written p k c a n are w in cc

-- a list of which no range, or one, is of a written array
nothing-written : (p : Program) (k : Construct) (c : ConstructEffects) (list xs : List Range) → AreNormal c → AreEffectsOf p k c → IsNormalFormOf list xs → find (λ r. is_written c (array_of r)) xs ≡ None → (a : ℕ) → HasArray list a → IsWritten p k a → ⊥
nothing-written p k c list xs n are m e a h w =
    let r = array-there list xs a m h in
    find-none (λ s. is_written c (array_of s)) xs r.0 e r.1 (is-written p k c (array_of r.0) n are (subst (IsWritten p k) (sym r.2) w))

something-written : (p : Program) (k : Construct) (c : ConstructEffects) (list xs : List Range) (r : Range) → AreNormal c → AreEffectsOf p k c → IsNormalFormOf list xs → find (λ s. is_written c (array_of s)) xs ≡ Some r → (((a : ℕ) → HasArray list a → IsWritten p k a → ⊥) → ⊥) × IsFirst list (λ s. IsWritten p k (array_of s)) r
something-written p k c list xs r n are m e = (
  λ kept. kept (array_of r) (there-array list xs r m (found-there _ xs r e)) (written-of p k c (array_of r) n are (find-some _ xs r e).passes),
  first-is list xs (λ s. is_written c (array_of s)) (λ s. IsWritten p k (array_of s)) r m
      (λ s t. written-of p k c (array_of s) n are t)
      (λ s t. not-written p k c (array_of s) n are t)
      e,
)

-- ---- what a predictor writes

first-of : (xs : List Range) → slice_get xs 0 ≡ None → xs ≡ []
first-of [] e = refl
first-of (x ∷ xs) e = cc

predictor-said : (p : Program) (k : Construct) (list xs : List Range) → list ≡ may_write p k Predictor → IsNormalFormOf list xs → Said p k PredictorWrites (by_range (slice_get xs 0))
predictor-said p k list [] is m = λ a h. let r = array-there list [] a m (subst (λ l. HasArray l a) (sym is) h) in none-in r.0 r.1
predictor-said p k list (x ∷ xs) is m = (
  λ kept. kept (array_of x) (subst (λ l. HasArray l (array_of x)) is (there-array list (x ∷ xs) x m (first-in x xs))),
  subst (λ l. IsFirst l (λ r. Unit {0}) x) is (record { before = []; later = xs; normal = m; holds = tt; none_before = λ s i. absurd (none-in s i) }),
)

-- ---- overlaps

not-true : (b : Bool) → not b ≡ true → b ≡ false
not-true true e = cc
not-true false e = refl

not-false : (b : Bool) → b ≡ false → not b ≡ true
not-false true e = cc
not-false false e = refl

unseparated-said : (p : Program) (line : ℕ) (head : _) (body : _) (xs : List Range) → IsNormalFormOf (may_write p (fold line head body) Body) xs → Said p (fold line head body) Overlap (by_range (first_unseparated xs))
unseparated-said p line head body xs m = said-range p k Overlap (first_unseparated xs) kept broken
  where
    k : Construct
    k = fold line head body

    list : List Range
    list = may_write p k Body

    t : Range → Bool
    t r = list_any (λ s. not (separate r s)) xs

    kept : first_unseparated xs ≡ None → Keeps p k Overlap
    kept e =
        let h = (separate-offsets xs m.is_normal).0 e in
        subst (λ w. AreSeparate (offsets_of list) w) m.wholes (subst (λ o. AreSeparate o (wholes_of xs)) m.offsets h)

    holds : (r : Range) → t r ≡ true → Overlaps p k r
    holds r e = let h = any-there (λ s. not (separate r s)) xs e in (h.0, record { ranges = xs; normal = m; is_there = h.1 }, not-true _ h.2)

    fails : (r : Range) → t r ≡ false → Overlaps p k r → ⊥
    fails r e (s, there, sep) =
        let same = one-form there.ranges xs there.normal.is_normal m.is_normal (there.normal.offsets ∙ sym m.offsets) (there.normal.wholes ∙ sym m.wholes) in
        none-any (λ s. not (separate r s)) xs s e (subst (λ l. Contains l s) same there.is_there) (not-false _ sep)

    broken : (r : Range) → first_unseparated xs ≡ Some r → (Keeps p k Overlap → ⊥) × Names p k Overlap (Some r)
    broken r e = (
      λ apart. let none = (separate-offsets xs m.is_normal).1 (subst (λ w. AreSeparate (offsets_of xs) w) (sym m.wholes) (subst (λ o. AreSeparate o (wholes_of list)) (sym m.offsets) apart)) in cc,
      first-is list xs t (Overlaps p k) r m holds fails e,
    )

-- two lists share nothing exactly where no range of one meets the other
shares-nothing : (one other xs ys : List Range) → IsNormalFormOf one xs → IsNormalFormOf other ys → first_meeting xs ys ≡ None → ShareNothing one other
shares-nothing one other xs ys m n e =
    let h = (disjoint-offsets xs ys m.is_normal n.is_normal).0 e in
    record {
      no_whole = λ a w i. h.no_whole a (ap (λ f. f a) m.wholes ∙ w) (array-is other ys a n i);
      no_other_whole = λ a i w. h.no_other_whole a (array-is one xs a m i) (ap (λ f. f a) n.wholes ∙ w);
      differ = λ a f g o q u v. h.differ a f g o q (ap (λ z. z a f o) m.offsets ∙ u) (ap (λ z. z a g q) n.offsets ∙ v);
    }

nothing-shared : (one other xs ys : List Range) → IsNormalFormOf one xs → IsNormalFormOf other ys → ShareNothing one other → first_meeting xs ys ≡ None
nothing-shared one other xs ys m n s = (disjoint-offsets xs ys m.is_normal n.is_normal).1 (record {
  no_whole = λ a w i. s.no_whole a (sym (ap (λ f. f a) m.wholes) ∙ w) (is-array other ys a n i);
  no_other_whole = λ a i w. s.no_other_whole a (is-array one xs a m i) (sym (ap (λ f. f a) n.wholes) ∙ w);
  differ = λ a f g o q u v. s.differ a f g o q (sym (ap (λ z. z a f o) m.offsets) ∙ u) (sym (ap (λ z. z a g q) n.offsets) ∙ v);
})

meeting-said : (p : Program) (line : ℕ) (head : _) (producer consumer : _) (xs ys zs : List Range) → IsNormalFormOf (may_write p (pair line head producer consumer) Consumer) xs → IsNormalFormOf (reads_bare p (pair line head producer consumer) Producer) ys → IsNormalFormOf (may_write p (pair line head producer consumer) Producer) zs → Said p (pair line head producer consumer) Overlap (by_range (find (λ r. meets r ys || meets r zs) xs))
meeting-said p line head producer consumer xs ys zs m n o = said-range p k Overlap (find t xs) kept broken
  where
    k : Construct
    k = pair line head producer consumer

    list : List Range
    list = may_write p k Consumer

    t : Range → Bool
    t r = meets r ys || meets r zs

    kept : find t xs ≡ None → Keeps p k Overlap
    kept e = (
      shares-nothing list (reads_bare p k Producer) xs ys m n (none-find (λ r. meets r ys) xs (λ r i h. find-none t xs r e i (or-left _ _ h))),
      shares-nothing list (may_write p k Producer) xs zs m o (none-find (λ r. meets r zs) xs (λ r i h. find-none t xs r e i (or-right (meets r ys) _ h))),
    )

    same-form : (l us vs : List Range) → IsNormalFormOf l us → IsNormalFormOf l vs → us ≡ vs
    same-form l us vs a b = one-form us vs a.is_normal b.is_normal (a.offsets ∙ sym b.offsets) (a.wholes ∙ sym b.wholes)

    holds : (r : Range) → t r ≡ true → Overlaps p k r
    holds r e = cases (or-cases (meets r ys) _ e)
        (λ h. let a = any-there (λ s. not (disjoint r s)) ys h in (a.0, inl (record { ranges = ys; normal = n; is_there = a.1 }), not-true _ a.2))
        (λ h. let a = any-there (λ s. not (disjoint r s)) zs h in (a.0, inr (record { ranges = zs; normal = o; is_there = a.1 }), not-true _ a.2))

    fails : (r : Range) → t r ≡ false → Overlaps p k r → ⊥
    fails r e (s, inl there, d) =
        none-any (λ s. not (disjoint r s)) ys s (neither (meets r ys) _ e).0 (subst (λ l. Contains l s) (same-form _ there.ranges ys there.normal n) there.is_there) (not-false _ d)
    fails r e (s, inr there, d) =
        none-any (λ s. not (disjoint r s)) zs s (neither (meets r ys) _ e).1 (subst (λ l. Contains l s) (same-form _ there.ranges zs there.normal o) there.is_there) (not-false _ d)

    clash : (r : Range) → find t xs ≡ Some r → Keeps p k Overlap → ⊥
    clash r e apart = cases (or-cases (meets r ys) _ (find-some t xs r e).passes)
        (λ h. find-none (λ r. meets r ys) xs r (nothing-shared list (reads_bare p k Producer) xs ys m n apart.0) (found-there t xs r e) h)
        (λ h. find-none (λ r. meets r zs) xs r (nothing-shared list (may_write p k Producer) xs zs m o apart.1) (found-there t xs r e) h)

    broken : (r : Range) → find t xs ≡ Some r → (Keeps p k Overlap → ⊥) × Names p k Overlap (Some r)
    broken r e = (clash r e, first-is list xs t (Overlaps p k) r m holds fails e)

overlap-said : (p : Program) (k : Construct) (c : ConstructEffects) → AreNormal c → AreEffectsOf p k c → Said p k Overlap (by_range (first_overlap c))
overlap-said p k c n are = go k c.producer n.producer are.guessed are.producer
  where
    go : (k : Construct) (o : Option Effects) → MatchOption o (Unit {0}) (λ e. IsNormal e.may × IsNormal e.uncovered × IsNormal e.must) → AreEffects (part_effects p k (guessed_part k)) c.guessed → IsProducerOf p k o → Said p k Overlap (by_range (overlap c.guessed.may o))
    go (fold line head body) None m g is = unseparated-said p line head body c.guessed.may (normal-may c.guessed _ g n.may)
    go (fold line head body) (Some e) m g is = absurd is
    go (pair line head producer consumer) None m g is = absurd is
    go (pair line head producer consumer) (Some e) m g is =
        meeting-said p line head producer consumer c.guessed.may e.uncovered e.may (normal-may c.guessed _ g n.may) (normal-bare e _ is m.1) (normal-may e _ is m.0)

-- ---- what isn't overwritten

never : (x : Bool) → (x ≡ true → ⊥) → x ≡ false
never true p = absurd (p refl)
never false p = refl

covered-said : (p : Program) (k : Construct) (xs must : List Range) → IsNormalFormOf (may_write p k (guessed_part k)) xs → offsets_of must ≡ (part_effects p k (guessed_part k)).must → Said p k NotOverwritten (by_range (find (λ r. not (covers (offsets_of must) r)) xs))
covered-said p k xs must m sure = said-range p k NotOverwritten (find t xs) kept broken
  where
    list : List Range
    list = may_write p k (guessed_part k)

    t : Range → Bool
    t r = not (covers (offsets_of must) r)

    held : (r : Range) → covers (offsets_of must) r ≡ covers (part_effects p k (guessed_part k)).must r
    held r = ap (λ o. covers o r) sure

    whole-covered : (r : Range) (a : ℕ) → is_whole r a ≡ true → t r ≡ true
    whole-covered (Whole b) a e = refl
    whole-covered (Affine b f l h) a e = cc

    offset-covered : (r : Range) (a : ℕ) (f o : ℤ) → has_offset r a f o ≡ true → (t r ≡ true → ⊥) → offsets_of must a f o ≡ true
    offset-covered (Whole b) a f o e out = cc
    offset-covered (Affine b g l h) a f o e out = go (covers (offsets_of must) (Affine b g l h)) refl (has-parts b g l h a f o e)
      where
        go : (x : Bool) → covers (offsets_of must) (Affine b g l h) ≡ x → (a ≡ b) × (f ≡ g) × (l ≤ℤ o) × (o ≤ℤ h) → offsets_of must a f o ≡ true
        go true q (ab, fg, low, high) = rw (ab, fg) (covers-each (offsets_of must) b g l h q o low high)
        go false q parts = absurd (out (ap not q))

    kept : find t xs ≡ None → WritesAll p k
    kept e = record {
      no_whole = λ a. never (wholes_of list a) (λ w. let r = any-there (λ s. is_whole s a) xs (ap (λ f. f a) m.wholes ∙ w) in find-none t xs r.0 e r.1 (whole-covered r.0 a r.2));
      sure = λ a f o w.
          let r = any-there (λ s. has_offset s a f o) xs (ap (λ g. g a f o) m.offsets ∙ w) in
          sym (ap (λ g. g a f o) sure) ∙ offset-covered r.0 a f o r.2 (λ passes. find-none t xs r.0 e r.1 passes);
    }

    clash : (r : Range) → Contains xs r → t r ≡ true → WritesAll p k → ⊥
    clash (Whole a) i passes all =
        let w : wholes_of xs a ≡ true = any-of (λ s. is_whole s a) xs (Whole a) i (itself a) in
        let n = all.no_whole a in let e = ap (λ f. f a) m.wholes in cc
    clash (Affine a f l h) i passes all =
        let covered = each-covers (offsets_of must) a f l h (λ o low high. ap (λ g. g a f o) sure ∙ all.sure a f o (sym (ap (λ g. g a f o) m.offsets) ∙ any-of (λ s. has_offset s a f o) xs (Affine a f l h) i (has-of a f l h o low high))) in
        let e = not-true _ passes in cc

    broken : (r : Range) → find t xs ≡ Some r → (Keeps p k NotOverwritten → ⊥) × Names p k NotOverwritten (Some r)
    broken r e = (
      clash r (found-there t xs r e) (find-some t xs r e).passes,
      first-is list xs t (λ s. covers (part_effects p k (guessed_part k)).must s ≡ false) r m
          (λ s q. sym (held s) ∙ not-true _ q)
          (λ s q c. let n = not-false _ (held s ∙ c) in cc)
          e,
    )

-- ---- all rules

pub said : (p : Program) (k : Construct) (c : ConstructEffects) → AreNormal c → AreEffectsOf p k c → (rule : Rule) → Said p k rule (breach c rule)
said p k c n are OuterAssign =
    said-plain p k OuterAssign (assigns_outer c)
    (flags-kept p k c (λ e. e.assigns_outer) (λ f. f.assigns_outer) outer-same (λ f must emits outer. outer) are)
    (flags-broken p k c (λ e. e.assigns_outer) (λ f. f.assigns_outer) outer-same are)
    refl
said p k c n are EmitInside =
    said-plain p k EmitInside (emits_inside c)
    (flags-kept p k c (λ e. e.emits) (λ f. f.emits) emits-same (λ f must emits outer. emits) are)
    (flags-broken p k c (λ e. e.emits) (λ f. f.emits) emits-same are)
    refl
said p k c n are PredictorWrites = predictor-said p k _ c.predictor.may refl (normal-may c.predictor _ are.predictor n.guess_may)
said p k c n are Overlap = overlap-said p k c n are
said p k c n are PredictorReads =
    let m = normal-bare c.predictor _ are.predictor n.guess_bare in
    said-range p k PredictorReads (find (λ r. is_written c (array_of r)) c.predictor.uncovered)
    (λ e. nothing-written p k c _ c.predictor.uncovered n are m e)
    (λ r e. something-written p k c _ c.predictor.uncovered r n are m e)
said p k c n are ReadBeforeWrite =
    let m = normal-bare c.guessed _ are.guessed n.bare in
    said-range p k ReadBeforeWrite (find (λ r. is_written c (array_of r)) c.guessed.uncovered)
    (λ e. nothing-written p k c _ c.guessed.uncovered n are m e)
    (λ r e. something-written p k c _ c.guessed.uncovered r n are m e)
said p k c n are NotOverwritten = covered-said p k c.guessed.may c.guessed.must (normal-may c.guessed _ are.guessed n.may) are.guessed.must

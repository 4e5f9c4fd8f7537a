-- The cells of spans are those that are in them, and ascending plans have none twice.
use Rattle.std.proofs.Common.{◌≡◌, ℕ, zero, suc, ◌+◌, ◌-◌, ◌<◌, ◌≤◌, Bool, true, false, List, [], ◌∷◌, ◌++◌, length, slice_get, Some, refl, sym, ap, ◌∙◌, arith, ◌⊎◌, inl, inr, ⊎_elim}
use Rattle.std.specs.Prelude.{nat_le, nat_lt}
use mathlib.Core.Option.{some, some-ne-none, some-injective}
use lib.ListN.{get_elem?}
use Rattle.spf_region.specs.declared.span.Span.{Span}
use Rattle.spf_region.specs.Cells.{in_span, in_spans, EndsBeforeEach, AreAscending}
use Rattle.spf_region.proofs.Bools.{and-left, and-right, both-true, or-cases, or-left, or-right}
use Rattle.spf_cells.specs.Spans.{consecutive, cells_of, cells_of_plan, Covers, IsDisjointWithin}
use Rattle.spf_cells.specs.Segments.{HasNoCellTwice}
use Rattle.spf_cells.specs.Laws.{IsAscendingPlan}
use Rattle.spf_cells.proofs.Spans.{below, length-consecutive, consecutive_at, consecutive_has, at_left, at_right, at_append}

in-span : (s : Span) (c : ℕ) → in_span s c ≡ true → (s.from ≤ c) × (c < s.to)
in-span s c h =
    let a : nat_le s.from c ≡ true = and-left _ _ h in
    let b : nat_lt c s.to ≡ true = and-right (nat_le s.from c) _ h in
    (grind (arith, a), grind (arith, b))

of-span : (s : Span) (c : ℕ) → s.from ≤ c → c < s.to → in_span s c ≡ true
of-span s c low high =
    let a : nat_le s.from c ≡ true = grind (arith, low) in
    let b : nat_lt c s.to ≡ true = grind (arith, high) in
    both-true _ _ a b

pub spans-cover : (spans : List Span) (c : ℕ) → in_spans spans c ≡ true → Covers spans c
spans-cover [] c h = absurd cc
spans-cover (s ∷ spans) c h = ⊎_elim here (λ i. later (spans-cover spans c i)) (or-cases (in_span s c) (in_spans spans c) h)
  where
    here : in_span s c ≡ true → Covers (s ∷ spans) c
    here i =
        let p = in-span s c i in
        let low : s.from ≤ c = p.0 in
        let high : c < s.to = p.1 in
        let k : ℕ = c - s.from in (
          k,
          at_left (consecutive s.from (s.to - s.from)) (cells_of spans) k (omega (arith, low, high, length-consecutive s.from (s.to - s.from)))
              ∙ consecutive_at s.from (s.to - s.from) k (omega (arith, low, high)) ∙ ap some (omega (arith, low)),
        )

    later : Covers spans c → Covers (s ∷ spans) c
    later r = (length (consecutive s.from (s.to - s.from)) + r.0, at_right (consecutive s.from (s.to - s.from)) (cells_of spans) r.0 ∙ r.1)

pub cover-spans : (spans : List Span) (c : ℕ) → Covers spans c → in_spans spans c ≡ true
cover-spans [] c h = absurd (some-ne-none c (sym h.1))
cover-spans (s ∷ spans) c h = ⊎_elim
    (λ (at : get_elem? (consecutive s.from (s.to - s.from)) h.0 ≡ some c). let r = consecutive_has s.from (s.to - s.from) h.0 c at in
    let low : s.from ≤ c = r.0 in
    let high : c < s.from + (s.to - s.from) = r.1 in
    or-left (in_span s c) (in_spans spans c) (of-span s c low (omega (arith, low, high))))
    (λ (r : (k : ℕ) × (h.0 ≡ length (consecutive s.from (s.to - s.from)) + k) × (get_elem? (cells_of spans) k ≡ some c)).
    or-right (in_span s c) (in_spans spans c) (cover-spans spans c (r.0, r.2)))
    (at_append (consecutive s.from (s.to - s.from)) (cells_of spans) h.0 c h.1)

either-way : (b : Bool) → (b ≡ true) ⊎ (b ≡ false)
either-way true = inl refl
either-way false = inr refl

-- a cell that spans don't cover isn't in them
pub outside : (spans : List Span) (c : ℕ) → (Covers spans c → ⊥) → in_spans spans c ≡ false
outside spans c h = elim (either-way (in_spans spans c)) [
  | inl is ↦ absurd (h (spans-cover spans c is))
  | inr is ↦ is
]

-- ---- no cell twice

-- two lists without a common cell, put together
append-once : (l m : List ℕ) → HasNoCellTwice l → HasNoCellTwice m → ((i j c : ℕ) → get_elem? l i ≡ some c → get_elem? m j ≡ some c → ⊥) → HasNoCellTwice (l ++ m)
append-once l m first second apart i j c at at' = elim (at_append l m i c at) [
  | inl left ↦ elim (at_append l m j c at') [
    | inl left' ↦ first i j c left left'
    | inr right' ↦ absurd (apart i right'.0 c left right'.2)
  ]
  | inr right ↦ elim (at_append l m j c at') [
    | inl left' ↦ absurd (apart j right.0 c left' right.2)
    | inr right' ↦ let same = second right.0 right'.0 c right.2 right'.2 in let e = right.1 in let f = right'.1 in omega arith
  ]
]

consecutive-once : (from n : ℕ) → HasNoCellTwice (consecutive from n)
consecutive-once from n i j c at at' =
    let low : i < n = let h = below (consecutive from n) i c at in omega (arith, length-consecutive from n) in
    let low' : j < n = let h = below (consecutive from n) j c at' in omega (arith, length-consecutive from n) in
    let e : from + i ≡ c = some-injective (from + i) c (sym (consecutive_at from n i low) ∙ at) in
    let f : from + j ≡ c = some-injective (from + j) c (sym (consecutive_at from n j low') ∙ at') in omega arith

-- a span that ends before each of the others has none of their cells
after-end : (s : Span) (spans : List Span) (k c : ℕ) → EndsBeforeEach s spans → get_elem? (cells_of spans) k ≡ some c → s.to < c
after-end s [] k c before at = absurd (some-ne-none c (sym at))
after-end s (t ∷ spans) k c before at = elim (at_append (consecutive t.from (t.to - t.from)) (cells_of spans) k c at) [
  | inl here ↦ let r = consecutive_has t.from (t.to - t.from) k c here in let low = r.0 in let gap = before.0 in omega arith
  | inr later ↦ after-end s spans later.0 c before.1 later.2
]

pub ascending-once : (spans : List Span) → AreAscending spans → HasNoCellTwice (cells_of spans)
ascending-once [] h = λ i j c at at'. absurd (some-ne-none c (sym at))
ascending-once (s ∷ spans) h =
    append-once (consecutive s.from (s.to - s.from)) (cells_of spans) (consecutive-once s.from (s.to - s.from)) (ascending-once spans h.2) (λ i j c at at'.
    let r = consecutive_has s.from (s.to - s.from) i c at in
    let full = h.0 in let high = r.1 in let gap = after-end s spans j c h.1 at' in omega arith)

-- ---- plans

-- a cell of a plan is in the spans of a block
in-block : (plan : List (List Span)) (k c : ℕ) → get_elem? (cells_of_plan plan) k ≡ some c → (block : ℕ) × (spans : List Span) × (slice_get plan block ≡ Some spans) × (in_spans spans c ≡ true)
in-block [] k c at = absurd (some-ne-none c (sym at))
in-block (spans ∷ plan) k c at = elim (at_append (cells_of spans) (cells_of_plan plan) k c at) [
  | inl here ↦ (zero, spans, refl, cover-spans spans c (k, here))
  | inr later ↦ let r = in-block plan later.0 c later.2 in (suc r.0, r.1, r.2, r.3)
]

rest : (spans : List Span) (plan : List (List Span)) (size : ℕ) → IsAscendingPlan (spans ∷ plan) size → IsAscendingPlan plan size
rest spans plan size h = record {
  ascending = λ block. h.ascending (suc block);
  disjoint = λ block other one two cell differ. h.disjoint (suc block) (suc other) one two cell (λ e. differ (omega arith));
  within = λ block. h.within (suc block);
}

plan-once : (plan : List (List Span)) (size : ℕ) → IsAscendingPlan plan size → HasNoCellTwice (cells_of_plan plan)
plan-once [] size h = λ i j c at at'. absurd (some-ne-none c (sym at))
plan-once (spans ∷ plan) size h =
    append-once (cells_of spans) (cells_of_plan plan) (ascending-once spans (h.ascending zero spans refl)) (plan-once plan size (rest spans plan size h)) (λ i j c at at'.
    let r = in-block plan j c at' in h.disjoint zero (suc r.0) spans r.1 c (λ e. absurd (omega arith)) refl r.2 (cover-spans spans c (i, at)) r.3)

pub ascending-disjoint : (plan : List (List Span)) (size : ℕ) → IsAscendingPlan plan size → IsDisjointWithin plan size
ascending-disjoint plan size h = record {
  once = plan-once plan size h;
  inside = λ i c at. let r = in-block plan i c at in h.within r.0 r.1 c r.2 r.3;
}

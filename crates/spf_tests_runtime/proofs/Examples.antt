-- The spans of the tests' plans are disjoint, lanes are still all lanes after steps, and what the polls of the worked example gave.
use Rattle.std.proofs.Common.{true, pos, ◌≤◌, ◌⊎◌, inl, inr, Some, slice_get, length, ◌++◌, take, get_or, refl, ◌∙◌, subst, ◌≡◌, ℕ, zero, suc, ◌+◌, ◌*◌, ◌/◌, ◌%◌, ◌<◌, List, [], ◌∷◌, ap, sym, arith}
use Rattle.std.proofs.Math.Seq.{take-append_seam}
use mathlib.Core.Option.{some, some-ne-none, some-injective}
use lib.ListN.{get_elem?}
use Rattle.spf_tests_runtime.specs.Examples.{two_blocks_spans, four_blocks_spans, mixed_spans, AreSameLanes}
use Rattle.spf_cells.specs.Values.{LaneValue, CellsValue, IsLaneOf}
use Rattle.spf_cells.specs.Finish.{AreAllLanes}
use Rattle.std.specs.List.{Contains}
use mathlib.Core.Logic.{dite}
use native.Mathlib.Decide.{dec_le}
use Rattle.spf_cells.specs.declared.view.Setting.{Setting}
use Rattle.spf_cells.specs.declared.view.LogEntry.{LogEntry}
use Rattle.spf_cells.specs.declared.view.LogEntry.TheVariants.{Load, Store, Turn}
use Rattle.spf_cells.specs.Log.{IsLogOf}
use Rattle.spf_cells.specs.Laws.{IsAscendingPlan}
use Rattle.spf_cells.proofs.Spans.{below}
use Rattle.spf_cells.proofs.Covering.{spans-cover}
use Rattle.spf_region.specs.declared.span.Span.{Span}
use Rattle.spf_region.specs.Cells.{in_spans, AreAscending}
use Rattle.spf_cells.specs.Spans.{IsDisjointWithin}

abbrev first_spans : List Span
first_spans = record { from = 0; to = 2 } ∷ []

abbrev second_spans : List Span
second_spans = record { from = 3; to = 4 } ∷ []

two_at : (block : ℕ) (spans : List Span) → slice_get two_blocks_spans block ≡ Some spans → ((block ≡ 0) × (first_spans ≡ spans)) ⊎ ((block ≡ 1) × (second_spans ≡ spans))
two_at zero spans e = inl (refl, cc)
two_at (suc zero) spans e = inr (refl, cc)
two_at (suc (suc block)) spans e = absurd cc

first_cell : (i c : ℕ) → get_elem? (0 ∷ 1 ∷ []) i ≡ some c → c < 2
first_cell zero c e = let h = some-injective 0 c e in omega arith
first_cell (suc zero) c e = let h = some-injective 1 c e in omega arith
first_cell (suc (suc i)) c e = absurd (some-ne-none c (sym e))

second_cell : (i c : ℕ) → get_elem? (3 ∷ []) i ≡ some c → c ≡ 3
second_cell zero c e = sym (some-injective 3 c e)
second_cell (suc i) c e = absurd (some-ne-none c (sym e))

in_first : (spans : List Span) (c : ℕ) → first_spans ≡ spans → in_spans spans c ≡ true → c < 2
in_first spans c is there = let h = spans-cover first_spans c (ap (λ (s : List Span). in_spans s c) is ∙ there) in first_cell h.0 c h.1

in_second : (spans : List Span) (c : ℕ) → second_spans ≡ spans → in_spans spans c ≡ true → c ≡ 3
in_second spans c is there = let h = spans-cover second_spans c (ap (λ (s : List Span). in_spans s c) is ∙ there) in second_cell h.0 c h.1

pub two_blocks_ascending : IsAscendingPlan two_blocks_spans 4
two_blocks_ascending = record {
  ascending = λ block spans at. elim (two_at block spans at) [
    | inl is ↦ subst AreAscending is.1 (omega arith, tt, tt)
    | inr is ↦ subst AreAscending is.1 (omega arith, tt, tt)
  ];
  disjoint = λ block other one two cell differ at at' there there'. elim (two_at block one at) [
    | inl is ↦ elim (two_at other two at') [
      | inl is' ↦ differ (is.0 ∙ sym is'.0)
      | inr is' ↦ let low = in_first one cell is.1 there in let high = in_second two cell is'.1 there' in absurd (omega arith)
    ]
    | inr is ↦ elim (two_at other two at') [
      | inl is' ↦ let high = in_second one cell is.1 there in let low = in_first two cell is'.1 there' in absurd (omega arith)
      | inr is' ↦ differ (is.0 ∙ sym is'.0)
    ]
  ];
  within = λ block spans cell at there. elim (two_at block spans at) [
    | inl is ↦ let h = in_first spans cell is.1 there in omega arith
    | inr is ↦ let h = in_second spans cell is.1 there in omega arith
  ];
}

four_at : (i c : ℕ) → get_elem? (0 ∷ 4 ∷ 1 ∷ 5 ∷ 2 ∷ 6 ∷ 3 ∷ 7 ∷ []) i ≡ some c → (i < 8) × (c ≡ i / 2 + 4 * (i % 2))
four_at zero c e = (omega arith, sym (some-injective 0 c e))
four_at (suc zero) c e = (omega arith, sym (some-injective 4 c e))
four_at (suc (suc zero)) c e = (omega arith, sym (some-injective 1 c e))
four_at (suc (suc (suc zero))) c e = (omega arith, sym (some-injective 5 c e))
four_at (suc (suc (suc (suc zero)))) c e = (omega arith, sym (some-injective 2 c e))
four_at (suc (suc (suc (suc (suc zero))))) c e = (omega arith, sym (some-injective 6 c e))
four_at (suc (suc (suc (suc (suc (suc zero)))))) c e = (omega arith, sym (some-injective 3 c e))
four_at (suc (suc (suc (suc (suc (suc (suc zero))))))) c e = (omega arith, sym (some-injective 7 c e))
four_at (suc (suc (suc (suc (suc (suc (suc (suc i)))))))) c e = absurd (some-ne-none c (sym e))

pub four_blocks_disjoint : IsDisjointWithin four_blocks_spans 8
four_blocks_disjoint = record {
  once = λ i j c e f. let x = four_at i c e in let y = four_at j c f in omega arith;
  inside = λ i c e. let x = four_at i c e in omega arith;
}

mixed_index : ℕ → ℕ
mixed_index zero = 2
mixed_index (suc zero) = 3
mixed_index (suc (suc zero)) = 7
mixed_index (suc (suc (suc zero))) = 4
mixed_index (suc (suc (suc (suc zero)))) = 5
mixed_index (suc (suc (suc (suc (suc zero))))) = 6
mixed_index (suc (suc (suc (suc (suc (suc zero)))))) = 0
mixed_index (suc (suc (suc (suc (suc (suc (suc c))))))) = 1

mixed_from : (i c d : ℕ) → mixed_index d ≡ i → d < 8 → some d ≡ some c → (i ≡ mixed_index c) × (c < 8)
mixed_from i c d index low e = subst (λ (x : ℕ). (i ≡ mixed_index x) × (x < 8)) (some-injective d c e) (sym index, low)

mixed_at : (i c : ℕ) → get_elem? (6 ∷ 7 ∷ 0 ∷ 1 ∷ 3 ∷ 4 ∷ 5 ∷ 2 ∷ []) i ≡ some c → (i ≡ mixed_index c) × (c < 8)
unfolding mixed_index
mixed_at zero c e = mixed_from 0 c 6 refl (omega arith) e
mixed_at (suc zero) c e = mixed_from 1 c 7 refl (omega arith) e
mixed_at (suc (suc zero)) c e = mixed_from 2 c 0 refl (omega arith) e
mixed_at (suc (suc (suc zero))) c e = mixed_from 3 c 1 refl (omega arith) e
mixed_at (suc (suc (suc (suc zero)))) c e = mixed_from 4 c 3 refl (omega arith) e
mixed_at (suc (suc (suc (suc (suc zero))))) c e = mixed_from 5 c 4 refl (omega arith) e
mixed_at (suc (suc (suc (suc (suc (suc zero)))))) c e = mixed_from 6 c 5 refl (omega arith) e
mixed_at (suc (suc (suc (suc (suc (suc (suc zero))))))) c e = mixed_from 7 c 2 refl (omega arith) e
mixed_at (suc (suc (suc (suc (suc (suc (suc (suc i)))))))) c e = absurd (some-ne-none c (sym e))

pub mixed_disjoint : IsDisjointWithin mixed_spans 8
mixed_disjoint = record {
  once = λ i j c e f. (mixed_at i c e).0 ∙ sym (mixed_at j c f).0;
  inside = λ i c e. (mixed_at i c e).1;
}

at_or : {A : Type 0} (l : List A) (i : ℕ) (a d : A) → get_elem? l i ≡ some a → get_or l i d ≡ a
at_or [] i a d at = absurd (some-ne-none a (sym at))
at_or (x ∷ xs) zero a d at = some-injective x a at
at_or (x ∷ xs) (suc i) a d at = at_or xs i a d at

or_at : {A : Type 0} (l : List A) (i : ℕ) (d : A) → i < length l → get_elem? l i ≡ some (get_or l i d)
or_at [] i d h = absurd (omega arith)
or_at (x ∷ xs) zero d h = refl
or_at (x ∷ xs) (suc i) d h = or_at xs i d (omega arith)

pub still_all : (w : CellsValue) (old new : List LaneValue) → AreAllLanes w old → AreSameLanes old new → AreAllLanes w new
still_all w old new all same = (
  same.0 ∙ all.0,
  λ i l at.
      let low = below new i l at in
      let long = same.0 in
      let inside : i < length old = omega arith in
      let is : get_or new i l ≡ l = at_or new i l l at in
      let s = same.1 i l inside in
      let was = all.1 i (get_or old i l) (or_at old i l inside) in
      subst (λ (x : LaneValue). IsLaneOf w x × (x.block ≡ i)) is ((s.0 ∙ was.0.0, s.1 ∙ was.0.1), s.2 ∙ was.1),
)

pub written : {A : Type 0} (n : ℕ) (xs ys : List A) → n ≡ length xs → take n (xs ++ ys) ≡ xs
written n xs ys e = ap (λ k. take k (xs ++ ys)) e ∙ take-append_seam xs ys

-- block 0 is not among the blocks that may be raised
not_raisable : (l : List ℕ) (b i : ℕ) → l ≡ 1 ∷ [] → b ≡ 0 → i < length l → get_or l i b ≡ b → ⊥
not_raisable [] b i is z h e = omega arith
not_raisable (x ∷ l) b zero is z h e = let one : x ≡ 1 = ap (λ (m : List ℕ). get_or m 0 0) is in omega arith
not_raisable (x ∷ l) b (suc i) is z h e = let long : length (x ∷ l) ≡ 1 = ap (λ (m : List ℕ). length m) is in omega arith

-- what holds for the logs of the worked example says which numbers its polls gave
pub turns_are : (trace : List (List LogEntry)) (k : Setting) (x y : ℕ) → k.raisable ≡ 1 ∷ [] → trace ≡ (Store 0 (pos 9) ∷ Turn x ∷ []) ∷ (Load 3 (pos 4) ∷ Turn y ∷ []) ∷ []
    → ((block : ℕ) (log : List LogEntry) → slice_get trace block ≡ Some log → IsLogOf k block log) → (y ≤ 1) × (x ≡ 0)
turns_are trace k x y raisable is kept =
    let first : IsLogOf k 0 (Store 0 (pos 9) ∷ Turn x ∷ []) = kept 0 (Store 0 (pos 9) ∷ Turn x ∷ []) (ap (λ (t : List (List LogEntry)). slice_get t 0) is) in
    let second : IsLogOf k 1 (Load 3 (pos 4) ∷ Turn y ∷ []) = kept 1 (Load 3 (pos 4) ∷ Turn y ∷ []) (ap (λ (t : List (List LogEntry)). slice_get t 1) is) in (
      second.turns.1.0.0,
      dite (dec_le 1 x) (λ up. let there : Contains k.raisable 0 = first.turns.1.0.1 up in absurd (not_raisable k.raisable 0 there.0 raisable refl there.1 there.2)) (λ down. omega arith),
    )

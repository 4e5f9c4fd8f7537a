-- Segments of words: how they are made, sorted and searched.
use Rattle.std.proofs.Common.{◌≡◌, ℕ, ◌+◌, ◌-◌, ◌<◌, ◌≤◌, List, [], ◌∷◌, ◌++◌, length, get_or, sym, refl, ap, ◌∙◌, subst, arith, inl, inr, take, drop, Option, Some, None, IfNone}
use Rattle.std.specs.List.{Contains}
use Rattle.std.specs.List.Sorted.{IsPermutation, IsNonDecreasingBy}
use Rattle.std.proofs.lemmas.List.Elements.{Contains-push, Contains-push_cases, Contains-append_left, Contains-get_or}
use Rattle.std.proofs.lemmas.List.Sorted.{IsPermutation-sym, Contains-permutation}
use Rattle.std.proofs.lemmas.List.{append-nil, get_or_default, take_all}
use mathlib.Core.Option.{some, some-injective}
use mathlib.Core.Logic.{dite}
use native.Mathlib.Decide.{dec_le}
use lib.ListN.{get_elem?}
use Rattle.spf_region.specs.declared.span.Span.{Span}
use Rattle.spf_cells.specs.declared.segment.Segment.{Segment}
use Rattle.spf_cells.specs.Spans.{consecutive, cells_of, cells_of_plan, IsDisjointWithin}
use Rattle.spf_cells.specs.declared.view.Setting.{Setting}
use Rattle.spf_cells.specs.Finish.{HaveWordsFrom}
use Rattle.spf_cells.specs.Segments.{HasNoCellTwice, Holds, AreSegmentsOf, IsSearchable, first_word}
use Rattle.spf_cells.proofs.Spans.{below, at_left, at_right, at_append, consecutive_has, consecutive_at, length-consecutive, cells_split, cells_snoc}
use Rattle.spf_cells.proofs.Plans.{pair_at, pair_once}
use Rattle.spf_cells.proofs.WritingBack.{consecutive_here}

-- segments that may stand in any order
pub record AreUnsortedOf (ss : List Segment) (cells : List ℕ) (first : ℕ) : Type 0 where
  pub filled : (s : Segment) → Contains ss s → s.span.from < s.span.to
  pub apart : (s t : Segment) (cell v w : ℕ) → Contains ss s → Contains ss t → Holds s cell v → Holds t cell w → s ≡ t
  pub are : AreSegmentsOf ss cells first

none_in : {X : Type 0} (x : X) → Contains [] x → ⊥
none_in x there = let h = there.1 in absurd (omega arith)

pub no_segments : (first : ℕ) → AreUnsortedOf [] [] first
no_segments first = record {
  filled = λ s there. absurd (none_in s there);
  apart = λ s t c v w there. absurd (none_in s there);
  are = record {
    laid = λ s c w there. absurd (none_in s there);
    whole = λ k c at. let h = below [] k c at in absurd (omega arith);
  };
}

pub once_front : (l m : List ℕ) → HasNoCellTwice (l ++ m) → HasNoCellTwice l
once_front l m once i j c at at' = once i j c (at_left l m i (below l i c at) ∙ at) (at_left l m j (below l j c at') ∙ at')

-- one more segment
module _ (ss : List Segment) (cells : List ℕ) (first : ℕ) (x : Segment) (h : AreUnsortedOf ss cells first) (full : x.span.from < x.span.to) (start : x.word ≡ first + length cells) where
  abbrev mine : List ℕ
  mine = consecutive x.span.from (x.span.to - x.span.from)

  old_cell : (s : Segment) (c w : ℕ) → Contains ss s → Holds s c w → (k : ℕ) × (w ≡ first + k) × (get_elem? (cells ++ mine) k ≡ some c) × (k < length cells)
  old_cell s c w there holds = let l = h.are.laid s c w there holds in let low = below cells l.0 c l.2 in (l.0, l.1, at_left cells mine l.0 low ∙ l.2, low)

  new_cell : (s : Segment) (c w : ℕ) → x ≡ s → Holds s c w → (k : ℕ) × (w ≡ first + k) × (get_elem? (cells ++ mine) k ≡ some c) × (length cells ≤ k)
  new_cell s c w is held =
      let holds : Holds x c w = subst (λ (y : Segment). Holds y c w) (sym is) held in
      let low = holds.0 in let word = holds.2 in (
        length cells + (c - x.span.from),
        omega arith,
        at_right cells mine (c - x.span.from) ∙ consecutive_here x.span.from x.span.to c holds.0 holds.1,
        omega arith,
      )

  pub one_more : HasNoCellTwice (cells ++ mine) → AreUnsortedOf (ss ++ x ∷ []) (cells ++ mine) first
  one_more once = record {
    filled = λ s there. elim (Contains-push_cases ss x s there) [
      | inl old ↦ h.filled s old
      | inr is ↦ subst (λ (y : Segment). y.span.from < y.span.to) is full
    ];
    apart = λ s t c v w there there' held held'. elim (Contains-push_cases ss x s there) [
      | inl old ↦ elim (Contains-push_cases ss x t there') [
        | inl old' ↦ h.apart s t c v w old old' held held'
        | inr is' ↦ clash s t c v w old is' held held'
      ]
      | inr is ↦ elim (Contains-push_cases ss x t there') [
        | inl old' ↦ sym (clash t s c w v old' is held' held)
        | inr is' ↦ sym is ∙ is'
      ]
    ];
    are = record {
      laid = λ s c w there held. elim (Contains-push_cases ss x s there) [
        | inl old ↦ let o = old_cell s c w old held in (o.0, o.1, o.2)
        | inr is ↦ let n = new_cell s c w is held in (n.0, n.1, n.2)
      ];
      whole = λ k c at. elim (at_append cells mine k c at) [
        | inl old ↦ let s = h.are.whole k c old in (s.0, Contains-append_left ss (x ∷ []) s.0 s.1, s.2, s.3)
        | inr new ↦ let r = consecutive_has x.span.from (x.span.to - x.span.from) new.0 c new.2 in (x, Contains-push ss x, r.0, omega arith)
      ];
    };
  }
    where
      clash : (s t : Segment) (c v w : ℕ) → Contains ss s → x ≡ t → Holds s c v → Holds t c w → s ≡ t
      clash s t c v w old is held held' =
          let o = old_cell s c v old held in
          let n = new_cell t c w is held' in
          let same = once o.0 n.0 c o.2 n.2 in
          let low = o.3 in let high = n.3 in absurd (omega arith)

-- the same segments in another order
module _ (ss ts : List Segment) (cells : List ℕ) (first : ℕ) (h : AreUnsortedOf ss cells first) (moved : IsPermutation ss ts) where
  back : (s : Segment) → Contains ts s → Contains ss s
  back s there = Contains-permutation ts ss s (IsPermutation-sym ss ts moved) there

  pub still_segments : AreSegmentsOf ts cells first
  still_segments = record {
    laid = λ s c w there held. h.are.laid s c w (back s there) held;
    whole = λ k c at. let s = h.are.whole k c at in (s.0, Contains-permutation ss ts s.0 moved s.1, s.2, s.3);
  }

  pub searchable : IsNonDecreasingBy (λ (s : Segment). s.span.from) ts → IsSearchable ts
  searchable up = record {
    filled = λ s there. h.filled s (back s there);
    apart = λ s t c v w there there' held held'. h.apart s t c v w (back s there) (back t there') held held';
    sorted = up;
  }

-- a cell that isn't in the last segment that begins at it or before is in no segment
pub not_found : (ss : List Segment) (n cell : ℕ) (d : Segment) → IsSearchable ss → 0 < n → n ≤ length ss
    → ((k : ℕ) → k < n → (get_or ss k d).span.from ≤ cell) → ((k : ℕ) → n ≤ k → k < length ss → cell < (get_or ss k d).span.from)
    → ((w : ℕ) → ¬ Holds (get_or ss (n - 1) d) cell w) → (s : Segment) (w : ℕ) → Contains ss s → ¬ Holds s cell w
not_found ss n cell d order more fits front behind last s w there held =
    let k : ℕ = there.0 in
    let l : Segment = get_or ss (n - 1) d in
    let is : get_or ss k d ≡ s = get_or_default ss k d s there.1 ∙ there.2 in
    let e = ap (λ (y : Segment). y.span.from) is in
    let low = held.0 in
    let before : k < n = dite (dec_le n k) (λ high. let far = behind k high there.1 in absurd (omega arith)) (λ high. omega arith) in
    let has_last : Contains ss l = Contains-get_or ss (n - 1) d (omega arith) in
    let up : s.span.from ≤ l.span.from = let r = order.sorted k (n - 1) d (omega arith) (omega arith) in omega arith in
    let begin : l.span.from ≤ cell = front (n - 1) (omega arith) in
    let full = order.filled l has_last in
    let high = held.1 in
    let same : s ≡ l = order.apart s l l.span.from (s.word + (l.span.from - s.span.from)) (l.word + (l.span.from - l.span.from)) there has_last (up, omega arith, refl) (omega arith, full, refl) in
    last w (subst (λ (y : Segment). Holds y cell w) same held)

-- where no segment begins at the cell or before, none has it
pub all_behind : (ss : List Segment) (n cell : ℕ) (d : Segment) → n ≡ 0 → ((k : ℕ) → n ≤ k → k < length ss → cell < (get_or ss k d).span.from) → (s : Segment) (w : ℕ) → Contains ss s → ¬ Holds s cell w
all_behind ss n cell d zero behind s w there held =
    let far = behind there.0 (omega arith) there.1 in
    let e = ap (λ (y : Segment). y.span.from) (get_or_default ss there.0 d s there.1 ∙ there.2) in
    let low = held.0 in omega arith

pub at_none : {A : Type 0} (o : Option A) {P Q : Type 0} → (P → Q) → IfNone o P → IfNone o Q
at_none (Some a) f h = h
at_none None f h = f h

-- the spans up to the next one, and no cell twice
pub once_so_far : (spans : List Span) (i : ℕ) (d : Span) → i < length spans → HasNoCellTwice (cells_of spans) → HasNoCellTwice (cells_of (take i spans) ++ consecutive (get_or spans i d).from ((get_or spans i d).to - (get_or spans i d).from))
once_so_far spans i d h once = once_front _ (cells_of (drop (i + 1) spans)) (subst HasNoCellTwice (cells_split spans i d h) once)

-- an empty span adds no cell
pub cells_of_empty : (spans : List Span) (i : ℕ) (d : Span) → i < length spans → (get_or spans i d).to ≤ (get_or spans i d).from → cells_of (take i spans) ≡ cells_of (take (i + 1) spans)
cells_of_empty spans i d h empty = let e : (get_or spans i d).to - (get_or spans i d).from ≡ 0 = omega arith in
    sym (cells_snoc spans i d h ∙ (ap (λ n. cells_of (take i spans) ++ consecutive (get_or spans i d).from n) e ∙ append-nil (cells_of (take i spans))))

-- what the loop over the spans keeps, at a span that has cells
pub span_more : (spans : List Span) (i first word : ℕ) (d : Span) (ss ts : List Segment) → i < length spans → HasNoCellTwice (cells_of spans) → (get_or spans i d).from < (get_or spans i d).to
    → AreUnsortedOf ss (cells_of (take i spans)) first → word ≡ first + length (cells_of (take i spans)) → ts ≡ ss ++ record { span = get_or spans i d; word = word } ∷ [] → AreUnsortedOf ts (cells_of (take (i + 1) spans)) first
span_more spans i first word d ss ts h once full are start is =
    subst (λ (z : List Segment × List ℕ). AreUnsortedOf z.0 z.1 first) (λ t. (sym is t, sym (cells_snoc spans i d h) t))
    (one_more ss (cells_of (take i spans)) first record { span = get_or spans i d; word = word } are full start (once_so_far spans i d h once))

-- and at one that has none
pub span_empty : (spans : List Span) (i first : ℕ) (d : Span) (ss : List Segment) → i < length spans → (get_or spans i d).to ≤ (get_or spans i d).from → AreUnsortedOf ss (cells_of (take i spans)) first
    → AreUnsortedOf ss (cells_of (take (i + 1) spans)) first
span_empty spans i first d ss h empty are = subst (λ l. AreUnsortedOf ss l first) (cells_of_empty spans i d h empty) are

pub all_spans : (spans : List Span) (i first : ℕ) (ss : List Segment) → length spans ≤ i → AreUnsortedOf ss (cells_of (take i spans)) first → AreUnsortedOf ss (cells_of spans) first
all_spans spans i first ss all are = subst (λ (l : List Span). AreUnsortedOf ss (cells_of l) first) (take_all i spans all) are

-- the segments of a block's cells
module _ (k : Setting) (b : ℕ) (ss : List Segment) (are : AreSegmentsOf ss (cells_of (get_or k.plan b [])) (first_word k b)) (s : Segment) (there : Contains ss s) where
  -- its words lie below those after the block's
  pub segment_room : s.span.from < s.span.to → s.word + (s.span.to - s.span.from) ≤ first_word k b + length (cells_of (get_or k.plan b []))
  segment_room full =
      let l = are.laid s (s.span.to - 1) (s.word + (s.span.to - 1 - s.span.from)) there (omega arith, omega arith, refl) in
      let low = below (cells_of (get_or k.plan b [])) l.0 (s.span.to - 1) l.2 in
      let word = l.1 in omega arith

  -- the words of its cells are those of the block
  pub segment_stands : b < length k.plan → HaveWordsFrom k b s.word (consecutive s.span.from (s.span.to - s.span.from))
  segment_stands room j c at =
      let from : ℕ = s.span.from in
      let n : ℕ = s.span.to - from in
      let low : j < n = let h = below (consecutive from n) j c at in omega (arith, length-consecutive from n) in
      let is : from + j ≡ c = some-injective (from + j) c (sym (consecutive_at from n j low) ∙ at) in
      let l = are.laid s c (s.word + j) there (omega arith, omega arith, omega arith) in
      let word = l.1 in (length (cells_of_plan (take b k.plan)) + l.0, omega arith, pair_at k.plan b l.0 c room l.2)

  -- its cells are the block's
  pub segment_inside : (j c : ℕ) → get_elem? (consecutive s.span.from (s.span.to - s.span.from)) j ≡ some c → (i : ℕ) × (get_elem? (cells_of (get_or k.plan b [])) i ≡ some c)
  segment_inside j c at =
      let h = consecutive_has s.span.from (s.span.to - s.span.from) j c at in
      let low = h.0 in let high = h.1 in
      let l = are.laid s c (s.word + (c - s.span.from)) there (low, omega arith, refl) in (l.0, l.2)

-- no cell of a block stands twice
pub block_once : (pl : List (List Span)) (size i : ℕ) → IsDisjointWithin pl size → i < length pl → HasNoCellTwice (cells_of (get_or pl i []))
block_once pl size i apart room j k c at at' =
    let front : ℕ = length (cells_of_plan (take i pl)) in
    let e = pair_once pl size apart (front + j) (front + k) (i, c) (i, c) (pair_at pl i j c room at) (pair_at pl i k c room at') refl in omega arith

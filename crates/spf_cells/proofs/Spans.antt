-- The cells of spans, in order.
use Rattle.std.proofs.Common.{◌≡◌, ◌⊎◌, ℕ, zero, suc, ◌+◌, ◌-◌, ◌<◌, ◌≤◌, List, [], ◌∷◌, ◌++◌, length, get_or, take, drop, sym, refl, ap, ◌∙◌, arith, length-append, append_assoc, inl, inr, ⊎_elim}
use Rattle.std.proofs.lemmas.List.{append-nil, take-append-drop}
use Rattle.std.proofs.Math.Seq.{take-suc}
use mathlib.Core.Option.{some, some-ne-none, some-injective}
use lib.ListN.{get_elem?}
use Rattle.spf_region.specs.declared.span.Span.{Span}
use Rattle.spf_cells.specs.Spans.{consecutive, cells_of, Covers}

pub length-consecutive : (from n : ℕ) → length (consecutive from n) ≡ n
length-consecutive from zero = refl
length-consecutive from (suc n) = ap suc (length-consecutive (suc from) n)

pub consecutive_at : (from n k : ℕ) → k < n → get_elem? (consecutive from n) k ≡ some (from + k)
consecutive_at from zero k h = absurd (omega arith)
consecutive_at from (suc n) zero h = ap some (omega arith)
consecutive_at from (suc n) (suc k) h = consecutive_at (suc from) n k (omega arith) ∙ ap some (omega arith)

pub at_left : {A : Type 0} (l m : List A) (i : ℕ) → i < length l → get_elem? (l ++ m) i ≡ get_elem? l i
at_left [] m i h = absurd (omega arith)
at_left (x ∷ xs) m zero h = refl
at_left (x ∷ xs) m (suc i) h = at_left xs m i (omega arith)

pub at_right : {A : Type 0} (l m : List A) (i : ℕ) → get_elem? (l ++ m) (length l + i) ≡ get_elem? m i
at_right [] m i = ap (get_elem? m) (omega arith)
at_right (x ∷ xs) m i = let e : suc (length xs) + i ≡ suc (length xs + i) = omega arith in ap (get_elem? (x ∷ (xs ++ m))) e ∙ at_right xs m i

pub at_append : {A : Type 0} (l m : List A) (j : ℕ) (a : A) → get_elem? (l ++ m) j ≡ some a → (get_elem? l j ≡ some a) ⊎ ((k : ℕ) × (j ≡ length l + k) × (get_elem? m k ≡ some a))
at_append [] m j a e = inr (j, omega arith, e)
at_append (x ∷ xs) m zero a e = inl e
at_append (x ∷ xs) m (suc j) a e = ⊎_elim inl (λ (t : (k : ℕ) × (j ≡ length xs + k) × (get_elem? m k ≡ some a)). let h = t.1 in inr (t.0, omega arith, t.2)) (at_append xs m j a e)

pub consecutive_has : (from n k c : ℕ) → get_elem? (consecutive from n) k ≡ some c → (from ≤ c) × (c < from + n)
consecutive_has from zero k c e = absurd (some-ne-none c (sym e))
consecutive_has from (suc n) zero c e = let h : from ≡ c = some-injective from c e in (omega arith, omega arith)
consecutive_has from (suc n) (suc k) c e = let h = consecutive_has (suc from) n k c e in (omega arith, omega arith)

pub cells-append : (xs ys : List Span) → cells_of (xs ++ ys) ≡ cells_of xs ++ cells_of ys
cells-append [] ys = refl
cells-append (x ∷ xs) ys = ap (λ l. consecutive x.from (x.to - x.from) ++ l) (cells-append xs ys) ∙ sym (append_assoc (consecutive x.from (x.to - x.from)) (cells_of xs) (cells_of ys))

module _ (ss : List Span) (i : ℕ) (d : Span) (h : i < length ss) where
  abbrev mine : List ℕ
  mine = consecutive (get_or ss i d).from ((get_or ss i d).to - (get_or ss i d).from)

  pub cells_snoc : cells_of (take (i + 1) ss) ≡ cells_of (take i ss) ++ mine
  cells_snoc = let e : i + 1 ≡ suc i = omega arith in ap cells_of (ap (λ k. take k ss) e ∙ take-suc ss i d h) ∙ (cells-append (take i ss) (get_or ss i d ∷ []) ∙ ap (λ l. cells_of (take i ss) ++ l) (append-nil mine))

  pub cells_split : cells_of ss ≡ (cells_of (take i ss) ++ mine) ++ cells_of (drop (i + 1) ss)
  cells_split = ap cells_of (sym (take-append-drop (i + 1) ss)) ∙ (cells-append (take (i + 1) ss) (drop (i + 1) ss) ∙ ap (λ l. l ++ cells_of (drop (i + 1) ss)) cells_snoc)

  pub cells_room : length (cells_of (take i ss)) + ((get_or ss i d).to - (get_or ss i d).from) ≤ length (cells_of ss)
  cells_room = let e = ap length cells_split in
      omega (arith, e, length-append (cells_of (take i ss) ++ mine) (cells_of (drop (i + 1) ss)), length-append (cells_of (take i ss)) mine, length-consecutive (get_or ss i d).from ((get_or ss i d).to - (get_or ss i d).from))

  pub cells_longer : length (cells_of (take (i + 1) ss)) ≡ length (cells_of (take i ss)) + ((get_or ss i d).to - (get_or ss i d).from)
  cells_longer = ap length cells_snoc ∙ (length-append (cells_of (take i ss)) mine ∙ ap (λ n. length (cells_of (take i ss)) + n) (length-consecutive (get_or ss i d).from ((get_or ss i d).to - (get_or ss i d).from)))

  pub cell_found : (c : ℕ) → (get_or ss i d).from ≤ c → c < (get_or ss i d).to → get_elem? (cells_of ss) (length (cells_of (take i ss)) + (c - (get_or ss i d).from)) ≡ some c
  cell_found c low high =
      let k : ℕ = c - (get_or ss i d).from in
      let from : ℕ = (get_or ss i d).from in
      let n : ℕ = (get_or ss i d).to - (get_or ss i d).from in
      let front : List ℕ = cells_of (take i ss) in
      ap (λ l. get_elem? l (length front + k)) cells_split
      ∙ (at_left (front ++ mine) (cells_of (drop (i + 1) ss)) (length front + k) (omega (arith, length-append front mine, length-consecutive from n))
      ∙ (at_right front mine k ∙ (consecutive_at from n k (omega arith) ∙ ap some (omega arith))))

  pub cell_not : (c : ℕ) → ((get_or ss i d).from ≤ c → c < (get_or ss i d).to → ⊥) → ¬ Covers (take i ss) c → ¬ Covers (take (i + 1) ss) c
  cell_not c out before at =
      ⊎_elim (λ (t : get_elem? (cells_of (take i ss)) at.0 ≡ some c). before (at.0, t))
      (λ (t : (k : ℕ) × (at.0 ≡ length (cells_of (take i ss)) + k) × (get_elem? mine k ≡ some c)). let h = consecutive_has (get_or ss i d).from ((get_or ss i d).to - (get_or ss i d).from) t.0 c t.2 in out h.0 (omega arith))
      (at_append (cells_of (take i ss)) mine at.0 c (ap (λ l. get_elem? l at.0) (sym cells_snoc) ∙ at.1))

pub below : {A : Type 0} (l : List A) (i : ℕ) (p : A) → get_elem? l i ≡ some p → i < length l
below [] i p at = absurd (some-ne-none p (sym at))
below (x ∷ xs) zero p at = omega arith
below (x ∷ xs) (suc i) p at = let h = below xs i p at in omega arith

-- a cell of one span, among the cells of all
pub consecutive_there : (ss : List Span) (i : ℕ) (d : Span) → i < length ss → (j c : ℕ) → get_elem? (consecutive (get_or ss i d).from ((get_or ss i d).to - (get_or ss i d).from)) j ≡ some c
    → get_elem? (cells_of ss) (length (cells_of (take i ss)) + j) ≡ some c
consecutive_there ss i d h j c at =
    let mine : List ℕ = consecutive (get_or ss i d).from ((get_or ss i d).to - (get_or ss i d).from) in
    let front : List ℕ = cells_of (take i ss) in
    let short : j < length mine = below mine j c at in
    ap (λ l. get_elem? l (length front + j)) (cells_split ss i d h)
    ∙ (at_left (front ++ mine) (cells_of (drop (i + 1) ss)) (length front + j) (omega (arith, length-append front mine)) ∙ (at_right front mine j ∙ at))

-- The cells of a plan, alone and with their blocks.
use Rattle.std.proofs.Common.{◌≡◌, ℕ, zero, suc, ◌+◌, ◌-◌, ◌<◌, ◌≤◌, List, [], ◌∷◌, ◌++◌, map, length, get_or, take, drop, sym, refl, ap, ◌∙◌, subst, arith, length-append, append_assoc, ⊎_elim}
use Rattle.std.proofs.lemmas.List.{append-nil, take-append-drop, get_or-map}
use Rattle.std.proofs.Math.Seq.{take-suc}
use mathlib.Core.Option.{some, some-ne-none, some-injective}
use lib.ListN.{get_elem?, length-map}
use Rattle.atomic_table.proofs.Lists.{at_map}
use Rattle.spf_region.specs.declared.span.Span.{Span}
use Rattle.spf_cells.specs.Spans.{consecutive, cells_of, cells_of_plan, cells_with_blocks_from, cells_with_blocks, IsDisjointWithin}
use Rattle.spf_cells.specs.Values.{CellsValue}
use Rattle.spf_cells.specs.Made.{new_lane, new_lanes}
use Rattle.spf_cells.proofs.Spans.{at_left, at_right, at_append, below, cells_split}

pub consecutive-snoc : (from n : ℕ) → consecutive from (n + 1) ≡ consecutive from n ++ (from + n) ∷ []
consecutive-snoc from zero = λ t. omega_zero t ∷ []
  where
    omega_zero : from ≡ from + 0
    omega_zero = omega arith
consecutive-snoc from (suc n) = let e : suc n + 1 ≡ suc (n + 1) = omega arith in let f : suc from + n ≡ from + suc n = omega arith in
    ap (consecutive from) e ∙ (ap (λ l. from ∷ l) (consecutive-snoc (suc from) n) ∙ ap (λ k. from ∷ (consecutive (suc from) n ++ k ∷ [])) f)

-- a cell of one span is a cell of all
pub span_in : (ss : List Span) (i : ℕ) (d : Span) → i < length ss → (j c : ℕ) → get_elem? (consecutive (get_or ss i d).from ((get_or ss i d).to - (get_or ss i d).from)) j ≡ some c
    → (k : ℕ) × (get_elem? (cells_of ss) k ≡ some c)
span_in ss i d h j c at =
    let mine : List ℕ = consecutive (get_or ss i d).from ((get_or ss i d).to - (get_or ss i d).from) in
    let front : List ℕ = cells_of (take i ss) in
    let short : j < length mine = below mine j c at in (
      length front + j,
      ap (λ l. get_elem? l (length front + j)) (cells_split ss i d h)
          ∙ (at_left (front ++ mine) (cells_of (drop (i + 1) ss)) (length front + j) (omega (arith, length-append front mine)) ∙ (at_right front mine j ∙ at)),
    )

pub plan-append : (xs ys : List (List Span)) → cells_of_plan (xs ++ ys) ≡ cells_of_plan xs ++ cells_of_plan ys
plan-append [] ys = refl
plan-append (x ∷ xs) ys = ap (λ l. cells_of x ++ l) (plan-append xs ys) ∙ sym (append_assoc (cells_of x) (cells_of_plan xs) (cells_of_plan ys))

module _ (pl : List (List Span)) (i : ℕ) (h : i < length pl) where
  pub plan_snoc : cells_of_plan (take (i + 1) pl) ≡ cells_of_plan (take i pl) ++ cells_of (get_or pl i [])
  plan_snoc = let e : i + 1 ≡ suc i = omega arith in ap cells_of_plan (ap (λ k. take k pl) e ∙ take-suc pl i [] h)
      ∙ (plan-append (take i pl) (get_or pl i [] ∷ []) ∙ ap (λ l. cells_of_plan (take i pl) ++ l) (append-nil (cells_of (get_or pl i []))))

  pub plan_split : cells_of_plan pl ≡ (cells_of_plan (take i pl) ++ cells_of (get_or pl i [])) ++ cells_of_plan (drop (i + 1) pl)
  plan_split = ap cells_of_plan (sym (take-append-drop (i + 1) pl)) ∙ (plan-append (take (i + 1) pl) (drop (i + 1) pl) ∙ ap (λ l. l ++ cells_of_plan (drop (i + 1) pl)) plan_snoc)

  pub block_in : (j c : ℕ) → get_elem? (cells_of (get_or pl i [])) j ≡ some c → (k : ℕ) × (get_elem? (cells_of_plan pl) k ≡ some c)
  block_in j c at =
      let mine : List ℕ = cells_of (get_or pl i []) in
      let front : List ℕ = cells_of_plan (take i pl) in
      let short : j < length mine = below mine j c at in (
        length front + j,
        ap (λ l. get_elem? l (length front + j)) plan_split
            ∙ (at_left (front ++ mine) (cells_of_plan (drop (i + 1) pl)) (length front + j) (omega (arith, length-append front mine)) ∙ (at_right front mine j ∙ at)),
      )

  pub plan_longer : length (cells_of_plan (take (i + 1) pl)) ≡ length (cells_of_plan (take i pl)) + length (cells_of (get_or pl i []))
  plan_longer = ap length plan_snoc ∙ length-append (cells_of_plan (take i pl)) (cells_of (get_or pl i []))

  pub plan_room : length (cells_of_plan (take i pl)) + length (cells_of (get_or pl i [])) ≤ length (cells_of_plan pl)
  plan_room = let e = ap length plan_split in
      omega (arith, e, length-append (cells_of_plan (take i pl) ++ cells_of (get_or pl i [])) (cells_of_plan (drop (i + 1) pl)), length-append (cells_of_plan (take i pl)) (cells_of (get_or pl i [])))

pub length-cells_with_blocks_from : (b : ℕ) (pl : List (List Span)) → length (cells_with_blocks_from b pl) ≡ length (cells_of_plan pl)
length-cells_with_blocks_from b [] = refl
length-cells_with_blocks_from b (x ∷ xs) = omega (arith, length-append (map (λ c. (b, c)) (cells_of x)) (cells_with_blocks_from (suc b) xs), length-map {B = ℕ × ℕ} (cells_of x) (λ c. (b, c)), length-append (cells_of x) (cells_of_plan xs), length-cells_with_blocks_from (suc b) xs)

pair_from : (b : ℕ) (pl : List (List Span)) (i j c : ℕ) → i < length pl → get_elem? (cells_of (get_or pl i [])) j ≡ some c
    → get_elem? (cells_with_blocks_from b pl) (length (cells_of_plan (take i pl)) + j) ≡ some (b + i, c)
pair_from b [] i j c h at = absurd (omega arith)
pair_from b (x ∷ xs) zero j c h at =
    let short : j < length (cells_of x) = below (cells_of x) j c at in
    let e : 0 + j ≡ j = omega arith in
    let f : b ≡ b + 0 = omega arith in
    ap (get_elem? (cells_with_blocks_from b (x ∷ xs))) e ∙ (at_left (map (λ c. (b, c)) (cells_of x)) (cells_with_blocks_from (suc b) xs) j (omega (arith, length-map {B = ℕ × ℕ} (cells_of x) (λ c. (b, c))))
    ∙ (at_map (λ c. (b, c)) (cells_of x) j c at ∙ ap (λ k. some (k, c)) f))
pair_from b (x ∷ xs) (suc i) j c h at =
    let front : List (ℕ × ℕ) = map (λ c. (b, c)) (cells_of x) in
    let rest : ℕ = length (cells_of_plan (take i xs)) + j in
    let e : length (cells_of_plan (take (suc i) (x ∷ xs))) + j ≡ length front + rest = omega (arith, length-append (cells_of x) (cells_of_plan (take i xs)), length-map {B = ℕ × ℕ} (cells_of x) (λ c. (b, c))) in
    let f : suc b + i ≡ b + suc i = omega arith in
    ap (get_elem? (cells_with_blocks_from b (x ∷ xs))) e ∙ (at_right front (cells_with_blocks_from (suc b) xs) rest ∙ (pair_from (suc b) xs i j c (omega arith) at ∙ ap (λ k. some (k, c)) f))

pub pair_at : (pl : List (List Span)) (i j c : ℕ) → i < length pl → get_elem? (cells_of (get_or pl i [])) j ≡ some c
    → get_elem? (cells_with_blocks pl) (length (cells_of_plan (take i pl)) + j) ≡ some (i, c)
unfolding cells_with_blocks
pair_at pl i j c h at = let e : 0 + i ≡ i = omega arith in pair_from 0 pl i j c h at ∙ ap (λ k. some (k, c)) e

pub length-cells_with_blocks : (pl : List (List Span)) → length (cells_with_blocks pl) ≡ length (cells_of_plan pl)
unfolding cells_with_blocks
length-cells_with_blocks pl = length-cells_with_blocks_from 0 pl

pair_cell_from : (b : ℕ) (pl : List (List Span)) (i : ℕ) (p : ℕ × ℕ) → get_elem? (cells_with_blocks_from b pl) i ≡ some p → get_elem? (cells_of_plan pl) i ≡ some p.1
pair_cell_from b [] i p at = absurd (some-ne-none p (sym at))
pair_cell_from b (x ∷ xs) i p at = let front : List (ℕ × ℕ) = map (λ c. (b, c)) (cells_of x) in
    let long : length front ≡ length (cells_of x) = length-map {B = ℕ × ℕ} (cells_of x) (λ c. (b, c)) in
    ⊎_elim (λ (t : get_elem? front i ≡ some p). let short : i < length front = below front i p t in
    at_left (cells_of x) (cells_of_plan xs) i (omega arith) ∙ unmap (cells_of x) i t)
    (λ (t : (k : ℕ) × (i ≡ length front + k) × (get_elem? (cells_with_blocks_from (suc b) xs) k ≡ some p)).
    ap (get_elem? (cells_of x ++ cells_of_plan xs)) (t.1 ∙ ap (λ n. n + t.0) long) ∙ (at_right (cells_of x) (cells_of_plan xs) t.0 ∙ pair_cell_from (suc b) xs t.0 p t.2))
    (at_append front (cells_with_blocks_from (suc b) xs) i p at)
  where
    unmap : (l : List ℕ) (i : ℕ) → get_elem? (map (λ c. (b, c)) l) i ≡ some p → get_elem? l i ≡ some p.1
    unmap [] i at = absurd (some-ne-none p (sym at))
    unmap (y ∷ ys) zero at = ap (λ q. some q.1) (some-injective (b, y) p at)
    unmap (y ∷ ys) (suc i) at = unmap ys i at

pub pair_cell : (pl : List (List Span)) (i : ℕ) (p : ℕ × ℕ) → get_elem? (cells_with_blocks pl) i ≡ some p → get_elem? (cells_of_plan pl) i ≡ some p.1
unfolding cells_with_blocks
pair_cell pl i p at = pair_cell_from 0 pl i p at

-- the same of the cells beside their blocks
pub pair_once : (pl : List (List Span)) (size : ℕ) → IsDisjointWithin pl size → (i j : ℕ) (p q : ℕ × ℕ) → get_elem? (cells_with_blocks pl) i ≡ some p → get_elem? (cells_with_blocks pl) j ≡ some q → p.1 ≡ q.1 → i ≡ j
pair_once pl size apart i j p q e f same = apart.once i j p.1 (pair_cell pl i p e) (pair_cell pl j q f ∙ ap some (sym same))

pub pair_inside : (pl : List (List Span)) (size : ℕ) → IsDisjointWithin pl size → (i : ℕ) (p : ℕ × ℕ) → get_elem? (cells_with_blocks pl) i ≡ some p → p.1 < size
pair_inside pl size apart i p at = apart.inside i p.1 (pair_cell pl i p at)

pub block_of : {V : Type 0} (items : V → List Span) (all : List V) (i : ℕ) (v : V) → i < length all → v ≡ get_or all i v → items v ≡ get_or (map items all) i []
block_of items all i v h is = ap items is ∙ sym (get_or-map items all i v [] h)

-- what a loop over the blocks knows of the block that it has reached
pub reached : {V : Type 0} (items : V → List Span) (all here : List V) (i : ℕ) (v : V) (mine : List Span) → here ≡ all → i < length here → v ≡ get_or here i v → mine ≡ items v
    → (i < length (map items all)) × (mine ≡ get_or (map items all) i [])
reached {V} items all here i v mine same h is value =
    let k : i < length all = subst (λ (l : List V). i < length l) same h in (
      omega (arith, length-map {B = List Span} all items),
      value ∙ block_of items all i v k (is ∙ ap (λ (l : List V). get_or l i v) same),
    )

pub new_lanes-snoc : (c : CellsValue) (b n : ℕ) → new_lanes c b (n + 1) ≡ new_lanes c b n ++ new_lane c (b + n) ∷ []
new_lanes-snoc c b zero = let e : b ≡ b + 0 = omega arith in ap (λ k. new_lane c k ∷ []) e
new_lanes-snoc c b (suc n) = let e : suc n + 1 ≡ suc (n + 1) = omega arith in let f : suc b + n ≡ b + suc n = omega arith in
    ap (new_lanes c b) e ∙ (ap (λ l. new_lane c b ∷ l) (new_lanes-snoc c (suc b) n) ∙ ap (λ k. new_lane c b ∷ (new_lanes c (suc b) n ++ new_lane c k ∷ [])) f)

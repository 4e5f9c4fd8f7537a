-- Memories with contents written back.
use Rattle.std.proofs.Common.{◌≡◌, ℕ, ◌+◌, ◌-◌, ◌<◌, ◌≤◌, List, [], ◌∷◌, ◌++◌, map, length, length-append, get_or, take, set, sym, refl, ap, ◌∙◌, arith, ℤ, length-set}
use mathlib.Core.Option.{some}
use lib.ListN.{get_elem?}
use Rattle.spf_region.specs.declared.span.Span.{Span}
use Rattle.spf_cells.specs.declared.view.Setting.{Setting}
use Rattle.spf_cells.specs.declared.view.TakenLane.{TakenLane}
use Rattle.spf_cells.specs.Spans.{consecutive, cells_of, cells_of_plan, IsDisjointWithin}
use Rattle.spf_cells.specs.Values.{LaneValue, CellsValue, content_at, spans_of, IsLaneOf}
use Rattle.spf_cells.specs.Finish.{write_back, write_back_all, HaveWordsFrom, AreAllLanes, taken_as}
use Rattle.spf_cells.proofs.Spans.{consecutive_at, cells_snoc, consecutive_there, at_right}
use Rattle.spf_cells.proofs.Plans.{pair_inside, consecutive-snoc, pair_at}

pub length-write_back : (f : ℕ → ℤ) (cs : List ℕ) (m : List ℤ) → length (write_back f cs m) ≡ length m
length-write_back f [] m = refl
length-write_back f (c ∷ cs) m = length-write_back f cs (set m c (f c)) ∙ length-set m c (f c)

pub write_back-append : (f : ℕ → ℤ) (cs ds : List ℕ) (m : List ℤ) → write_back f (cs ++ ds) m ≡ write_back f ds (write_back f cs m)
write_back-append f [] ds m = refl
write_back-append f (c ∷ cs) ds m = write_back-append f cs ds (set m c (f c))

pub consecutive_here : (from to cell : ℕ) → from ≤ cell → cell < to → get_elem? (consecutive from (to - from)) (cell - from) ≡ some cell
consecutive_here from to cell low high = let e : from + (cell - from) ≡ cell = omega arith in consecutive_at from (to - from) (cell - from) (omega arith) ∙ ap some e

-- one more cell of a span
pub write_back-consecutive : (f : ℕ → ℤ) (from cell : ℕ) (m : List ℤ) → from ≤ cell → set (write_back f (consecutive from (cell - from)) m) cell (f cell) ≡ write_back f (consecutive from (cell + 1 - from)) m
write_back-consecutive f from cell m low =
    let e : cell + 1 - from ≡ (cell - from) + 1 = omega arith in
    let g : from + (cell - from) ≡ cell = omega arith in
    ap (λ k. set (write_back f (consecutive from (cell - from)) m) k (f k)) (sym g) ∙ (sym (write_back-append f (consecutive from (cell - from)) ((from + (cell - from)) ∷ []) m) ∙ ap (λ l. write_back f l m) (sym (consecutive-snoc from (cell - from)) ∙ ap (consecutive from) (sym e)))

-- the cells of one span stand where the block's cells do
pub stand_part : (k : Setting) (b n : ℕ) (ss : List Span) (i : ℕ) (d : Span) → i < length ss → HaveWordsFrom k b n (cells_of ss)
    → HaveWordsFrom k b (n + length (cells_of (take i ss))) (consecutive (get_or ss i d).from ((get_or ss i d).to - (get_or ss i d).from))
stand_part k b n ss i d h stand j c at =
    let front : List ℕ = cells_of (take i ss) in
    let mine : List ℕ = consecutive (get_or ss i d).from ((get_or ss i d).to - (get_or ss i d).from) in
    let there = consecutive_there ss i d h j c at in
    let s = stand (length front + j) c there in
    (s.0, (let e = s.1 in omega arith), s.2)

pub write_back_more : (f : ℕ → ℤ) (ss : List Span) (i : ℕ) (d : Span) (m : List ℤ) → i < length ss
    → write_back f (consecutive (get_or ss i d).from ((get_or ss i d).to - (get_or ss i d).from)) (write_back f (cells_of (take i ss)) m) ≡ write_back f (cells_of (take (i + 1) ss)) m
write_back_more f ss i d m h = sym (write_back-append f (cells_of (take i ss)) (consecutive (get_or ss i d).from ((get_or ss i d).to - (get_or ss i d).from)) m) ∙ ap (λ l. write_back f l m) (sym (cells_snoc ss i d h))

pub write_back_all-snoc : (ls : List LaneValue) (l : LaneValue) (m : List ℤ) → write_back_all (ls ++ l ∷ []) m ≡ write_back (content_at l) (cells_of (spans_of l)) (write_back_all ls m)
write_back_all-snoc [] l m = refl
write_back_all-snoc (x ∷ xs) l m = write_back_all-snoc xs l (write_back (content_at x) (cells_of (spans_of x)) m)

pub length-write_back_all : (ls : List LaneValue) (m : List ℤ) → length (write_back_all ls m) ≡ length m
length-write_back_all [] m = refl
length-write_back_all (x ∷ xs) m = length-write_back_all xs (write_back (content_at x) (cells_of (spans_of x)) m) ∙ length-write_back (content_at x) (cells_of (spans_of x)) m

-- the lane that comes next is of these cells, and its cells lie in the memory
pub next_is : (w : CellsValue) (all done rest : List LaneValue) (l : LaneValue) → AreAllLanes w all → all ≡ done ++ l ∷ rest → IsLaneOf w l × (l.block < length w.setting.plan)
next_is w all done rest l are is =
    let at : get_elem? all (length done) ≡ some l = let e : length done ≡ length done + 0 = omega arith in ap (λ (x : List LaneValue). get_elem? x (length done)) is ∙ (ap (get_elem? (done ++ l ∷ rest)) e ∙ at_right done (l ∷ rest) 0) in
    let h = are.1 (length done) l at in
    let long = ap length is in
    let count = are.0 in
    let block = h.1 in
    (h.0, omega (arith, length-append done (l ∷ rest)))

pub cells_inside : (k : Setting) (b n : ℕ) → IsDisjointWithin k.plan n → b < length k.plan → (j c : ℕ) → get_elem? (cells_of (get_or k.plan b [])) j ≡ some c → c < n
cells_inside k b n apart room j c at = pair_inside k.plan n apart (length (cells_of_plan (take b k.plan)) + j) (b, c) (pair_at k.plan b j c room at)

map_map : (ls : List LaneValue) → map (λ x. x.log) (map taken_as ls) ≡ map (λ l. l.log) ls
map_map [] = refl
map_map (x ∷ xs) = ap (λ l. x.log ∷ l) (map_map xs)

pub logs_of : (ls : List LaneValue) (taken : List TakenLane) → taken ≡ map taken_as ls → map (λ x. x.log) taken ≡ map (λ l. l.log) ls
logs_of ls taken is = ap (map (λ (x : TakenLane). x.log)) is ∙ map_map ls

pub no_rest : (n : ℕ) (l : List LaneValue) → n ≡ 0 → n ≡ length l → l ≡ []
no_rest n [] z e = refl
no_rest n (x ∷ xs) z e = absurd (omega arith)

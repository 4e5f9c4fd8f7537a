-- What a memory holds once the contents of all lanes are written back.
use Rattle.std.proofs.Common.{◌≡◌, ◌⊎◌, inl, inr, ℕ, zero, suc, ◌+◌, ◌-◌, ◌<◌, ◌≤◌, List, [], ◌∷◌, ◌++◌, map, slice_get, Some, length, get_or, take, set, sym, refl, ap, ◌∙◌, subst, arith, ℤ, pos, length-set, get_or-set_same, get_or-set_other}
use Rattle.std.specs.List.{Contains}
use Rattle.std.proofs.lemmas.List.{same_lists, get_or_default, get_or-map}
use mathlib.Core.Option.{some, some-injective, some-ne-none}
use mathlib.Core.Logic.{dite}
use native.Mathlib.Decide.{ℕ_discrete}
use lib.ListN.{get_elem?, length-map}
use Rattle.spf_region.specs.declared.span.Span.{Span}
use Rattle.spf_cells.specs.declared.segment.Segment.{Segment}
use Rattle.spf_cells.specs.declared.view.Setting.{Setting}
use Rattle.spf_cells.specs.declared.view.LogEntry.{LogEntry}
use Rattle.spf_cells.specs.Segments.{AreSegmentsOf}
use Rattle.spf_cells.specs.Spans.{consecutive, cells_of, cells_of_plan, cells_with_blocks, Covers, IsDisjointWithin}
use Rattle.spf_cells.specs.Values.{LaneValue, CellsValue, content_at, spans_of}
use Rattle.spf_cells.specs.Log.{IsLogOf}
use Rattle.spf_cells.specs.Finish.{write_back, write_back_all, AreAllLanes, IsFinish}
use Rattle.spf_cells.proofs.Spans.{below, at_append, consecutive_has, cell_found}
use Rattle.spf_cells.proofs.Plans.{pair_inside, pair_once, pair_at}
use Rattle.spf_cells.proofs.WritingBack.{length-write_back, length-write_back_all}

at_c : List ℤ → ℕ → ℤ
at_c m c = get_or m c (pos 0)

write_back_stays : (f : ℕ → ℤ) (cs : List ℕ) (m : List ℤ) (c : ℕ) → c < length m → get_or m c (pos 0) ≡ f c → get_or (write_back f cs m) c (pos 0) ≡ f c
write_back_stays f [] m c low h = h
write_back_stays f (x ∷ xs) m c low h = write_back_stays f xs (set m x (f x)) c (let e = length-set m x (f x) in omega arith)
    (dite (ℕ_discrete c x) (λ e. subst (λ y. get_or (set m y (f y)) c (pos 0) ≡ f c) e (get_or-set_same m c (f c) (pos 0) low)) (λ ne. get_or-set_other m x c (f x) (pos 0) ne ∙ h))

pub write_back_own : (f : ℕ → ℤ) (cs : List ℕ) (m : List ℤ) (c j : ℕ) → c < length m → get_elem? cs j ≡ some c → get_or (write_back f cs m) c (pos 0) ≡ f c
write_back_own f [] m c j low at = absurd (some-ne-none c (sym at))
write_back_own f (x ∷ xs) m c zero low at = write_back_stays f xs (set m x (f x)) c (let e = length-set m x (f x) in omega arith)
    (subst (λ y. get_or (set m y (f y)) c (pos 0) ≡ f c) (sym (some-injective x c at)) (get_or-set_same m c (f c) (pos 0) low))
write_back_own f (x ∷ xs) m c (suc j) low at = write_back_own f xs (set m x (f x)) c j (let e = length-set m x (f x) in omega arith) at

pub write_back_other : (f : ℕ → ℤ) (cs : List ℕ) (m : List ℤ) (c : ℕ) → ((j : ℕ) → get_elem? cs j ≡ some c → ⊥) → get_or (write_back f cs m) c (pos 0) ≡ get_or m c (pos 0)
write_back_other f [] m c out = refl
write_back_other f (x ∷ xs) m c out = write_back_other f xs (set m x (f x)) c (λ j at. out (suc j) at) ∙ get_or-set_other m x c (f x) (pos 0) (λ e. out 0 (ap some (sym e)))

write_back_all_other : (ls : List LaneValue) (m : List ℤ) (c : ℕ) → ((i : ℕ) (l : LaneValue) → get_elem? ls i ≡ some l → ¬ Covers (spans_of l) c) → get_or (write_back_all ls m) c (pos 0) ≡ get_or m c (pos 0)
write_back_all_other [] m c out = refl
write_back_all_other (x ∷ xs) m c out = write_back_all_other xs (write_back (content_at x) (cells_of (spans_of x)) m) c (λ i l at. out (suc i) l at)
    ∙ write_back_other (content_at x) (cells_of (spans_of x)) m c (λ j at. out 0 x refl (j, at))

write_back_all_own : (ls : List LaneValue) (m : List ℤ) (i c : ℕ) (l : LaneValue) → c < length m → get_elem? ls i ≡ some l → Covers (spans_of l) c
    → ((k : ℕ) (o : LaneValue) → get_elem? ls k ≡ some o → Covers (spans_of o) c → k ≡ i) → get_or (write_back_all ls m) c (pos 0) ≡ content_at l c
write_back_all_own [] m i c l low at cov one = absurd (some-ne-none l (sym at))
write_back_all_own (x ∷ xs) m zero c l low at cov one =
    let same : x ≡ l = some-injective x l at in
    write_back_all_other xs (write_back (content_at x) (cells_of (spans_of x)) m) c (λ k o there h. let e = one (suc k) o there h in omega arith)
    ∙ (write_back_own (content_at x) (cells_of (spans_of x)) m c cov.0 low (ap (λ y. get_elem? (cells_of (spans_of y)) cov.0) same ∙ cov.1) ∙ ap (λ y. content_at y c) same)
write_back_all_own (x ∷ xs) m (suc i) c l low at cov one = write_back_all_own xs (write_back (content_at x) (cells_of (spans_of x)) m) i c l
    (let e = length-write_back (content_at x) (cells_of (spans_of x)) m in omega arith) at cov (λ k o there h. let e = one (suc k) o there h in omega arith)

-- each of these lanes keeps what a lane's log keeps
abbrev pub KeepLogs : List LaneValue → Type 0
KeepLogs [] = Unit {0}
KeepLogs (l ∷ ls) = IsLogOf l.setting l.block l.log × KeepLogs ls

pub keep_snoc : (ls : List LaneValue) (l : LaneValue) → KeepLogs ls → IsLogOf l.setting l.block l.log → KeepLogs (ls ++ l ∷ [])
keep_snoc [] l h k = (k, tt)
keep_snoc (x ∷ xs) l h k = (h.0, keep_snoc xs l h.1 k)

log_at : (ls : List LaneValue) (b : ℕ) (log : List LogEntry) → KeepLogs ls → slice_get (map (λ l. l.log) ls) b ≡ Some log → (l : LaneValue) × (get_elem? ls b ≡ some l) × (l.log ≡ log) × IsLogOf l.setting l.block l.log
log_at [] b log h at = absurd cc
log_at (l ∷ ls) zero log h at = (l, refl, cc, h.0)
log_at (l ∷ ls) (suc b) log h at = log_at ls b log h.1 at

-- so each log of the trace is one of its block
logs_kept : (w : CellsValue) (ls : List LaneValue) (trace : List (List LogEntry)) → AreAllLanes w ls → KeepLogs ls → trace ≡ map (λ l. l.log) ls → (b : ℕ) (log : List LogEntry) → slice_get trace b ≡ Some log → IsLogOf w.setting b log
logs_kept w ls trace are kept logs b log at =
    let l = log_at ls b log kept (ap (λ (x : List (List LogEntry)). slice_get x b) (sym logs) ∙ at) in
    let is = are.1 b l.0 l.1 in
    subst (λ (x : Setting × ℕ × List LogEntry). IsLogOf x.0 x.1 x.2) (λ t. (is.0.1 t, is.1 t, l.2 t)) l.3

-- a lane's cell, with its block, among those of the plan
lane_pair : (w : CellsValue) (ls : List LaneValue) → AreAllLanes w ls → (i c : ℕ) (l : LaneValue) → get_elem? ls i ≡ some l → (h : Covers (spans_of l) c)
    → (n : ℕ) × (get_elem? (cells_with_blocks w.setting.plan) n ≡ some (i, c))
lane_pair w ls are i c l at h =
    let a = are.1 i l at in
    let room : i < length w.setting.plan = let b = below ls i l at in let e = are.0 in omega arith in
    let mine : get_elem? (cells_of (get_or w.setting.plan i [])) h.0 ≡ some c = (λ t. get_elem? (cells_of (get_or (sym a.0.1 t).plan (sym a.1 t) [])) h.0) ∙ h.1 in
    (length (cells_of_plan (take i w.setting.plan)) + h.0, pair_at w.setting.plan i h.0 c room mine)

lane_own : (w : CellsValue) (ls : List LaneValue) (m : List ℤ) → AreAllLanes w ls → IsDisjointWithin w.setting.plan (length m) → (i c : ℕ) (l : LaneValue) → get_elem? ls i ≡ some l → Covers (spans_of l) c
    → get_or (write_back_all ls m) c (pos 0) ≡ content_at l c
lane_own w ls m are apart i c l at cov =
    let s = lane_pair w ls are i c l at cov in
    write_back_all_own ls m i c l (pair_inside w.setting.plan (length m) apart s.0 (i, c) s.1) at cov
    (λ k o there h. let t = lane_pair w ls are k c o there h in
    let n : t.0 ≡ s.0 = pair_once w.setting.plan (length m) apart t.0 s.0 (k, c) (i, c) t.1 s.1 refl in
    ap (λ p. p.0) (some-injective (k, c) (i, c) (sym t.1 ∙ (ap (get_elem? (cells_with_blocks w.setting.plan)) n ∙ s.1))))

-- what is left, once all lanes are taken over and written back
pub finished : (w : CellsValue) (ls : List LaneValue) (trace : List (List LogEntry)) (before after : List ℤ) → AreAllLanes w ls → IsDisjointWithin w.setting.plan (length before) → KeepLogs ls
    → trace ≡ map (λ l. l.log) ls → after ≡ write_back_all ls before → IsFinish w ls trace before after
finished w ls trace before after are apart kept logs is = record {
  logs = logs;
  kept = logs_kept w ls trace are kept logs;
  size = ap length is ∙ length-write_back_all ls before;
  own = λ i c l at cov. ap (λ (m : List ℤ). get_or m c (pos 0)) is ∙ lane_own w ls before are apart i c l at cov;
  others = λ c out. ap (λ (m : List ℤ). get_or m c (pos 0)) is ∙ write_back_all_other ls before c out;
}

is_there : (cs : List ℕ) (c : ℕ) → ((j : ℕ) × (get_elem? cs j ≡ some c)) ⊎ ((j : ℕ) → get_elem? cs j ≡ some c → ⊥)
is_there [] c = inr (λ j at. some-ne-none c (sym at))
is_there (x ∷ xs) c = dite (ℕ_discrete x c) (λ e. inl (0, ap some e)) (λ ne. elim (is_there xs c) [
  | inl h ↦ inl (suc h.0, h.1)
  | inr out ↦ inr (λ j at. not_here j at ne out)
])
  where
    not_here : (j : ℕ) → get_elem? (x ∷ xs) j ≡ some c → (x ≡ c → ⊥) → ((j : ℕ) → get_elem? xs j ≡ some c → ⊥) → ⊥
    not_here zero at ne out = ne (some-injective x c at)
    not_here (suc j) at ne out = out j at

-- the order in which cells are written back makes no difference to the memory
pub write_back_same : (f : ℕ → ℤ) (cs ds : List ℕ) (m : List ℤ) → ((j c : ℕ) → get_elem? cs j ≡ some c → (k : ℕ) × (get_elem? ds k ≡ some c)) → ((j c : ℕ) → get_elem? ds j ≡ some c → (k : ℕ) × (get_elem? cs k ≡ some c))
    → write_back f cs m ≡ write_back f ds m
write_back_same f cs ds m to from = same_lists (write_back f cs m) (write_back f ds m) (length-write_back f cs m ∙ sym (length-write_back f ds m)) (λ k d low.
    let short : k < length m = omega (arith, length-write_back f cs m) in
    let short' : k < length (write_back f ds m) = omega (arith, length-write_back f ds m) in
    get_or_default (write_back f cs m) k d (pos 0) low ∙ (at k short ∙ get_or_default (write_back f ds m) k (pos 0) d short'))
  where
    at : (k : ℕ) → k < length m → get_or (write_back f cs m) k (pos 0) ≡ get_or (write_back f ds m) k (pos 0)
    at k low = elim (is_there cs k) [
      | inl h ↦ let r = to h.0 k h.1 in write_back_own f cs m k h.0 low h.1 ∙ sym (write_back_own f ds m k r.0 low r.1)
      | inr out ↦ write_back_other f cs m k out ∙ sym (write_back_other f ds m k (λ j there. let r = from j k there in out r.0 r.1))
    ]

-- the segments' spans
abbrev pub spans_of_segments : List Segment → List Span
spans_of_segments ss = map (λ s. s.span) ss

pub span_at : (ss : List Segment) (i : ℕ) (d : Segment) (e : Span) → i < length ss → get_or (spans_of_segments ss) i e ≡ (get_or ss i d).span
span_at ss i d e low = get_or-map (λ (s : Segment). s.span) ss i d e low

-- a cell of the segments' spans is in one of them
held_by : (ss : List Segment) (j c : ℕ) → get_elem? (cells_of (spans_of_segments ss)) j ≡ some c → (s : Segment) × Contains ss s × (s.span.from ≤ c) × (c < s.span.to)
held_by [] j c at = absurd (some-ne-none c (sym at))
held_by (x ∷ xs) j c at = elim (at_append (consecutive x.span.from (x.span.to - x.span.from)) (cells_of (spans_of_segments xs)) j c at) [
  | inl here ↦ let r = consecutive_has x.span.from (x.span.to - x.span.from) j c here in let low = r.0 in let high = r.1 in (x, (0, omega arith, refl), r.0, omega arith)
  | inr far ↦ let s = held_by xs far.0 c far.2 in let low = s.1.1 in (s.0, (suc s.1.0, omega arith, s.1.2), s.2, s.3)
]

-- and the other way round
cell_in : (ss : List Segment) (s : Segment) (c : ℕ) → Contains ss s → s.span.from ≤ c → c < s.span.to → (k : ℕ) × (get_elem? (cells_of (spans_of_segments ss)) k ≡ some c)
cell_in ss s c there low high =
    let i : ℕ = there.0 in
    let all : List Span = spans_of_segments ss in
    let is : get_or all i s.span ≡ s.span = span_at ss i s s.span there.1 ∙ ap (λ (y : Segment). y.span) there.2 in
    let room : i < length all = let h = there.1 in omega (arith, length-map {B = Span} ss (λ s. s.span)) in
    (length (cells_of (take i all)) + (c - (get_or all i s.span).from), cell_found all i s.span room c (subst (λ (y : Span). y.from ≤ c) (sym is) low) (subst (λ (y : Span). c < y.to) (sym is) high))

-- a block's cells written back segment by segment
pub write_back_segments_same : (f : ℕ → ℤ) (ss : List Segment) (cells : List ℕ) (first : ℕ) (m : List ℤ) → AreSegmentsOf ss cells first → write_back f (cells_of (spans_of_segments ss)) m ≡ write_back f cells m
write_back_segments_same f ss cells first m are = write_back_same f (cells_of (spans_of_segments ss)) cells m
    (λ j c at. let s = held_by ss j c at in let l = are.laid s.0 c (s.0.word + (c - s.0.span.from)) s.1 (s.2, s.3, refl) in (l.0, l.2))
    (λ j c at. let s = are.whole j c at in cell_in ss s.0 c s.1 s.2 s.3)

-- A lane's type holds after each of its steps.
use Rattle.std.proofs.Common.{get_or-set_same, get_or-set_other, ◌≢◌, ◌≡◌, ℕ, ◌+◌, ◌-◌, ◌^◌, ◌<◌, ◌≤◌, List, [], ◌∷◌, ◌++◌, length, take, get_or, refl, sym, ap, ◌∙◌, arith, subst, ℤ, pos}
use Rattle.std.specs.List.{Contains}
use mathlib.Core.Option.{some, none}
use lib.ListN.{get_elem?}
use Rattle.atomic_table.specs.Table.{Me, step, Allows}
use Rattle.atomic_table.specs.declared.shared.Seat.{Seat}
use Rattle.spf_cells.specs.declared.segment.Segment.{Segment}
use Rattle.spf_cells.specs.declared.view.Setting.{Setting}
use Rattle.spf_cells.specs.declared.view.LogEntry.{LogEntry}
use Rattle.spf_cells.specs.declared.view.LogEntry.TheVariants.{Store}
use Rattle.spf_cells.specs.declared.view.View.{View}
use Rattle.spf_cells.specs.declared.lane.Lane.TheInside.{Inside}
use Rattle.spf_ast.specs.Event.{after}
use Rattle.spf_cells.specs.Log.{IsPossibleTurn, ArePossibleTurns, IsLogOf, events}
use Rattle.spf_cells.specs.Spans.{cells_with_blocks, cells_of, cells_of_plan, Covers}
use Rattle.spf_cells.specs.Segments.{AreSegmentsOf, Holds, first_word}
use Rattle.spf_cells.specs.Rule.{blocks, view_of, lane_view, log_of, role_logging, Logs, IsConsistentTable, cell_of_word, IsLoad, IsStore, IsPoll}
use Rattle.spf_cells.specs.Values.{LaneValue, spans_of, content_at, logged, IsWordOf}
use Rattle.spf_cells.specs.Lane.{IsLane, setting_of, lane_value}
use Rattle.spf_cells.proofs.Logs.{after-append, length-after, consistent-append, FitsOne}
use Rattle.spf_cells.proofs.Spans.{below}
use Rattle.spf_cells.proofs.Plans.{pair_at, plan_room, length-cells_with_blocks}
use Rattle.spf_cells.proofs.Segments.{segment_room}
use Rattle.spf_cells.proofs.LaneRule.{loads, stores, polls, cell_is}

turns-append : (k : Setting) (b : ℕ) (es : List LogEntry) (e : LogEntry) → ArePossibleTurns k b es → IsPossibleTurn k b e → ArePossibleTurns k b (es ++ e ∷ [])
turns-append k b [] e h m = (m, tt)
turns-append k b (x ∷ xs) e h m = (h.0, turns-append k b xs e h.1 m)

log_in : Inside → List LogEntry
log_in a = log_of a.seat.me.0.role

-- the seat after a step that adds e
now_is : (a : Inside) → IsLane a → (e : LogEntry) (p : Seat ℕ View) → Logs a.seat.me e p.me → p.me ≡ (lane_view (setting_of a) a.block (log_of a.seat.me.0.role ++ e ∷ []), [])
now_is a h e p now = now ∙ (λ t. (view_of (setting_of a) (role_logging ((h.seat t).0.role) e), (h.seat t).1))

pub grows : (a : Inside) → IsLane a → (e : LogEntry) (p : Seat ℕ View) → p.table_id ≡ a.seat.table_id → Logs a.seat.me e p.me
    → FitsOne e (after (events (log_of a.seat.me.0.role)) (setting_of a).entry) → IsPossibleTurn (setting_of a) a.block e → IsLane (record a { seat = p })
grows a h e p table one fits turn =
    let now = now_is a h e p one in
    let k : Setting = setting_of a in
    let log : List LogEntry = log_of a.seat.me.0.role in
    let setting : p.me.0.setting ≡ k = ap (λ (m : Me ℕ View). m.0.setting) now in
    let log' : log_of p.me.0.role ≡ log ++ e ∷ [] = ap (λ (m : Me ℕ View). log_of m.0.role) now in record {
      seat = now ∙ (λ t. (lane_view (sym setting t) a.block (sym log' t), []));
      block = subst (λ (z : Setting). a.block < blocks z) (sym setting) h.block;
      words = ap (λ z. z.words) table ∙ h.words ∙ ap (λ (z : Setting). blocks z + length (cells_with_blocks z.plan)) (sym setting);
      small = subst (λ z. z < 2 ^ 63) (ap (λ z. z.words) (sym table)) h.small;
      segments = subst (λ (z : Setting). AreSegmentsOf a.segments.items (cells_of (get_or z.plan a.block [])) (first_word z a.block)) (sym setting) h.segments;
      order = h.order;
      first = h.first;
      inside = subst (λ (z : Setting). (c : ℕ) → Covers (get_or z.plan a.block []) c → c < length z.entry) (sym setting) h.inside;
      log = subst (λ (z : List LogEntry × Setting). IsLogOf z.1 a.block z.0) (λ t. (sym log' t, sym setting t))
          record { consistent = consistent-append log e k.entry h.log.consistent fits; turns = turns-append k a.block log e h.log.turns turn };
    }

pub grown : (a : Inside) → IsLane a → (e : LogEntry) (p : Seat ℕ View) → p.table_id ≡ a.seat.table_id → Logs a.seat.me e p.me → lane_value (record a { seat = p }) ≡ logged (lane_value a) e
grown a h e p table one = let now = now_is a h e p one in
    λ t. record { table = table t; setting = (now t).0.setting; block = a.block; log = log_of ((now t).0.role) }

pub may_poll : (a : Inside) → IsLane a → (key : Setting) (slots : ℕ) → Allows (IsConsistentTable key) slots a.seat.id a.seat.me a.block (λ n. n) (IsPoll (step slots a.block 0 0 none) a.seat.me)
may_poll a h key slots = let P : Me ℕ View → Type 0 = λ m. Allows (IsConsistentTable key) slots a.seat.id m a.block (λ n. n) (IsPoll (step slots a.block 0 0 none) m) in
    subst P (sym h.seat) (polls key (setting_of a) slots a.seat.id a.block (log_of a.seat.me.0.role) [])

pub may_load : (a : Inside) → IsLane a → (key : Setting) (slots word i c : ℕ) → word ≡ blocks (setting_of a) + i → get_elem? (cells_with_blocks (setting_of a).plan) i ≡ some (a.block, c)
    → Allows (IsConsistentTable key) slots a.seat.id a.seat.me word (λ n. n) (IsLoad (step slots word 0 0 none) a.seat.me)
may_load a h key slots word i c is pair = let P : Me ℕ View × ℕ → Type 0 = λ m. Allows (IsConsistentTable key) slots a.seat.id m.0 m.1 (λ n. n) (IsLoad (step slots m.1 0 0 none) m.0) in
    subst P (λ t. (sym h.seat t, sym is t)) (loads key (setting_of a) slots a.seat.id a.block i c (log_of a.seat.me.0.role) [] pair)

pub may_store : (a : Inside) → IsLane a → (key : Setting) (slots word i c x : ℕ) → word ≡ blocks (setting_of a) + i → get_elem? (cells_with_blocks (setting_of a).plan) i ≡ some (a.block, c)
    → Allows (IsConsistentTable key) slots a.seat.id a.seat.me word (λ _. x) (λ _. IsStore (step slots word x 0 none) a.seat.me x)
may_store a h key slots word i c x is pair = let P : Me ℕ View × ℕ → Type 0 = λ m. Allows (IsConsistentTable key) slots a.seat.id m.0 m.1 (λ _. x) (λ _. IsStore (step slots m.1 x 0 none) m.0 x) in
    let mine : a.seat.me ≡ (lane_view (setting_of a) a.block (log_of a.seat.me.0.role), []) = h.seat in
    subst P (λ t. (sym mine t, sym is t)) (stores key (setting_of a) slots a.seat.id a.block i c x (log_of a.seat.me.0.role) [] pair)

-- the words of a block's cells lie in the table
pub cells_fit : (a : Inside) → IsLane a → first_word (setting_of a) a.block + length (cells_of (spans_of (lane_value a))) ≤ a.seat.table_id.words
cells_fit a h = let k : Setting = setting_of a in let words = h.words in omega (arith, plan_room k.plan a.block h.block, length-cells_with_blocks k.plan)

pub segment_fits : (a : Inside) → IsLane a → (s : Segment) → Contains a.segments.items s → s.word + (s.span.to - s.span.from) < 2 ^ 63
segment_fits a h s there = let small = h.small in omega (arith, cells_fit a h, segment_room (setting_of a) a.block a.segments.items h.segments s there (h.order.filled s there))

-- a cell of a segment is the lane's, and has its word, which is in the table
pub cell_word : (a : Inside) → IsLane a → (c w : ℕ) → ((s : Segment) × Contains a.segments.items s × Holds s c w) → Covers (spans_of (lane_value a)) c × IsWordOf (lane_value a) c w × (w < a.seat.table_id.words)
cell_word a h c w s =
    let k : Setting = setting_of a in
    let l = h.segments.laid s.0 c w s.1 s.2 in
    let word = l.1 in
    let low = below (cells_of (spans_of (lane_value a))) l.0 c l.2 in (
      (l.0, l.2),
      (length (cells_of_plan (take a.block k.plan)) + l.0, omega arith, pair_at k.plan a.block l.0 c h.block l.2),
      omega (arith, cells_fit a h),
    )

-- a cell of the lane is in a segment
pub cell_held : (a : Inside) → IsLane a → (c : ℕ) → Covers (spans_of (lane_value a)) c → ((s : Segment) (w : ℕ) → Contains a.segments.items s → ¬ Holds s c w) → ⊥
cell_held a h c there not = let s = h.segments.whole there.0 c there.1 in not s.0 (s.0.word + (c - s.0.span.from)) s.1 (s.2, s.3, refl)

-- the word of a cell, as the step's event has it
pub cell_here : (a : Inside) (word c : ℕ) → IsWordOf (lane_value a) c word → cell_of_word (setting_of a) word ≡ c
cell_here a word c h = ap (cell_of_word (setting_of a)) h.1 ∙ cell_is (setting_of a) h.0 a.block c h.2

-- the cells of a lane lie in the entry
pub own_inside : (a : Inside) → IsLane a → (l : LaneValue) → lane_value a ≡ l → (c : ℕ) → Covers (spans_of l) c → c < length l.setting.entry
own_inside a h l is c there = subst (λ (v : LaneValue). c < length v.setting.entry) is (h.inside c (subst (λ (v : LaneValue). Covers (spans_of v) c) (sym is) there))

-- after a store the cell has the new word, and every other cell what it had
pub stored_here : (l : LaneValue) (c : ℕ) (v : ℤ) → c < length l.setting.entry → content_at (logged l (Store c v)) c ≡ v
stored_here l c v inside = ap (λ (m : List ℤ). get_or m c (pos 0)) (after-append l.log (Store c v) l.setting.entry)
    ∙ get_or-set_same (after (events l.log) l.setting.entry) c v (pos 0) (subst (λ n. c < n) (sym (length-after l.log l.setting.entry)) inside)

pub stored_else : (l : LaneValue) (c d : ℕ) (v : ℤ) → d ≢ c → content_at (logged l (Store c v)) d ≡ content_at l d
stored_else l c d v other = ap (λ (m : List ℤ). get_or m d (pos 0)) (after-append l.log (Store c v) l.setting.entry)
    ∙ get_or-set_other (after (events l.log) l.setting.entry) c d v (pos 0) other

-- What the warden's steps ask, as its type has them.
use Rattle.std.proofs.Common.{◌≡◌, ℕ, ◌+◌, ◌<◌, ◌≤◌, max, List, [], length, get_or, ◌^◌, sym, refl, ap, ◌∙◌, subst}
use Rattle.std.specs.List.{Contains}
use mathlib.Core.Option.{none}
use Rattle.atomic_table.specs.Table.{Me, step, Allows, Joins, Splits}
use Rattle.spf_cells.specs.declared.view.Setting.{Setting}
use Rattle.spf_cells.specs.declared.view.LogEntry.{LogEntry}
use Rattle.spf_cells.specs.declared.view.Role.{Role}
use Rattle.spf_cells.specs.declared.view.Role.TheVariants.{Spent, Lane, Warden}
use Rattle.spf_cells.specs.declared.view.View.{View}
use Rattle.spf_cells.specs.declared.warden.Warden.TheInside.{Inside}
use Rattle.spf_cells.specs.Rule.{blocks, view_of, lane_view, IsConsistentTable, IsRaise, IsReadBack, after_take_over, spent_view, with_flag, taken_of, after_hand_out, handed_out, log_of}
use Rattle.spf_cells.specs.Warden.{IsWarden, warden_of}
use Rattle.spf_cells.specs.declared.lane.Lane.TheInside as L
use Rattle.spf_cells.specs.Lane.{IsLane, setting_of}
use Rattle.spf_cells.specs.Log.{IsLogOf}
use Rattle.spf_cells.specs.Spans.{cells_with_blocks, cells_of, Covers, IsDisjointWithin}
use Rattle.spf_cells.specs.Segments.{AreSegmentsOf, IsOneOf, IsSearchable, first_word}
use Rattle.spf_cells.proofs.WritingBack.{cells_inside}
use Rattle.spf_cells.proofs.WardenRule.{raises, joins, reads_back, splits}

pub may_raise : (a : Inside) → IsWarden a → (key : Setting) (slots b x : ℕ) → b < blocks a.seat.me.0.setting → x ≤ 1 → (0 < x → Contains a.seat.me.0.setting.raisable b)
    → Allows (IsConsistentTable key) slots a.seat.id a.seat.me b (λ n. max n x) (IsRaise (step slots b x 0 none) a.seat.me)
may_raise a h key slots b x inside small may = let P : Me ℕ View → Type 0 = λ m. Allows (IsConsistentTable key) slots a.seat.id m b (λ n. max n x) (IsRaise (step slots b x 0 none) m) in
    subst P (sym h.seat) (raises key a.seat.me.0.setting slots a.seat.id b x (warden_of a.seat.me.0.role) [] inside small may)

pub may_join : (a : Inside) → IsWarden a → (key y : Setting) (other b : ℕ) (log : List LogEntry) (m : Me ℕ View) → m ≡ (lane_view y b log, [])
    → Joins (IsConsistentTable key) a.seat.id a.seat.me.0 other m.0 (after_take_over a.seat.me.0 m.0) spent_view
may_join a h key y other b log m is = let P : Me ℕ View × Me ℕ View → Type 0 = λ x. Joins (IsConsistentTable key) a.seat.id x.0.0 other x.1.0 (after_take_over x.0.0 x.1.0) spent_view in
    let w : Me ℕ View = (view_of a.seat.me.0.setting (Warden (warden_of a.seat.me.0.role)), []) in
    let mine : a.seat.me ≡ w = h.seat in
    subst P (λ t. (sym mine t, sym is t)) (joins key a.seat.me.0.setting y a.seat.id other b (warden_of a.seat.me.0.role) log)

pub may_read_back : (a : Inside) → IsWarden a → (key : Setting) (slots word i : ℕ) → word ≡ blocks a.seat.me.0.setting + i
    → Allows (IsConsistentTable key) slots a.seat.id a.seat.me word (λ n. n) (IsReadBack (step slots word 0 0 none) a.seat.me)
may_read_back a h key slots word i is = let P : Me ℕ View × ℕ → Type 0 = λ x. Allows (IsConsistentTable key) slots a.seat.id x.0 x.1 (λ n. n) (IsReadBack (step slots x.1 0 0 none) x.0) in
    let w : Me ℕ View = (view_of a.seat.me.0.setting (Warden (warden_of a.seat.me.0.role)), []) in
    let mine : a.seat.me ≡ w = h.seat in
    subst P (λ t. (sym mine t, sym is t)) (reads_back key a.seat.me.0.setting slots a.seat.id i (warden_of a.seat.me.0.role) [])

pub same_taken : (r : Role) (b x : ℕ) → (warden_of (with_flag r b x)).taken ≡ taken_of r
same_taken Spent b x = refl
same_taken (Lane c log) b x = refl
same_taken (Warden p) b x = refl

pub may_split : (a : Inside) → IsWarden a → (key : Setting) → (warden_of a.seat.me.0.role).made < blocks a.seat.me.0.setting
    → Splits (IsConsistentTable key) a.seat.id a.seat.me.0 (after_hand_out a.seat.me.0) (handed_out a.seat.me.0)
may_split a h key room = let P : Me ℕ View → Type 0 = λ m. Splits (IsConsistentTable key) a.seat.id m.0 (after_hand_out m.0) (handed_out m.0) in
    subst P (sym h.seat) (splits key a.seat.me.0.setting a.seat.id (warden_of a.seat.me.0.role) room)

-- the lane that is handed out
pub new_lane_ok : (l : L.Inside) (k : Setting) (b : ℕ) → l.seat.me ≡ (lane_view k b [], []) → l.block ≡ b → b < blocks k → l.seat.table_id.words ≡ blocks k + length (cells_with_blocks k.plan)
    → l.seat.table_id.words < 2 ^ 63 → IsDisjointWithin k.plan (length k.entry) → AreSegmentsOf l.segments.items (cells_of (get_or k.plan b [])) (first_word k b) → IsSearchable l.segments.items → IsOneOf l.first l.segments.items → IsLane l
new_lane_ok l k b is block room words small apart segments order first =
    let z : setting_of l ≡ k = ap (λ m. m.0.setting) is in
    let log : log_of l.seat.me.0.role ≡ [] = ap (λ m. log_of m.0.role) is in
    let mine : (k, b) ≡ (setting_of l, l.block) = λ t. (sym z t, sym block t) in record {
      seat = is ∙ (λ t. (lane_view (sym z t) (sym block t) (sym log t), []));
      block = subst (λ (y : Setting × ℕ). y.1 < blocks y.0) mine room;
      words = words ∙ ap (λ (y : Setting). blocks y + length (cells_with_blocks y.plan)) (sym z);
      small = small;
      segments = subst (λ (y : Setting × ℕ). AreSegmentsOf l.segments.items (cells_of (get_or y.0.plan y.1 [])) (first_word y.0 y.1)) mine segments;
      order = order;
      first = first;
      inside = subst (λ (y : Setting × ℕ). (c : ℕ) → Covers (get_or y.0.plan y.1 []) c → c < length y.0.entry) mine (λ c there. cells_inside k b (length k.entry) apart room there.0 c there.1);
      log = subst (λ (x : List LogEntry). IsLogOf (setting_of l) l.block x) (sym log) record { consistent = tt; turns = tt };
    }

pub taken_keep : (r : Role) → taken_of r ≡ (warden_of r).taken
taken_keep Spent = refl
taken_keep (Lane c log) = refl
taken_keep (Warden p) = refl

use Rattle.std.proofs.Common.{subst, ◌≡◌, ℕ, ◌<◌, length, ap, sym, ◌∙◌, [], get_or, arith}
use Rattle.spf_cells.specs.declared.view.Setting.{Setting}
use Rattle.spf_cells.specs.Rule.{blocks, handed_out}
use Rattle.spf_cells.specs.Spans.{cells_of, IsDisjointWithin}
use Rattle.spf_cells.specs.Segments.{AreSegmentsOf, IsOneOf, first_word}
use Rattle.spf_cells.specs.Values.{CellsValue}
use Rattle.spf_cells.specs.Warden.{warden_of}
use Rattle.spf_cells.proofs.WardenSteps.{may_split, new_lane_ok}
use Rattle.spf_cells.proofs.warden.Warden.hand_out.Goals as goal

pub split_seat-seat-requires : goal.split_seat-seat-requires
split_seat-seat-requires c =
    let i = c.self.invariant in
    let words = i.words in
    let same : c.self.inside.seat.table_id ≡ c.cells.inside.table.shared.table_id = ap (λ v. v.table) c.self.view_is ∙ (c.requires.own.0 ∙ sym (ap (λ v. v.table) c.cells.view_is)) in
    let e = ap (λ z. z.words) same in
    let plan : length c.self.inside.seat.me.0.setting.plan ≡ length c.args.cells.now.setting.plan = ap (λ v. length v.setting.plan) c.self.view_is ∙ ap (λ z. length z.plan) c.requires.own.1 in
    let made : (warden_of c.self.inside.seat.me.0.role).made ≡ c.args.self.now.view.made = ap (λ v. v.view.made) c.self.view_is in
    let next = c.requires.next in
    let room : (warden_of c.self.inside.seat.me.0.role).made < blocks c.self.inside.seat.me.0.setting = omega arith in
    (same, omega arith, may_split c.self.inside i _ room)

pub invariant_of-result : goal.invariant_of-result
invariant_of-result c =
    let i = c.self.invariant in
    let words = i.words in
    let e = c.split_seat-seat.ensures in
    let k : Setting = c.self.inside.seat.me.0.setting in
    let b : ℕ = (warden_of c.self.inside.seat.me.0.role).made in
    let same : c.args.cells.now.setting ≡ k = sym (ap (λ v. v.setting) c.self.view_is ∙ c.requires.own.1) in
    let made : c.args.block ≡ b = c.requires.next.0 ∙ sym (ap (λ v. v.view.made) c.self.view_is) in
    let next = c.requires.next in
    let plan = ap blocks same in
    let room : b < blocks k = omega arith in
    let table = ap (λ z. z.words) e.3 in
    let small = i.small in
    let apart : IsDisjointWithin k.plan (length k.entry) = subst (λ (z : Setting). IsDisjointWithin z.plan (length z.entry)) (ap (λ (w : CellsValue). w.setting) c.cells.view_is ∙ same) c.cells.invariant.disjoint in
    new_lane_ok _ k b (e.4 ∙ ap (λ m. (handed_out m.0, [])) i.seat) made room (omega arith) (omega arith) apart
    (subst (λ (y : Setting × ℕ). AreSegmentsOf c.args.segments.items (cells_of (get_or y.0.plan y.1 [])) (first_word y.0 y.1)) (λ t. (same t, made t)) c.requires.segments) c.requires.order
    (subst (IsOneOf c.first_of.result) c.as_slice.ensures.value c.first_of.ensures)

use Rattle.std.proofs.Common.{◌≡◌, ap, sym, ◌∙◌, arith, length}
use Rattle.spf_cells.proofs.WardenSteps.{may_join}
use Rattle.spf_cells.proofs.warden.Warden.take_over.Goals as goal

pub join_seat-requires : goal.join_seat-requires
join_seat-requires c =
    let i = c.self.invariant in
    let same : c.self.inside.seat.table_id ≡ c.cells.inside.table.shared.table_id = ap (λ v. v.table) c.self.view_is ∙ (c.requires.own.0 ∙ sym (ap (λ v. v.table) c.cells.view_is)) in (
      same,
      c.into_seat-seat.ensures.table ∙ (c.requires.lane.0 ∙ sym (ap (λ v. v.table) c.cells.view_is)),
      ap (λ m. m.1) c.into_seat-seat.ensures.view,
      (let words = i.words in let e = ap (λ z. z.words) same in
          let plan : length c.self.inside.seat.me.0.setting.plan ≡ length c.args.lane.setting.plan = ap (λ v. length v.setting.plan) c.self.view_is ∙ (ap (λ z. length z.plan) c.requires.own.1 ∙ sym (ap (λ z. length z.plan) c.requires.lane.1)) in
          let room = c.into_seat-seat.ensures.inside in omega arith),
      may_join c.self.inside i _ _ _ _ _ _ c.into_seat-seat.ensures.view,
    )

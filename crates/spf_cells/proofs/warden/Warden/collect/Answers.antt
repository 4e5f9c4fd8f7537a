use Rattle.std.proofs.Common.{◌≡◌, List, [], ◌∷◌, ◌++◌, length, refl, ap, sym, ◌∙◌, arith}
use mathlib.Core.Option.{some}
use lib.ListN.{get_elem?}
use Rattle.atomic_table.proofs.Lists.{at_last}
use Rattle.spf_cells.specs.declared.view.TakenLane.{TakenLane}
use Rattle.spf_cells.specs.declared.view.WardenView.{WardenView}
use Rattle.spf_cells.specs.declared.view.Role.TheVariants.{Lane, Warden}
use Rattle.spf_cells.specs.Rule.{role_after_take_over}
use Rattle.spf_cells.specs.Warden.{warden_of}
use Rattle.spf_cells.specs.Finish.{taken_as}
use Rattle.spf_cells.proofs.WardenSteps.{may_join}
use Rattle.spf_cells.proofs.warden.Warden.collect.Goals as goal

pub join_seat-requires : goal.join_seat-requires
join_seat-requires c =
    let i = c.self.invariant in
    let same : c.self.inside.seat.table_id ≡ c.cells.inside.table.shared.table_id = ap (λ v. v.table) c.self.view_is ∙ (c.requires.own.0 ∙ sym (ap (λ v. v.table) c.cells.view_is)) in (
      same,
      c.into_parts-seat.ensures.table ∙ (c.requires.lane.0 ∙ sym (ap (λ v. v.table) c.cells.view_is)),
      ap (λ m. m.1) c.into_parts-seat.ensures.view,
      (let words = i.words in let e = ap (λ z. z.words) same in
          let plan : length c.self.inside.seat.me.0.setting.plan ≡ length c.args.lane.setting.plan = ap (λ v. length v.setting.plan) c.self.view_is ∙ (ap (λ z. length z.plan) c.requires.own.1 ∙ sym (ap (λ z. length z.plan) c.requires.lane.1)) in
          let room = c.into_parts-seat.ensures.inside in omega arith),
      may_join c.self.inside i _ _ _ _ _ _ c.into_parts-seat.ensures.view,
    )

pub write_back_segments-requires-clause-taken : goal.write_back_segments-requires-clause-taken
write_back_segments-requires-clause-taken c =
    let p : WardenView = warden_of c.self.inside.seat.me.0.role in
    let e = c.join_seat.ensures.2 in
    let new : TakenLane = taken_as c.args.lane in
    let mine : c.self.inside.seat.me.0.role ≡ Warden p = ap (λ m. m.0.role) c.self.invariant.seat in
    let its : c.into_parts-seat.result.0.me.0.role ≡ Lane c.args.lane.block c.args.lane.log = ap (λ m. m.0.role) c.into_parts-seat.ensures.view in
    let now : (warden_of c.join_seat.new.seat.me.0.role).taken ≡ p.taken ++ new ∷ [] = ap (λ m. (warden_of m.0.role).taken) e ∙ (λ t. (warden_of (role_after_take_over (mine t) (its t))).taken) in
    (length p.taken, ap (λ (l : List TakenLane). get_elem? l (length p.taken)) now ∙ (at_last p.taken new (length p.taken) refl ∙ ap (λ l. some (taken_as l)) (sym c.of-taken.ensures)))

use Rattle.std.proofs.Common.{◌≡◌, sym, ap, ◌∙◌, subst, arith}
use Rattle.atomic_table.specs.Table.{Joins}
use Rattle.spf_crew.specs.declared.view.CrewView.{CrewView}
use Rattle.spf_crew.specs.Rule.{resting, IsCrewTable, after_dismissing, spent_view}
use Rattle.spf_crew.proofs.Steps.{dismisses}
use Rattle.spf_crew.proofs.seat.ChainSeat.dismiss.Goals as goal

pub join_seat-requires : goal.join_seat-requires
join_seat-requires c =
    let i = c.self.invariant in
    let o = c.other.invariant in
    let same : c.self.inside.table_seat.table_id ≡ c.crew.inside.table.shared.table_id = ap (λ v. v.table) c.self.view_is ∙ (c.requires.own.0 ∙ sym (ap (λ v. v.table) c.crew.view_is)) in
    let also : c.other.inside.table_seat.table_id ≡ c.crew.inside.table.shared.table_id = ap (λ v. v.table) c.other.view_is ∙ (c.requires.other.0 ∙ sym (ap (λ v. v.table) c.crew.view_is)) in
    let words = ap (λ z. z.words) same in
    let two = i.words in
    let mine : c.self.inside.key.value ≡ c.crew.inside.table.shared.key.value = ap (λ v. v.setting) c.self.view_is ∙ (c.requires.own.1 ∙ sym (ap (λ v. v.setting) c.crew.view_is)) in
    let others : c.other.inside.key.value ≡ c.crew.inside.table.shared.key.value = ap (λ v. v.setting) c.other.view_is ∙ (c.requires.other.1 ∙ sym (ap (λ v. v.setting) c.crew.view_is)) in
    let v : CrewView = c.self.inside.table_seat.me.0 in
    let w : CrewView = c.other.inside.table_seat.me.0 in
    let next : v.to ≡ w.from = ap (λ x. x.to) c.self.view_is ∙ (sym c.requires.next ∙ sym (ap (λ x. x.from) c.other.view_is)) in
    let own : v ≡ resting c.crew.inside.table.shared.key.value v.from v.to v.seen v.read = ap (λ m. m.0) i.table_seat ∙ ap (λ k. resting k v.from v.to v.seen v.read) mine in
    let its : w ≡ resting c.crew.inside.table.shared.key.value v.to w.to w.seen w.read = ap (λ m. m.0) o.table_seat ∙ (λ t. resting (others t) (sym next t) w.to w.seen w.read) in
    let P : CrewView × CrewView → Type 0 = λ x. Joins (IsCrewTable c.crew.inside.table.shared.key.value) c.self.inside.table_seat.id x.0 c.other.inside.table_seat.id x.1 (after_dismissing x.0 x.1) spent_view in
    let number = o.number in (
      same,
      also,
      ap (λ m. m.1) o.table_seat,
      omega arith,
      subst P (λ t. (sym own t, sym its t)) (dismisses c.crew.inside.table.shared.key.value c.self.inside.table_seat.id c.other.inside.table_seat.id v.from v.to w.to v.seen w.seen v.read w.read i.number (omega arith)),
    )

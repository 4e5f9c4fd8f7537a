use Rattle.std.proofs.Common.{◌≡◌, sym, ap, ◌∙◌, subst, arith}
use Rattle.atomic_table.specs.Table.{Splits}
use Rattle.spf_crew.specs.declared.view.CrewView.{CrewView}
use Rattle.spf_crew.specs.Rule.{resting, IsCrewTable, after_enlisting, enlisted}
use Rattle.spf_crew.proofs.Steps.{enlists}
use Rattle.spf_crew.proofs.seat.ChainSeat.enlist.Goals as goal

pub split_seat-table_seat-requires : goal.split_seat-table_seat-requires
split_seat-table_seat-requires c =
    let i = c.self.invariant in
    let same : c.self.inside.table_seat.table_id ≡ c.crew.inside.table.shared.table_id = ap (λ v. v.table) c.self.view_is ∙ (c.requires.own.0 ∙ sym (ap (λ v. v.table) c.crew.view_is)) in
    let words = ap (λ z. z.words) same in
    let two = i.words in
    let mine : c.self.inside.key.value ≡ c.crew.inside.table.shared.key.value = ap (λ v. v.setting) c.self.view_is ∙ (c.requires.own.1 ∙ sym (ap (λ v. v.setting) c.crew.view_is)) in
    let v : CrewView = c.self.inside.table_seat.me.0 in
    let P : CrewView → Type 0 = λ x. Splits (IsCrewTable c.crew.inside.table.shared.key.value) c.self.inside.table_seat.id x (after_enlisting x) (enlisted x) in
    (same, omega arith, subst P (ap (λ k. resting k v.from v.to v.seen v.read) (sym mine) ∙ sym (ap (λ m. m.0) i.table_seat)) (enlists c.crew.inside.table.shared.key.value c.self.inside.table_seat.id v.from v.to v.seen v.read i.number))

use Rattle.std.proofs.Common.{◌≡◌, ℕ, ◌==◌, [], sym, ap, ◌∙◌, subst, arith, Option}
use mathlib.Core.Option.{none}
use prog.Atomic.{either}
use Rattle.atomic_table.specs.Table.{Me, step, Allows}
use Rattle.spf_chain.specs.Chains.{ChainValue}
use Rattle.spf_crew.specs.declared.view.CrewView.{CrewView}
use Rattle.spf_crew.specs.Rule.{resting, IsCrewTable, IsLook}
use Rattle.spf_crew.proofs.Steps.{looks}
use Rattle.spf_crew.proofs.seat.ChainSeat.look.Goals as goal

pub compare_exchange-self-inside-requires : goal.compare_exchange-self-inside-requires
compare_exchange-self-inside-requires c =
    let i = c.self.invariant in
    let same : c.self.inside.table_seat.table_id ≡ c.crew.inside.table.shared.table_id = ap (λ v. v.table) c.self.view_is ∙ (c.requires.own.0 ∙ sym (ap (λ v. v.table) c.crew.view_is)) in
    let words = ap (λ z. z.words) same in
    let two = i.words in
    let slots : c.crew.inside.table.shared.table_id.slots ≡ 1 = sym (ap (λ z. z.slots) same) ∙ i.slots in
    let mine : c.self.inside.key.value ≡ c.crew.inside.table.shared.key.value = ap (λ v. v.setting) c.self.view_is ∙ (c.requires.own.1 ∙ sym (ap (λ v. v.setting) c.crew.view_is)) in
    let v : CrewView = c.self.inside.table_seat.me.0 in
    let P : Me (Option ChainValue) CrewView × ℕ → Type 0 = λ x. Allows (IsCrewTable c.crew.inside.table.shared.key.value) x.1 c.self.inside.table_seat.id x.0 0 (λ n. either (n == 16384) 16384 n) (IsLook (step x.1 0 16384 16384 none) x.0) in
    (same, omega arith, subst P (λ t. ((ap (λ k. (resting k v.from v.to v.seen v.read, [])) (sym mine) ∙ sym i.table_seat) t, sym slots t)) (looks c.crew.inside.table.shared.key.value c.self.inside.table_seat.id v.from v.to v.seen v.read 16384 i.number))

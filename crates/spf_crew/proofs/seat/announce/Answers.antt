use Rattle.std.proofs.Common.{◌≡◌, ℕ, [], ◌∷◌, sym, ap, ◌∙◌, subst, arith, Option}
use mathlib.Core.Option.{none}
use Rattle.atomic_table.specs.Table.{Me, step, Allows}
use Rattle.spf_chain.specs.Chains.{ChainValue}
use Rattle.spf_crew.specs.declared.view.CrewView.{CrewView}
use Rattle.spf_crew.specs.Rule.{holding, IsCrewTable, IsAnnounce}
use Rattle.spf_crew.proofs.Steps.{announces}
use Rattle.spf_crew.proofs.seat.announce.Goals as goal

pub store-requires : goal.store-requires
store-requires c =
    let same : c.args.seat.now.table_id ≡ c.crew.inside.table.shared.table_id = c.requires.own.0 ∙ sym (ap (λ v. v.table) c.crew.view_is) in
    let words = ap (λ z. z.words) same in
    let two = c.requires.own.1 in
    let slots : c.crew.inside.table.shared.table_id.slots ≡ 1 = sym (ap (λ z. z.slots) same) ∙ c.requires.own.2 in
    let mine : c.args.crew.now.setting ≡ c.crew.inside.table.shared.key.value = sym (ap (λ v. v.setting) c.crew.view_is) in
    let v : CrewView = c.args.seat.now.me.0 in
    let P : Me (Option ChainValue) CrewView × ℕ → Type 0 = λ x. Allows (IsCrewTable c.crew.inside.table.shared.key.value) x.1 c.args.seat.now.id x.0 1 (λ _. 1) (λ _. IsAnnounce (step x.1 1 1 0 none) x.0 1) in
    (same, omega arith, subst P (λ t. ((ap (λ k. (holding k v.from v.to v.seen v.announced v.read, (0, c.requires.holds.slot) ∷ [])) (sym mine) ∙ sym c.requires.holds.view) t, sym slots t)) (announces c.crew.inside.table.shared.key.value c.args.seat.now.id v.from v.to v.seen v.announced v.read c.requires.holds.slot c.requires.holds.number))

use Rattle.std.proofs.Common.{◌≡◌, ℕ, ◌+◌, ◌*◌, List, [], ◌∷◌, sym, ap, ◌∙◌, subst, arith, Option, Some}
use mathlib.Core.Option.{none}
use Rattle.atomic_table.specs.Table.{Me, step, Allows, rest}
use Rattle.spf_chain.specs.Chains.{ChainValue}
use Rattle.spf_crew.specs.declared.view.CrewView.{CrewView}
use Rattle.spf_crew.specs.Rule.{holding, IsChainOf, IsCrewTable, IsGive}
use Rattle.spf_crew.proofs.Steps.{gives_chain}
use Rattle.spf_crew.proofs.seat.give_chain.Goals as goal

pub exchange-requires : goal.exchange-requires
exchange-requires c =
    let same : c.args.seat.now.table_id ≡ c.crew.inside.table.shared.table_id = c.requires.own.0 ∙ sym (ap (λ v. v.table) c.crew.view_is) in
    let h = c.requires.holds.0 in
    let e : c.args.seat.now.me.1 ≡ (0, h.slot) ∷ [] = ap (λ m. m.1) h.view in
    (same, (h.slot, e ∙ ap (λ (l : List (ℕ × Option ChainValue)). (0, h.slot) ∷ rest l) (sym e)))

pub store-requires : goal.store-requires
store-requires c =
    let x = c.exchange.ensures in
    let same : c.args.seat.now.table_id ≡ c.crew.inside.table.shared.table_id = c.requires.own.0 ∙ sym (ap (λ v. v.table) c.crew.view_is) in
    let words = ap (λ z. z.words) same in
    let two = c.requires.own.1 in
    let slots : c.crew.inside.table.shared.table_id.slots ≡ 1 = sym (ap (λ z. z.slots) same) ∙ c.requires.own.2 in
    let mine : c.args.crew.now.setting ≡ c.crew.inside.table.shared.key.value = sym (ap (λ v. v.setting) c.crew.view_is) in
    let v : CrewView = c.args.seat.now.me.0 in
    let half : ℕ = c.args.half in
    let h = c.requires.holds.0 in
    let me : c.exchange.new.seat.me ≡ (holding c.crew.inside.table.shared.key.value v.from v.to (2 * half + 1) v.announced v.read, (0, Some c.args.chain) ∷ []) =
    x.3 ∙ ((λ t. ((h.view t).0, (0, Some c.args.chain) ∷ rest (h.view t).1)) ∙ (λ t. (holding (mine t) v.from v.to (c.requires.holds.1 t) v.announced v.read, (0, Some c.args.chain) ∷ []))) in
    let P : Me (Option ChainValue) CrewView × ℕ → Type 0 = λ y. Allows (IsCrewTable c.crew.inside.table.shared.key.value) y.1 c.exchange.new.seat.id y.0 0 (λ _. 2 * half + 2) (λ _. IsGive (step y.1 0 (2 * half + 2) 0 none) y.0 (2 * half + 2)) in
    (x.0 ∙ same, omega arith, subst P (λ t. (sym me t, sym slots t)) (gives_chain c.crew.inside.table.shared.key.value c.exchange.new.seat.id v.from v.to half v.announced v.read c.args.chain h.number c.requires.room c.requires.chain.0 (subst (λ k. IsChainOf k c.args.chain) mine c.requires.chain.1) c.requires.chain.2))

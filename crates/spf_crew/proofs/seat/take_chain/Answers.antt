use Rattle.std.proofs.Common.{◌≡◌, ℕ, ◌+◌, ◌*◌, ◌==◌, List, [], ◌∷◌, sym, ap, ◌∙◌, subst, arith, Option, Some}
use mathlib.Core.Option.{none}
use prog.Atomic.{either}
use Rattle.atomic_table.specs.Table.{Me, step, Allows, rest}
use Rattle.spf_chain.specs.Chains.{ChainValue}
use Rattle.spf_crew.specs.declared.view.CrewView.{CrewView}
use Rattle.spf_crew.specs.Rule.{resting, IsCrewTable, IsTake}
use Rattle.spf_crew.proofs.Steps.{takes_chain}
use Rattle.spf_crew.proofs.seat.take_chain.Goals as goal

pub compare_exchange-found-requires : goal.compare_exchange-found-requires
compare_exchange-found-requires c =
    let same : c.args.seat.now.table_id ≡ c.crew.inside.table.shared.table_id = c.requires.own.0 ∙ sym (ap (λ v. v.table) c.crew.view_is) in
    let words = ap (λ z. z.words) same in
    let two = c.requires.own.1 in
    let slots : c.crew.inside.table.shared.table_id.slots ≡ 1 = sym (ap (λ z. z.slots) same) ∙ c.requires.own.2 in
    let mine : c.args.crew.now.setting ≡ c.crew.inside.table.shared.key.value = sym (ap (λ v. v.setting) c.crew.view_is) in
    let v : CrewView = c.args.seat.now.me.0 in
    let h : ℕ = c.args.half in
    let P : Me (Option ChainValue) CrewView × ℕ → Type 0 = λ x. Allows (IsCrewTable c.crew.inside.table.shared.key.value) x.1 c.args.seat.now.id x.0 0 (λ n. either (n == 2 * h) (2 * h + 1) n) (IsTake (step x.1 0 (2 * h) (2 * h + 1) none) x.0) in
    (same, omega arith, subst P (λ t. ((ap (λ k. (resting k v.from v.to v.seen v.read, [])) (sym mine) ∙ sym c.requires.rests.view) t, sym slots t)) (takes_chain c.crew.inside.table.shared.key.value c.args.seat.now.id v.from v.to h v.seen v.read c.requires.rests.number c.requires.room))

pub exchange-requires : goal.exchange-requires
exchange-requires c =
    let t = c.compare_exchange-found.ensures in
    let same : c.args.seat.now.table_id ≡ c.crew.inside.table.shared.table_id = c.requires.own.0 ∙ sym (ap (λ v. v.table) c.crew.view_is) in
    let got = t.2.1 c.if-found-half.false in
    let e : c.compare_exchange-found.new.seat.me.1 ≡ (0, Some got.0) ∷ c.args.seat.now.me.1 = ap (λ m. m.1) got.1 in
    (t.0 ∙ same, (Some got.0, e ∙ ap (λ (l : List (ℕ × Option ChainValue)). (0, Some got.0) ∷ rest l) (sym e)))

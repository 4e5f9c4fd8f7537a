use Rattle.std.proofs.Common.{◌≡◌, sym, ap, refl, ◌∙◌, subst, IsSome}
use Rattle.std.proofs.lemmas.Option.{same_Some}
use Rattle.spf_crew.specs.Endings.{has_ended}
use Rattle.spf_crew.specs.Rule.{resting, IsChainOf}
use Rattle.spf_crew.specs.Values.{CrewValue, ChainSeatValue}
use Rattle.spf_crew.proofs.Steps.{left_over}
use Rattle.spf_crew.proofs.crew.Crew.end.Goals as goal

pub unwrap-chain-requires : goal.unwrap-chain-requires
unwrap-chain-requires c =
    let i = c.seat.invariant in
    let mine = ap (λ (p : ChainSeatValue). p.setting) c.seat.view_is ∙ (c.requires.own.1 ∙ sym (ap (λ (v : CrewValue). v.setting) c.self.view_is)) in
    let mates = ap (λ (v : CrewValue). v.setting.mates) c.self.view_is in
    let f = left_over c.self.inside.table.shared.key.value c.seat.inside.table_seat.id c.seat.inside.table_seat.me.0
    (ap (λ m. m.0) i.table_seat ∙ ap (λ k. resting k c.seat.inside.table_seat.me.0.from c.seat.inside.table_seat.me.0.to c.seat.inside.table_seat.me.0.seen c.seat.inside.table_seat.me.0.read) mine)
    i.number (ap (λ p. p.from) c.seat.view_is ∙ c.requires.all.0) (ap (λ p. p.to) c.seat.view_is ∙ (c.requires.all.1 ∙ sym mates))
    (ap (λ p. p.read) c.seat.view_is ∙ c.requires.read) _ _ c.close_with-closed.ensures.values.2 c.take.result c.take.ensures.value in
    subst IsSome (sym f.1) refl

pub returns-clause-same : goal.returns-clause-same
returns-clause-same c =
    let i = c.seat.invariant in
    let mine = ap (λ (p : ChainSeatValue). p.setting) c.seat.view_is ∙ (c.requires.own.1 ∙ sym (ap (λ (v : CrewValue). v.setting) c.self.view_is)) in
    let mates = ap (λ (v : CrewValue). v.setting.mates) c.self.view_is in
    let f = left_over c.self.inside.table.shared.key.value c.seat.inside.table_seat.id c.seat.inside.table_seat.me.0
    (ap (λ m. m.0) i.table_seat ∙ ap (λ k. resting k c.seat.inside.table_seat.me.0.from c.seat.inside.table_seat.me.0.to c.seat.inside.table_seat.me.0.seen c.seat.inside.table_seat.me.0.read) mine)
    i.number (ap (λ p. p.from) c.seat.view_is ∙ c.requires.all.0) (ap (λ p. p.to) c.seat.view_is ∙ (c.requires.all.1 ∙ sym mates))
    (ap (λ p. p.read) c.seat.view_is ∙ c.requires.read) _ _ c.close_with-closed.ensures.values.2 c.take.result c.take.ensures.value in
    let same : c.unwrap-chain.result ≡ f.0 = same_Some c.unwrap-chain.result f.0 (sym c.unwrap-chain.ensures ∙ f.1) in
    subst (λ k. IsChainOf k c.unwrap-chain.result) (ap (λ (v : CrewValue). v.setting) c.self.view_is) (subst (λ x. IsChainOf c.self.inside.table.shared.key.value x) (sym same) f.2)

pub returns-clause-ended : goal.returns-clause-ended
returns-clause-ended c =
    let i = c.seat.invariant in
    let mine = ap (λ (p : ChainSeatValue). p.setting) c.seat.view_is ∙ (c.requires.own.1 ∙ sym (ap (λ (v : CrewValue). v.setting) c.self.view_is)) in
    let mates = ap (λ (v : CrewValue). v.setting.mates) c.self.view_is in
    let f = left_over c.self.inside.table.shared.key.value c.seat.inside.table_seat.id c.seat.inside.table_seat.me.0
    (ap (λ m. m.0) i.table_seat ∙ ap (λ k. resting k c.seat.inside.table_seat.me.0.from c.seat.inside.table_seat.me.0.to c.seat.inside.table_seat.me.0.seen c.seat.inside.table_seat.me.0.read) mine)
    i.number (ap (λ p. p.from) c.seat.view_is ∙ c.requires.all.0) (ap (λ p. p.to) c.seat.view_is ∙ (c.requires.all.1 ∙ sym mates))
    (ap (λ p. p.read) c.seat.view_is ∙ c.requires.read) _ _ c.close_with-closed.ensures.values.2 c.take.result c.take.ensures.value in
    let same : c.unwrap-chain.result ≡ f.0 = same_Some c.unwrap-chain.result f.0 (sym c.unwrap-chain.ensures ∙ f.1) in
    ap has_ended same ∙ f.3

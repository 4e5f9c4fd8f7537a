use Rattle.std.proofs.Common.{◌∙◌, sym, ap, subst, inr}
use Rattle.spf_crew.specs.Values.{ChainSeatValue}
use Rattle.spf_crew.specs.Mates.{MateValue, IsTurn}
use Rattle.spf_crew.proofs.Turns.{fresh-at, has-run}
use Rattle.spf_crew.proofs.mate.Mate.look.Goals as goal

pub run-requires-clause-fresh : goal.run-requires-clause-fresh
run-requires-clause-fresh g c =
    fresh-at c.self.inside.hand.key c.reads_end.new.self.setting c.in-Got.ticket c.in-Got.ensures.next (c.self.invariant.key ∙ sym (ap (λ (p : ChainSeatValue). p.setting) c.reads_end.ensures.read))

pub returns-in-Got-clause-turn : goal.returns-in-Got-clause-turn
returns-in-Got-clause-turn g c =
    subst (λ x. IsTurn c.args.self.now x c.run.new.self) (sym c.run.ensures.worked) (inr (inr (has-run c.self.inside c.args.self.now c.run.new.self c.reads_end.new.self c.next.new.self c.in-Got.ticket c.reads_end.result
    c.self.view_is (ap (λ (m : MateValue). m.held) c.self.view_is ∙ c.requires.free) c.reads_end.ensures.read c.if-reads_end.false c.in-Got.ensures.took c.in-Got.ensures.later c.run.ensures.report)))

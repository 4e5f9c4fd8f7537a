use Rattle.std.proofs.Common.{◌∙◌, sym, ap, subst}
use Rattle.spf_crew.specs.declared.held.Held.TheVariants as held
use Rattle.spf_crew.specs.declared.view.CrewSetting.{CrewSetting}
use Rattle.spf_crew.specs.Tickets.{IsAttemptBy}
use Rattle.spf_crew.specs.Mates.{MateValue}
use Rattle.spf_crew.proofs.Turns.{fresh-at, lawful-at}
use Rattle.spf_crew.proofs.mate.Mate.run.Goals as goal

pub attempt-requires : goal.attempt-requires
attempt-requires g c = record { serves = c.requires.serves; fresh = fresh-at c.args.self.now.seat.setting c.args.crew.now.setting c.args.ticket c.requires.fresh c.requires.own.1 }

pub invariant_of-self : goal.invariant_of-self
invariant_of-self g c = record {
  key = c.self.invariant.key;
  held = lawful-at c.args.crew.now.setting c.self.inside.seat.setting c.attempt.result c.attempt.ensures.lawful (sym (ap (λ (m : MateValue). m.seat.setting) c.self.view_is ∙ c.requires.own.1));
}

pub returns-clause-report : goal.returns-clause-report
returns-clause-report g c = (
  c.attempt.result,
  subst (λ (k : CrewSetting). IsAttemptBy k c.args.ticket c.attempt.result) (sym c.requires.own.1) c.attempt.ensures.attempt,
  ap (λ (m : MateValue). let x : MateValue = record m { held = held.Report c.attempt.result } in x) c.self.view_is,
)

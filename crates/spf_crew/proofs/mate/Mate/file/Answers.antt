use Rattle.std.proofs.Common.{◌∙◌, sym, ap, subst, refl, inl}
use Rattle.spf_chain.specs.declared.chain.Filed.TheVariants.{Rerun, Waiting, Ended}
use Rattle.spf_crew.specs.declared.held.Held.TheVariants as held
use Rattle.spf_crew.specs.Values.{ChainSeatValue}
use Rattle.spf_crew.specs.Mates.{MateValue}
use Rattle.spf_crew.specs.Tickets.{IsLawfulOf}
use Rattle.spf_crew.proofs.Turns.{has-filed, kept-out, fresh-rerun, fresh-at, lawful-at}
use Rattle.spf_crew.proofs.mate.Mate.file.Goals as goal

pub file-requires-clause-lawful : goal.file-requires-clause-lawful
file-requires-clause-lawful c = lawful-at c.args.self.now.seat.setting c.self.inside.seat.setting c.args.report c.requires.lawful (sym (ap (λ (m : MateValue). m.seat.setting) c.self.view_is))

pub invariant_of-self : goal.invariant_of-self
invariant_of-self c =
    let said = c.in-Ok.ensures.filed in
    let setting = sym (ap (λ (p : ChainSeatValue). p.setting) said.1) in
    record {
      key = c.self.invariant.key ∙ setting;
      held = fresh-at c.self.inside.seat.setting c.file.new.self.setting c.in-Rerun.ticket (fresh-rerun c.self.inside.seat.setting c.in-Ok.filed c.in-Rerun.ticket said.0.rerun c.in-Rerun.is) setting;
    }

pub invariant_of-self-in-Err : goal.invariant_of-self-in-Err
invariant_of-self-in-Err c =
    let said = c.in-Err.ensures.out in
    let setting = sym (ap (λ (p : ChainSeatValue). p.setting) said.2) in
    record {
      key = c.self.invariant.key ∙ setting;
      held = subst (λ r. IsLawfulOf c.file.new.self.setting r) (sym said.0)
          (lawful-at c.args.self.now.seat.setting c.file.new.self.setting c.args.report c.requires.lawful (sym (ap (λ (m : MateValue). m.seat.setting) c.self.view_is) ∙ setting));
    }

pub returns-in-Rerun-clause-turn : goal.returns-in-Rerun-clause-turn
returns-in-Rerun-clause-turn c =
    let said = c.in-Ok.ensures.filed in
    inl (has-filed c.self.inside c.args.self.now c.args.report c.in-Ok.filed (Rerun c.in-Rerun.ticket) c.file.new.self (held.Ticket c.in-Rerun.ticket) c.self.view_is c.in-Rerun.is said.0 said.1 refl)

pub returns-in-Waiting-clause-turn : goal.returns-in-Waiting-clause-turn
returns-in-Waiting-clause-turn c =
    let said = c.in-Ok.ensures.filed in
    inl (has-filed c.self.inside c.args.self.now c.args.report c.in-Ok.filed (Waiting c.in-Waiting.block) c.file.new.self c.self.inside.held c.self.view_is c.in-Waiting.is said.0 said.1 (ap (λ (m : MateValue). m.held) c.self.view_is ∙ c.requires.free))

pub returns-in-Ended-clause-turn : goal.returns-in-Ended-clause-turn
returns-in-Ended-clause-turn c =
    let said = c.in-Ok.ensures.filed in
    inl (has-filed c.self.inside c.args.self.now c.args.report c.in-Ok.filed Ended c.file.new.self c.self.inside.held c.self.view_is c.in-Ended.is said.0 said.1 (ap (λ (m : MateValue). m.held) c.self.view_is ∙ c.requires.free))

pub returns-in-Err-clause-turn : goal.returns-in-Err-clause-turn
returns-in-Err-clause-turn c =
    let said = c.in-Err.ensures.out in
    kept-out c.self.inside c.args.self.now c.args.report c.in-Err.report c.in-Err.seen c.file.new.self c.self.view_is said.0 said.1 said.2

use Rattle.std.proofs.Common.{◌∙◌, sym, subst, inl, inr}
use Rattle.spf_crew.specs.Mates.{IsTurn}
use Rattle.spf_crew.proofs.Turns.{has-rerun}
use Rattle.spf_crew.proofs.mate.Mate.turn.Goals as goal

pub returns-in-Ticket-clause-turn : goal.returns-in-Ticket-clause-turn
returns-in-Ticket-clause-turn g c =
    subst (λ x. IsTurn c.args.self.now x c.run.new.self) (sym c.run.ensures.worked) (inr (inl (has-rerun c.self.inside c.args.self.now c.run.new.self c.in-Ticket.ticket c.self.view_is (sym c.replace.ensures.value ∙ c.in-Ticket.is) c.run.ensures.report)))

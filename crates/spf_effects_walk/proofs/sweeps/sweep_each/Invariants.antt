use Rattle.spf_effects_walk.proofs.Sweeping.{SweepsLead}
use Rattle.spf_effects_walk.proofs.sweeps.sweep_each.Given as goal

-- with the sweeps of the statements that are left, all are added
abbrev pub invariant-loop-statement : goal.invariant-loop-statement
invariant-loop-statement l = SweepsLead l.name l.turns.factor l.turns.first l.turns.last l.body l.initial.found l.statement-index l.found

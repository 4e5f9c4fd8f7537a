use Rattle.std.proofs.Common.{◌≡◌}
use Rattle.spf_effects_walk.proofs.Walks.{emits_from}
use Rattle.spf_effects_walk.proofs.slots.+emits.Given as goal

-- no statement before this one emits
abbrev pub invariant-emits-loop-statement : goal.invariant-emits-loop-statement
invariant-emits-loop-statement l = emits_from l.statements 0 ≡ emits_from l.statements l.statement-index

use Rattle.std.proofs.Common.{◌≡◌}
use Rattle.spf_effects_walk.proofs.Breaks.{breaks_from}
use Rattle.spf_effects_walk.proofs.slots.+breaks.Given as goal

-- no statement before this one holds a `break`
abbrev pub invariant-breaks-loop-statement : goal.invariant-breaks-loop-statement
invariant-breaks-loop-statement l = breaks_from l.statements 0 ≡ breaks_from l.statements l.statement-index

use Rattle.std.proofs.Common.{◌≡◌, ◌++◌, length, drop}
use Rattle.spf_effects_walk.specs.SlotSets.{has_slot}
use Rattle.spf_effects_findings.specs.Parts.{parameter_bounds}
use Rattle.spf_effects_walk.proofs.context.parameter_bounds.Given as goal

-- the bounds so far, and those that are left, are all
abbrev pub invariant-loop-bound : goal.invariant-loop-bound
invariant-loop-bound l =
    (length l.bounds.items ≡ l.bound-index)
    × (l.bounds.items ++ parameter_bounds (has_slot l.assigned) l.bound-index (drop l.bound-index l.given) ≡ parameter_bounds (has_slot l.assigned) 0 l.given)

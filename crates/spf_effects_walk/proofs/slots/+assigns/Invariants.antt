use Rattle.std.proofs.Common.{◌≡◌}
use Rattle.std.specs.Prelude.{not}
use Rattle.spf_effects_walk.specs.SlotSets.{has_slot}
use Rattle.spf_effects_walk.proofs.Assigns.{assigns_from}
use Rattle.spf_effects_walk.proofs.slots.+assigns.Given as goal

-- no statement before this one assigns such a slot
abbrev pub invariant-assigns_other-loop-statement : goal.invariant-assigns_other-loop-statement
invariant-assigns_other-loop-statement l = assigns_from (λ slot. not (has_slot l.declared slot)) l.statements 0 ≡ assigns_from (λ slot. not (has_slot l.declared slot)) l.statements l.statement-index

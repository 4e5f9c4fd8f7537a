use Rattle.std.proofs.Common.{◌≡◌, drop}
use Rattle.spf_effects_walk.specs.SlotSets.{has_slot, with_slots}
use Rattle.spf_effects_walk.proofs.slot_sets.SlotSet.insert_each.Given as goal

-- with the slots that are left, the set is whole
abbrev pub invariant-loop-slot : goal.invariant-loop-slot
invariant-loop-slot l = with_slots (drop l.slot-index l.slots) (has_slot l.self) ≡ with_slots l.slots (has_slot l.initial.self)

use Rattle.spf_effects_walk.specs.SlotSets.{has_slot, with_slots}
use Rattle.spf_effects_walk.proofs.SlotSets.{each_next, each_none}
use Rattle.spf_effects_walk.proofs.slot_sets.SlotSet.insert_each.Goals as goal

pub loop-slot-preserved : goal.loop-slot-preserved
loop-slot-preserved c =
    each_next c.args.slots.now c.loop-slot.slot-index (has_slot c.loop-slot.self) (has_slot c.insert.new.self) (with_slots c.args.slots.now (has_slot c.args.self.now)) c.loop-slot-test.true (c.in_ok-insert.ensures {u = tt}) c.loop-slot.invariant

pub returns : goal.returns
returns c =
    each_none c.args.slots.now c.loop-slot.slot-index (has_slot c.loop-slot.self) (with_slots c.args.slots.now (has_slot c.args.self.now)) c.loop-slot-test.false c.loop-slot.invariant

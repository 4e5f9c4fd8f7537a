use Rattle.std.proofs.Common.{length, subst, sym, ap, ◌∙◌, ◌<◌}
use Rattle.spf_effects_walk.specs.SlotSets.{has_slot}
use Rattle.spf_effects_walk.proofs.SlotSets.{flagged}
use Rattle.spf_effects_walk.proofs.slot_sets.SlotSet.insert.Goals as goal

pub returns : goal.returns
returns c =
    let was = c.in_ok-reach.ensures {u = tt} in
    flagged c.args.self.now c.self.inside.flags.items c.args.slot (ap has_slot c.self.view_is ∙ was.same) (subst (λ l. c.args.slot < length l) (sym c.self.view_is) was.reached)

use Rattle.std.proofs.Common.{rules, ◌≡◌, length}
use Rattle.std.specs.Vec.{vec_len}
use Rattle.spf_effects_walk.specs.SlotSets.{has_slot}
use Rattle.spf_effects_walk.proofs.Calls.{own_of}
use Rattle.spf_effects_walk.proofs.context.own_bounds.Goals as goal

pub returns : goal.returns
returns c =
    let made = c.in_ok-resize.ensures {u = tt} in
    let long : vec_len c.in_ok-bounds.bounds ≡ length c.in_ok-bounds.bounds.items = search rules in
    own_of (has_slot c.args.assigned.now) c.args.count c.args.given.now c.in_ok-bounds.bounds.items c.resize.new.self.items (vec_len c.in_ok-bounds.bounds) (c.in_ok-bounds.ensures {u = tt}) long (rw c.max.ensures at made.items)

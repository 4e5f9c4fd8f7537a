use Rattle.spf_replay_sim.proofs.Slots.{scheduled-too}
use Rattle.spf_replay_sim.proofs.laws.schedules_see_visible_slots_alone.Goals as goal

pub returns : goal.returns
returns c = scheduled-too c.each_form_sees_visible_slots_alone.ensures.parts

use Rattle.spf_effects.proofs.Listed.{effects_listed}
use Rattle.spf_effects.proofs.laws.each_part_has_effects_in_lists.Goals as goal

pub returns : goal.returns
returns c = effects_listed c.each_list_has_a_normal_form.ensures.sets c.each_list_has_a_normal_form.ensures.lists

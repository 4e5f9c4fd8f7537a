use Rattle.spf_check_rules.proofs.laws.the_rules_set_free.Goals as goal
use Rattle.spf_check_rules.proofs.Free.{rules-set-free}

pub returns : goal.returns
returns c = rules-set-free c.each_part_keeps_to_its_effects.ensures c.lawful_programs_are_quiet_and_small.ensures.functions c.silent_forms_leave_the_output.ensures.parts

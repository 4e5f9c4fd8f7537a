use Rattle.spf_effects_laws.proofs.Law.{keeps-to-its-effects}
use Rattle.spf_effects_laws.proofs.each_part_keeps_to_its_effects.Goals as goal

pub returns : goal.returns
returns c = keeps-to-its-effects

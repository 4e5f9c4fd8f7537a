use Rattle.spf_apps_formats.proofs.Generated.{is_generated, generated_once}
use Rattle.spf_apps_formats.proofs.laws.each_demo_input_is_generated_once.Goals as goal

pub returns : goal.returns
returns c = record { some = is_generated; one = generated_once }

use Rattle.spf_crew.specs.Values.{setting_of}
use Rattle.spf_crew.proofs.open.key_of.Given as goal

abbrev pub ghost-setting_key : goal.ghost-setting_key
ghost-setting_key a = setting_of a.chain.now a.mates

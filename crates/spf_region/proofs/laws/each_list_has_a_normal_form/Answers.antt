use Rattle.spf_region.proofs.Normal.{normal-form, sets-stay-listed}
use Rattle.spf_region.proofs.laws.each_list_has_a_normal_form.Goals as goal

pub returns : goal.returns
returns c = record { lists = normal-form; sets = sets-stay-listed }

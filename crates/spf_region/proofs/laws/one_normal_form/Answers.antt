use Rattle.spf_region.proofs.Canonical.{one-form}
use Rattle.spf_region.proofs.laws.one_normal_form.Goals as goal

pub returns : goal.returns
returns c = one-form

use Rattle.spf_region.proofs.Ascending.{one-ascending}
use Rattle.spf_region.proofs.laws.one_ascending_list.Goals as goal

pub returns : goal.returns
returns c = one-ascending

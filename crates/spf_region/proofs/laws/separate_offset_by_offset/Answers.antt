use Rattle.spf_region.proofs.Entries.{separate-offsets}
use Rattle.spf_region.proofs.laws.separate_offset_by_offset.Goals as goal

pub returns : goal.returns
returns c = separate-offsets

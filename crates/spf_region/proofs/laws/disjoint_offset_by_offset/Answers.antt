use Rattle.spf_region.proofs.Entries.{disjoint-offsets}
use Rattle.spf_region.proofs.laws.disjoint_offset_by_offset.Goals as goal

pub returns : goal.returns
returns c = disjoint-offsets

use Rattle.spf_region.proofs.Blocks.{disjoint-cells}
use Rattle.spf_region.proofs.laws.disjoint_ranges_share_no_cell.Goals as goal

pub returns : goal.returns
returns c = disjoint-cells

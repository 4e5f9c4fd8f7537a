use Rattle.spf_region.proofs.Blocks.{separate-cells}
use Rattle.spf_region.proofs.laws.separate_ranges_share_no_cell.Goals as goal

pub returns : goal.returns
returns c = separate-cells

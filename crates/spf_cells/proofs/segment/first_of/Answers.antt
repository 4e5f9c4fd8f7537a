use Rattle.std.proofs.Common.{rules}
use Rattle.spf_cells.proofs.segment.first_of.Goals as goal

pub returns-in-None : goal.returns-in-None
returns-in-None c = search rules

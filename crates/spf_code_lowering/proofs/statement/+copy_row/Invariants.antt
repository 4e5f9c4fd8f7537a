use Rattle.std.proofs.Common.{length}
use Rattle.spf_code_lowering.proofs.statement.+copy_row.Given as goal

abbrev pub decreases-copy_row : goal.decreases-copy_row
decreases-copy_row l = length l.slots.now

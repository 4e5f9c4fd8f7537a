use Rattle.std.proofs.Common.{rules}
use Rattle.spf_code_lowering.proofs.jump.until.Goals as goal

pub returns : goal.returns
returns c = search rules

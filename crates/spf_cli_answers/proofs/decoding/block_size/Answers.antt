use Rattle.std.proofs.Common.{rules}
use Rattle.spf_cli_answers.proofs.decoding.block_size.Goals as goal

pub returns-clause-size : goal.returns-clause-size
returns-clause-size c = search rules

use Rattle.std.proofs.Common.{rules}
use Rattle.spf_cli_answers.proofs.batching.all_answered.Goals as goal

pub returns-clause-status : goal.returns-clause-status
returns-clause-status c = search rules

use Rattle.std.proofs.Common.{rules}
use Rattle.spf_cli_answers.proofs.answer.not_run.Goals as goal

pub returns-in-Ok : goal.returns-in-Ok
returns-in-Ok c = search rules

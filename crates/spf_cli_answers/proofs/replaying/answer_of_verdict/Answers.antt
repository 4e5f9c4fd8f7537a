use Rattle.std.proofs.Common.{rules}
use Rattle.spf_cli_answers.proofs.replaying.answer_of_verdict.Goals as goal

pub returns : goal.returns
returns c = search rules

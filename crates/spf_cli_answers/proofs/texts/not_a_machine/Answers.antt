use Rattle.std.proofs.Common.{rules}
use Rattle.spf_cli_answers.proofs.texts.not_a_machine.Goals as goal

pub returns : goal.returns
returns c = search rules

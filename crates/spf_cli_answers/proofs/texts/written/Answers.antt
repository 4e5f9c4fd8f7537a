use Rattle.std.proofs.Common.{rules}
use Rattle.spf_cli_answers.proofs.texts.written.Goals as goal

pub returns : goal.returns
returns c = search rules

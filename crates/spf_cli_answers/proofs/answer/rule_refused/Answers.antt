use Rattle.std.proofs.Common.{rules}
use Rattle.spf_cli_answers.proofs.answer.rule_refused.Goals as goal

pub returns : goal.returns
returns c = search rules

use Rattle.std.proofs.Common.{rules}
use Rattle.spf_cli_answers.proofs.batching.names_of.Goals as goal

pub returns-in_ok-not_a_name-in-Err-NotAName-clause-left : goal.returns-in_ok-not_a_name-in-Err-NotAName-clause-left
returns-in_ok-not_a_name-in-Err-NotAName-clause-left c = search rules

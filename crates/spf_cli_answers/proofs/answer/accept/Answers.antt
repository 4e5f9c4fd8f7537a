use Rattle.spf_cli_answers.proofs.Steps.{refusal_left}
use Rattle.spf_cli_answers.proofs.answer.accept.Goals as goal

pub returns-in-Err-clause-left : goal.returns-in-Err-clause-left
returns-in-Err-clause-left c =
    refusal_left c.args.program c.check.result c.in-Err.error c.not_accepted.result c.in-Err.is c.check.ensures c.not_accepted.ensures

use Rattle.spf_cli_answers.proofs.Causes.{statuses_have_causes}
use Rattle.spf_cli_answers.proofs.laws.each_status_has_its_cause.Goals as goal

pub returns : goal.returns
returns c = statuses_have_causes

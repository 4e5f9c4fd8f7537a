use Rattle.spf_chain.proofs.Running.{can-run}
use Rattle.spf_chain.proofs.laws.accepted_constructs_can_run.Goals as goal

pub returns : goal.returns
returns c = can-run

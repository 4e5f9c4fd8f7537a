use Rattle.spf_speculation.proofs.Runs.{merging-runs}
use Rattle.spf_speculation.proofs.laws.every_merging_is_a_speculative_run.Goals as goal

pub returns : goal.returns
returns c e guess logs values result h come is steps merge = merging-runs e guess logs values result h come is steps merge

use Rattle.spf_crew.proofs.Joined.{down-merges}
use Rattle.spf_crew.proofs.merged.close_crew.Goals as goal

pub returns-clause-up : goal.returns-clause-up
returns-clause-up c = c.close.ensures.merging _ (c.speculative_runs_exist.ensures.joined _ _)

pub returns-clause-down : goal.returns-clause-down
returns-clause-down c = c.close.ensures.merging _ (down-merges _ _)

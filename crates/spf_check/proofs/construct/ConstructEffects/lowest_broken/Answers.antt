use Rattle.spf_check.proofs.construct.ConstructEffects.lowest_broken.Goals as goal
use Rattle.spf_check.proofs.Lowest.{lowest}

pub returns : goal.returns
returns c = λ p k are. rw c.first_broken.ensures (lowest p k c.args.self.now c.are_normal.ensures are)

use Rattle.spf_chain.proofs.Histories.{exclusive}
use Rattle.spf_chain.proofs.chain.Chain.answers_are_exact.Goals as goal

pub returns : goal.returns
returns c = exclusive c.self.inside c.args.self.now c.self.invariant c.self.view_is

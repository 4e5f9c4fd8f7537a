use Rattle.spf_chain.proofs.Histories.{history-is, homes-are}
use Rattle.spf_chain.proofs.chain.Chain.history.Goals as goal

pub returns-clause-validated : goal.returns-clause-validated
returns-clause-validated c = history-is c.self.inside c.args.self.now c.self.invariant c.self.view_is

pub returns-clause-homes : goal.returns-clause-homes
returns-clause-homes c = homes-are c.self.inside c.args.self.now c.self.invariant c.self.view_is

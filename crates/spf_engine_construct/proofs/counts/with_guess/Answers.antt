use Rattle.std.proofs.Common.{rules}
use Rattle.spf_engine_construct.proofs.counts.with_guess.Goals as goal

pub returns-clause-hits : goal.returns-clause-hits
returns-clause-hits c = search rules

pub returns-clause-misses : goal.returns-clause-misses
returns-clause-misses c = search rules

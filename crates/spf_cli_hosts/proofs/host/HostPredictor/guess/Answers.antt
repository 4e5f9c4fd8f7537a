use Rattle.spf_cli_hosts.proofs.host.HostPredictor.guess.Goals as goal

pub returns-in-Fixed-clause-same : goal.returns-in-Fixed-clause-same
returns-in-Fixed-clause-same c = rw c.in-Fixed.is c.guess.ensures.same

pub returns-in-Last-clause-same : goal.returns-in-Last-clause-same
returns-in-Last-clause-same c = rw c.in-Last.is c.guess-in-Last.ensures.same

pub returns-in-Most-clause-same : goal.returns-in-Most-clause-same
returns-in-Most-clause-same c = rw c.in-Most.is c.guess-in-Most.ensures.same

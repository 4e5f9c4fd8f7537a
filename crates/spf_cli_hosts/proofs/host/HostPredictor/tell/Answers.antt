use Rattle.std.proofs.Common.{w64}
use Rattle.std.proofs.lemmas.Int.{to_z-of_z}
use Rattle.spf_cli_hosts.proofs.host.HostPredictor.tell.Goals as goal

pub returns-in-Fixed : goal.returns-in-Fixed
returns-in-Fixed c = record { told = rw c.in-Fixed.is c.tell.ensures.told }

pub returns-in-Last : goal.returns-in-Last
returns-in-Last c = record { told = rw c.in-Last.is (rw (to_z-of_z w64 c.args.real c.ranges.real) at c.tell-in-Last.ensures.told) }

pub returns-in-Most : goal.returns-in-Most
returns-in-Most c = record { told = rw c.in-Most.is (rw (to_z-of_z w64 c.args.real c.ranges.real) at c.tell-in-Most.ensures.told) }

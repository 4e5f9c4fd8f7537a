use Rattle.std.proofs.Common.{rules, w64}
use Rattle.std.proofs.lemmas.Int.{to_z-of_z}
use Rattle.spf_cli_hosts.proofs.host.Host.make.Goals as goal

pub returns-in-Fixed : goal.returns-in-Fixed
returns-in-Fixed c = rw c.in-Fixed.is (rw (to_z-of_z w64 c.in-Fixed.value (search rules)) at c.make.ensures)

pub returns-in-Last : goal.returns-in-Last
returns-in-Last c = rw c.in-Last.is c.make-in-Last.ensures

pub returns-in_ok-make-in-Most : goal.returns-in_ok-make-in-Most
returns-in_ok-make-in-Most c = rw c.in-Most.is c.in_ok-make-in-Most.ensures

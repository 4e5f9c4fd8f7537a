use Rattle.spf_apps_laws.proofs.Overflow.{stops}
use Rattle.spf_apps_laws.proofs.packbits_stops.Goals as goal

pub returns : goal.returns
returns c = λ size file output f u beyond. stops size file output f.block f.bytes f.cells f.blocks u beyond

use Rattle.spf_apps_laws.proofs.Whole.{unpacks}
use Rattle.spf_apps_laws.proofs.packbits_unpacks.Goals as goal

pub returns : goal.returns
returns c = λ size file output f u room. unpacks size file output f.block f.bytes f.cells f.blocks u room

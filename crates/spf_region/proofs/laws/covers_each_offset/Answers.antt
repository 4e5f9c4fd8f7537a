use Rattle.spf_region.proofs.Covers.{covers-each, each-covers}
use Rattle.spf_region.proofs.laws.covers_each_offset.Goals as goal

pub returns : goal.returns
returns c = λ set a f l h. (covers-each set a f l h, each-covers set a f l h)

use Rattle.std.proofs.Common.{rules}
use Rattle.spf_edge.proofs.Taking.{adds_untold}
use Rattle.spf_edge.proofs.real.RealSinkSink.TheImpl.Goals as goal

pub put-tells : goal.put-tells
put-tells g c = search (rules, adds_untold)

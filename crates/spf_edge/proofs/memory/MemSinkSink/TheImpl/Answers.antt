use Rattle.std.proofs.Common.{rules}
use Rattle.spf_edge.proofs.Taking.{put_adds_front}
use Rattle.spf_edge.proofs.memory.MemSinkSink.TheImpl.Goals as goal

pub put-tells : goal.put-tells
put-tells c = search (rules, put_adds_front)

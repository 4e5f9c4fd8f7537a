use Rattle.std.proofs.Common.{length}
use Rattle.spf_edge_pieces.proofs.Parts.{IsPutUpTo}
use Rattle.spf_edge_pieces.proofs.pieces.put_pieces.Given as goal

-- the bytes before the rest were put
abbrev pub invariant-pieces : goal.invariant-pieces
invariant-pieces g l = IsPutUpTo l.bytes l.rest (g.S.Sink.state l.initial.sink) (g.S.Sink.state l.sink)

abbrev pub decreases-pieces : goal.decreases-pieces
decreases-pieces g l = length l.rest

use Rattle.std.proofs.Common.{rules, ◌≡◌, ◌-◌, length, map, arith}
use Rattle.std.specs.Prelude.{IfOk, vec_len}
use Rattle.spf_engine_construct.specs.Guesses.{seen_guess, predicted_at, piece_of}
use denote.Param.Send.{sendable}
use Rattle.std.proofs.Crossing.{crosses}
use Rattle.spf_engine_construct.proofs.Given.{stand_sync, header_sync, each_given, both_ok}
use Rattle.spf_engine_construct.proofs.pieces.predict_pieces.Goals as goal

pub map_indices-requires-sync-F : goal.map_indices-requires-sync-F
map_indices-requires-sync-F g c κs within = search (stand_sync, header_sync, crosses, sendable) depth 60

pub returns-clause-pieces : goal.returns-clause-pieces
returns-clause-pieces g c =
    both_ok c.map_indices.result c.map_indices.ensures.len c.map_indices.ensures.each (λ v len each.
    let long : vec_len v ≡ length v.items = search rules in
    each_given (λ i piece. IfOk piece (λ r. map seen_guess r.items ≡ piece_of (predicted_at c.args.at c.args.header.now) (c.args.header.now.blocks - 1) c.args.size i)) v.items
    (λ i d l. let given = (each i d (omega (arith, l, len, long))).1 in given.met))

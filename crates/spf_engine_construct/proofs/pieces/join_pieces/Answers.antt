use Rattle.std.proofs.Common.{◌≡◌, ◌++◌, map, refl, ap, ◌∙◌}
use Rattle.std.proofs.lemmas.List.{map-append}
use Rattle.std.proofs.lemmas.Option.{slice_get_read}
use Rattle.spf_engine_construct.specs.Guesses.{seen_guess, guesses_from, piece_of}
use Rattle.spf_engine_construct.proofs.PieceSizes.{one-piece-more, all-pieces}
use Rattle.spf_engine_construct.proofs.pieces.join_pieces.Goals as goal

pub loop-piece-preserved : goal.loop-piece-preserved
loop-piece-preserved c = λ guess pieces.
    let i = c.loop-piece.piece-index in
    let there = slice_get_read c.args.pieces.now _ i c.piece-item.result refl c.loop-piece-test.true c.piece-item.is in
    let piece : map seen_guess c.in-Ok.part.items ≡ piece_of guess c.args.count c.args.size i = rw (there, c.in-Ok.is) at (pieces i) in
    ap (map seen_guess) (c.in_ok-extend_from_slice-in-Ok.ensures {u = tt}).items
    ∙ map-append seen_guess c.loop-piece.guesses.items c.deref.result.now
    ∙ ap (λ l. map seen_guess c.loop-piece.guesses.items ++ map seen_guess l) c.deref.ensures.value
    ∙ ap (λ l. map seen_guess c.loop-piece.guesses.items ++ l) piece
    ∙ ap (λ l. l ++ piece_of guess c.args.count c.args.size i) (c.loop-piece.invariant guess pieces)
    ∙ one-piece-more guess i c.args.size c.args.count

pub returns : goal.returns
returns c = record {
  guesses = λ guess pieces.
      c.loop-piece.invariant guess pieces
      ∙ ap (guesses_from guess 1) (all-pieces c.loop-piece.piece-index _ c.args.size c.args.count c.loop-piece-test.false c.requires.all);
}

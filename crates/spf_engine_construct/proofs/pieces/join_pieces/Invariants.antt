use Rattle.std.proofs.Common.{◌≡◌, ◌*◌, ℕ, map}
use Rattle.std.specs.Prelude.{min, slice_get, IfOk, IfSome}
use Rattle.spf_engine_construct.specs.Guesses.{Guesses, seen_guess, guesses_from, piece_of}
use Rattle.spf_engine_construct.proofs.pieces.join_pieces.Given as goal

-- the pieces so far are joined
abbrev pub invariant-loop-piece : goal.invariant-loop-piece
invariant-loop-piece l =
    (guess : Guesses) → ((i : ℕ) → IfSome (slice_get l.fn.pieces i) (λ piece. IfOk piece (λ p. map seen_guess p.items ≡ piece_of guess l.fn.count l.fn.size i)))
    → map seen_guess l.guesses.items ≡ guesses_from guess 1 (min l.fn.count (l.piece-index * l.fn.size))

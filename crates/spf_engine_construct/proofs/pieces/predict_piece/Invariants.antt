use Rattle.std.proofs.Common.{◌≡◌, map, length}
use Rattle.spf_exec_instance.specs.Frame.{frame_size}
use Rattle.spf_exec_instance.specs.Instance.{program_of}
use Rattle.spf_engine_construct.specs.Guesses.{seen_guess, predicted_at, guesses_from}
use Rattle.spf_engine_construct.proofs.pieces.predict_piece.Given as goal

-- the guesses for the first blocks of the piece are taken
abbrev pub invariant-loop-n : goal.invariant-loop-n
invariant-loop-n l = record {
  guesses : map seen_guess l.guesses.items ≡ guesses_from (predicted_at l.fn.at l.fn.header) l.fn.from l.n;
  size : length l.frame ≡ frame_size (program_of l.fn.at.instance.now);
}

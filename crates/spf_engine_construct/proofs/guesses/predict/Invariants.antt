use Rattle.std.proofs.Common.{◌≡◌, length, take}
use Rattle.spf_exec_instance.specs.Frame.{frame_size}
use Rattle.spf_exec_instance.specs.Instance.{program_of}
use Rattle.spf_engine_construct.proofs.Words.{parts_there, words_of, trapped_in}
use Rattle.spf_engine_construct.proofs.guesses.predict.Given as goal

-- the parts so far are guessed
abbrev pub invariant-loop-index : goal.invariant-loop-index
invariant-loop-index l = record {
  words : take l.index l.words ≡ take l.index (words_of (parts_there l.fn.at l.fn.number));
  blind : l.blind ≡ trapped_in (take l.index (parts_there l.fn.at l.fn.number));
  room : length l.words ≡ 4;
  size : length l.frame ≡ frame_size (program_of l.fn.at.instance.now);
}

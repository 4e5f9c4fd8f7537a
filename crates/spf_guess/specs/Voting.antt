-- What the predictor keeps that counts votes by block numbers.
use Rattle.std.specs.Prelude.{option_map}
use Rattle.std.specs.Ordering.{int_eq}
use Rattle.std.specs.HashMap.{get, hash_map_len}
use Rattle.spf_guess.specs.Answers.{Answers}
use Rattle.spf_guess.specs.Counting.{answer_of}
use Rattle.spf_guess.specs.Stores.{Stored}
use Rattle.spf_guess.specs.declared.vote.Vote.{Vote}

-- what the predictor of each block that it keeps answers
abbrev pub votes_of : Vote → Stored Answers
votes_of vote = record {
  room = vote.room;
  count = hash_map_len vote.votes;
  value = λ block. option_map answer_of (get int_eq vote.votes block);
}

use Rattle.std.proofs.Common.{◌≡◌, length}
use Rattle.std.specs.Prelude.{All}
use Rattle.spf_guess.specs.Answers.{AnswersAlike}
use Rattle.spf_guess.specs.Counting.{answer_of}
use Rattle.spf_guess.specs.Stores.{untold}
use Rattle.spf_guess.proofs.vote.Vote.make.Given as goal

abbrev pub invariant-loop : goal.invariant-loop
invariant-loop l = record {
  count : length l.fresh.items ≡ l.counter;
  fresh : All (λ most. AnswersAlike (untold l.each) (answer_of most)) l.fresh.items;
}

-- What the predictor of the value told most often keeps.
use Rattle.std.specs.List.{fold}
use Rattle.spf_guess.specs.Answers.{Answers}
use Rattle.spf_guess.specs.Stores.{Counts, stored_of, most_step}
use Rattle.spf_guess.specs.declared.most.Most.{Most}

-- its counts, and what it guesses
abbrev pub counts_of : Most → Counts
counts_of most = record { stored = stored_of most.counts; best = most.best; best_count = most.best_count }

-- what it answers
abbrev pub answer_of : Most → Answers
answer_of most pairs block = (fold most_step (counts_of most) pairs).best

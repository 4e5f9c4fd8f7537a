-- What the hosts answer that the command line asks for.
use Rattle.std.specs.Prelude.{ℕ}
use Rattle.spf_guess.specs.Answers.{Answers}
use Rattle.spf_guess.specs.Kinds.{last_answer, most_answer, table_answer, vote_answer}
use Rattle.spf_cli_host_words.specs.HostWords.{Kind, Fixed, Last, Most, Table, Vote}

-- how many different values are counted, to answer the one that was told most often
abbrev pub most_room : ℕ
most_room = 256

-- for how many blocks a table keeps a value
abbrev pub table_room : ℕ
table_room = 4096

-- for how many blocks votes are counted, and how many different values of each
abbrev pub vote_room : ℕ
vote_room = 4096

abbrev pub vote_each : ℕ
vote_each = 8

-- what a host of a kind answers
abbrev pub answers_of : Kind → Answers
answers_of (Fixed value) pairs block = value
answers_of Last pairs block = last_answer pairs
answers_of Most pairs block = most_answer most_room pairs
answers_of Table pairs block = table_answer table_room pairs block
answers_of Vote pairs block = vote_answer vote_room vote_each pairs block

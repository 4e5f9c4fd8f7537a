-- Batches: one program is run on one file after another, and its hosts learn from file to file.
use Rattle.std.specs.Prelude.{ℕ, List, [], ◌++◌}
use Rattle.std.specs.List.{flat_map, fold}
use Rattle.spf_ast.specs.Syntax.{Program}
use Rattle.spf_ast.specs.Program.{outcome}
use Rattle.spf_guess_statistics.specs.Guess.{Hosts, Telling, told_to}
use Rattle.spf_guess_statistics.specs.Statistics.{Tally, none, plus, tally}
use Rattle.spf_edge.specs.Entries.{Entry}
use Rattle.spf_batch.specs.Text.{answer_of}

-- how many bytes a file may have, and how many files a batch
abbrev pub max_input : ℕ
max_input = 4194304

abbrev pub max_files : ℕ
max_files = 1000

-- ---- answers

-- the answer of a file is that of its run alone
abbrev pub file_answer : Program → Entry → List ℕ
file_answer p file = answer_of file.name (outcome p file.content)

-- the answers of files, in order
abbrev pub answers : Program → List Entry → List ℕ
answers p files = flat_map (file_answer p) files

-- ---- statistics

-- hosts after they were told this
abbrev pub after : Hosts → List Telling → Hosts
after hosts telling host pairs block = hosts host (told_to host telling ++ pairs) block

-- one more file: its hosts were told the pairs of all files before it
abbrev pub file_step : Hosts → Program → Tally → Entry → Tally
file_step hosts p before file = record {
  stats = plus before.stats (tally (after hosts before.telling) p file.content).stats;
  telling = before.telling ++ (tally (after hosts before.telling) p file.content).telling;
}

-- the sums of the statistics of files in order, and all that hosts are told
abbrev pub batch_tally : Hosts → Program → List Entry → Tally
batch_tally hosts p files = fold (file_step hosts p) (record { stats = none; telling = [] }) files

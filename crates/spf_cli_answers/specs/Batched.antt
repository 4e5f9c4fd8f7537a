-- The course of a batch: its files one after another, each with its answer.
use Rattle.std.specs.Prelude.{ℕ, nat_le, List, [], ◌∷◌, ◌++◌, length, map}
use Rattle.spf_ast.specs.Syntax.{Program}
use Rattle.spf_ast.specs.Program.{cell_count_of, max_cells}
use Rattle.spf_exec_instance.specs.RunErrors.{counted}
use Rattle.spf_guess_statistics.specs.Guess.{Hosts}
use Rattle.spf_edge.specs.declared.files.FetchError.{FetchError}
use Rattle.spf_edge.specs.declared.files.FetchError.TheVariants.{Missing, Failed, TooLong, OutOfMemory}
use Rattle.spf_edge.specs.Entries.{Entry}
use Rattle.spf_batch.specs.Batch.{max_input, file_answer, batch_tally}
use Rattle.spf_cli_answers.specs.Message.{failed_line, long_line, too_many_line, files_line}
use Rattle.spf_cli_answers.specs.Answer.{Answer}
use Rattle.spf_cli_answers.specs.Course.{Wanted, Is, Course, Ends, Chosen, FetchesOr}

-- the answers of these files, with a status and a line
abbrev pub batch_answer : Program → List Entry → (status : ℕ) → (said : List ℕ) → Answer
batch_answer p files status said = record { status = status; out = map (file_answer p) files; err = said ∷ [] }

-- the answer where these are all files
abbrev pub batch_done : Hosts → Program → List Entry → Answer
batch_done hosts p files = batch_answer p files 0 (files_line (length files) (batch_tally hosts p files).stats)

-- the answer where the next file can't be fetched
abbrev pub FileUnfetched : Program → List Entry → List ℕ → FetchError → Wanted
FileUnfetched p files name Missing = Is (batch_answer p files 5 (failed_line name))
FileUnfetched p files name Failed = Is (batch_answer p files 5 (failed_line name))
FileUnfetched p files name TooLong = Is (batch_answer p files 7 (long_line name max_input))
FileUnfetched p files name OutOfMemory = λ answer. ⊥

-- the next file is run, unless it has too many cells
abbrev pub RunsFile : Program → List Entry → Entry → (List Entry → Course) → Course
RunsFile p files file next =
    Chosen (nat_le (cell_count_of p (length file.content)) (max_cells p)) (next (files ++ file ∷ []))
    (Ends (Is (batch_answer p files 7 (too_many_line (counted (cell_count_of p (length file.content))) (max_cells p)))))

-- after these files those of these names are fetched and run, one after the other
abbrev pub RunsFiles : Hosts → Program → List Entry → List (List ℕ) → Course
RunsFiles hosts p files [] = Ends (Is (batch_done hosts p files))
RunsFiles hosts p files (name ∷ names) = FetchesOr (FileUnfetched p files name) name max_input (λ content.
    RunsFile p files (record { name = name; content = content }) (λ more. RunsFiles hosts p more names))

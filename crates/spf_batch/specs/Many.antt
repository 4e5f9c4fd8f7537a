-- What a batch leaves.
use Rattle.std.specs.Prelude.{◌≡◌, ℕ, List, [], ◌∷◌, ◌++◌, length, map, Option, Some}
use Rattle.std.specs.List.{All}
use Rattle.spf_ast.specs.Syntax.{Program}
use Rattle.spf_guess.specs.Answers.{WereTold}
use Rattle.spf_edge.specs.Entries.{Entry}
use Rattle.spf_edge.specs.Bytes.{Adds}
use Rattle.spf_edge.specs.Fetches.{AreMade}
use Rattle.spf_batch.specs.Batch.{file_answer, answers, batch_tally}
use Rattle.spf_batch.specs.World.{World, IsIdle, fetch_of_file, HasFewCells, ArePut}
use Rattle.spf_batch.specs.One.{IsStoppedBy}
use Rattle.spf_batch.specs.declared.batch.Totals.{Totals}
use Rattle.spf_batch.specs.declared.error.BatchError.{BatchError}
use Rattle.spf_batch.specs.declared.error.BatchError.TheVariants.{NoHost}

abbrev pub names_of : List Entry → List (List ℕ)
names_of files = map (λ file. file.name) files

-- these files and no others were fetched and run, their answers were put, and hosts were told their pairs
pub record HaveRun (p : Program) (files : List Entry) (before now : World) : Type 0 where
  pub fetched : AreMade before.files now.files (map fetch_of_file files)
  pub few : All (HasFewCells p) files
  pub took : Adds before.out.taken now.out.taken (answers p files)
  pub put : ArePut (map (file_answer p) files) before.out now.out
  pub told : WereTold before.hosts (batch_tally before.hosts p files).telling now.hosts

-- all files of these names were run, and the totals are theirs
pub record IsDone (p : Program) (names : List (List ℕ)) (before now : World) (totals : Totals) : Type 0 where
  pub files : List Entry
  pub names_are : names ≡ names_of files
  pub run : HaveRun p files before now
  pub count_is : totals.files ≡ length files
  pub stats_are : totals.stats ≡ (batch_tally before.hosts p files).stats

-- the files before one of these names were run, and that one was not run to its end
pub record IsStoppedAt (p : Program) (names : List (List ℕ)) (before now : World) (error : BatchError) : Type 0 where
  pub files : List Entry
  pub name : List ℕ
  pub later : List (List ℕ)
  pub names_are : names ≡ names_of files ++ name ∷ later
  pub between : World
  pub run : HaveRun p files before between
  pub stopped : IsStoppedBy p name (length files) between now error

-- why a batch was not run to its end; a host that is missing comes before all else
abbrev pub IsStopped : Program → List (List ℕ) → Option ℕ → World → World → BatchError → Type 0
IsStopped p names missing before now (NoHost number) =
    (missing ≡ Some number) × (now.files ≡ before.files) × IsIdle before now
IsStopped p names missing before now error = IsStoppedAt p names before now error

-- What is said of a batch: a function of what its fetches gave.
use Rattle.std.specs.Prelude.{◌≡◌, ℕ, if◌then◌else◌, nat_le, List, [], ◌∷◌, ◌++◌, length, map, Result, Ok, Err}
use Rattle.spf_ast.specs.Syntax.{Program}
use Rattle.spf_ast.specs.Program.{cell_count_of, max_cells}
use Rattle.spf_exec_instance.specs.RunErrors.{counted}
use Rattle.spf_guess_statistics.specs.Guess.{Hosts}
use Rattle.spf_edge.specs.declared.files.FetchError.{FetchError}
use Rattle.spf_edge.specs.declared.files.FetchError.TheVariants as fetch_error
use Rattle.spf_edge.specs.Entries.{Entry}
use Rattle.spf_edge.specs.Bytes.{Adds, AddsPrefix}
use Rattle.spf_edge.specs.Fetches.{Fetch as FetchMade, AreMade}
use Rattle.spf_batch.specs.Batch.{answers, batch_tally}
use Rattle.spf_batch.specs.World.{World}
use Rattle.spf_batch.specs.Many.{IsDone, IsStoppedAt}
use Rattle.spf_batch.specs.declared.batch.Totals.{Totals}
use Rattle.spf_batch.specs.declared.error.BatchError.{BatchError}
use Rattle.spf_batch.specs.declared.error.BatchError.TheVariants.{Fetch, TooLong, TooManyCells, NoHost, Put, OutOfMemory}

-- the bytes that a batch puts, and what it gives
pub record Said : Type 0 where
  pub out : List ℕ
  pub gives : Result Totals BatchError

-- all files were run
abbrev pub all_run : Hosts → Program → List Entry → Said
all_run hosts p files = record {
  out = answers p files;
  gives = Ok (record { files = length files; stats = (batch_tally hosts p files).stats });
}

-- these files were run, and then there was an error
abbrev pub stops_after : Program → List Entry → BatchError → Said
stops_after p files error = record { out = answers p files; gives = Err error }

-- the error where a fetch gives no content
abbrev pub error_of : ℕ → FetchError → BatchError
error_of place fetch_error.Missing = Fetch place
error_of place fetch_error.Failed = Fetch place
error_of place fetch_error.TooLong = TooLong place
error_of place fetch_error.OutOfMemory = OutOfMemory

-- a file is run after these, if its fetch gives it and it hasn't too many cells
abbrev pub with_file : Program → List Entry → List ℕ → Result (List ℕ) FetchError → (List Entry → Said) → Said
with_file p files name (Err error) next = stops_after p files (error_of (length files) error)
with_file p files name (Ok content) next =
    if nat_le (cell_count_of p (length content)) (max_cells p) then next (files ++ record { name = name; content = content } ∷ [])
    else stops_after p files (TooManyCells (length files) (counted (cell_count_of p (length content))))

-- what is said once these files were run, by what further fetches give
abbrev pub batch_said : Hosts → Program → List Entry → List FetchMade → Said
batch_said hosts p files [] = all_run hosts p files
batch_said hosts p files (fetch ∷ fetches) = with_file p files fetch.name fetch.gave (λ more. batch_said hosts p more fetches)

-- the fetches that a batch made are the first of those of its names
pub record AreFirstOf (names : List (List ℕ)) (fetches : List FetchMade) : Type 0 where
  pub later : List (List ℕ)
  pub names_are : names ≡ map (λ fetch. fetch.name) fetches ++ later

-- A batch with this error has put, and gives, what is said of its fetches. After a put that failed, or without memory,
-- it has put a prefix of what is said of them and of whatever fetches could have followed.
abbrev pub StopsAsSaid : Hosts → Program → List FetchMade → World → World → BatchError → Type 0
StopsAsSaid hosts p fetches before now Put =
    (more : List FetchMade) → AddsPrefix before.out.taken now.out.taken (batch_said hosts p [] (fetches ++ more)).out
StopsAsSaid hosts p fetches before now OutOfMemory =
    (more : List FetchMade) → AddsPrefix before.out.taken now.out.taken (batch_said hosts p [] (fetches ++ more)).out
StopsAsSaid hosts p fetches before now error =
    Adds before.out.taken now.out.taken (batch_said hosts p [] fetches).out × ((batch_said hosts p [] fetches).gives ≡ Err error)

-- and one that is done
abbrev pub EndsAsSaid : Hosts → Program → List FetchMade → World → World → Totals → Type 0
EndsAsSaid hosts p fetches before now totals =
    Adds before.out.taken now.out.taken (batch_said hosts p [] fetches).out × ((batch_said hosts p [] fetches).gives ≡ Ok totals)

-- what a batch leaves is what is said of the fetches that it made
pub record BatchesAnswerAsSaid : Type 0 where
  pub done : (p : Program) (names : List (List ℕ)) (before now : World) (totals : Totals) → IsDone p names before now totals
      → (fetches : List FetchMade) × AreMade before.files now.files fetches × (names ≡ map (λ fetch. fetch.name) fetches)
      × EndsAsSaid before.hosts p fetches before now totals
  pub stopped : (p : Program) (names : List (List ℕ)) (before now : World) (error : BatchError) → IsStoppedAt p names before now error
      → (fetches : List FetchMade) × AreMade before.files now.files fetches × AreFirstOf names fetches
      × StopsAsSaid before.hosts p fetches before now error

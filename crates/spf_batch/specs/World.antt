-- What a batch finds, and what it leaves.
use Rattle.std.specs.Prelude.{◌≡◌, ◌≤◌, ℕ, List, [], ◌∷◌, length, Result, Ok}
use Rattle.spf_ast.specs.Syntax.{Program}
use Rattle.spf_ast.specs.Program.{cell_count_of, max_cells}
use Rattle.spf_guess_statistics.specs.Guess.{Hosts}
use Rattle.spf_guess.specs.Answers.{WereTold}
use Rattle.spf_edge.specs.declared.files.FetchError.{FetchError}
use Rattle.spf_edge.specs.Entries.{Entry}
use Rattle.spf_edge.specs.Fetches.{FilesState, Fetch, AreMade}
use Rattle.spf_edge.specs.Puts.{SinkState}
use Rattle.spf_edge_pieces.specs.Pieces.{AreCut, AreCutEach, AreTaken, AreTakenInPart}
use Rattle.spf_batch.specs.Batch.{max_input}

-- the files, the output, and the hosts
pub record World : Type 0 where
  pub files : FilesState
  pub out : SinkState
  pub hosts : Hosts

abbrev pub world : FilesState → SinkState → Hosts → World
world files out hosts = record { files = files; out = out; hosts = hosts }

-- nothing was put, and hosts were told nothing
pub record IsIdle (before now : World) : Type 0 where
  pub put : now.out ≡ before.out
  pub told : WereTold before.hosts [] now.hosts

-- the fetch of a file for a batch, which gave this
abbrev pub fetch_giving : List ℕ → Result (List ℕ) FetchError → Fetch
fetch_giving name gave = record { name = name; limit = max_input; gave = gave }

-- the fetch that gave a file
abbrev pub fetch_of_file : Entry → Fetch
fetch_of_file file = fetch_giving file.name (Ok file.content)

-- one fetch was made, which gave this; where it gave no content, that has its cause
abbrev pub IsFetched : List ℕ → Result (List ℕ) FetchError → World → World → Type 0
IsFetched name gave before now = AreMade before.files now.files (fetch_giving name gave ∷ [])

-- a run on a file has no more cells than the program's version allows
abbrev pub HasFewCells : Program → Entry → Type 0
HasFewCells p file = cell_count_of p (length file.content) ≤ max_cells p

-- answers were put, one after another
pub record ArePut (answers : List (List ℕ)) (before now : SinkState) : Type 0 where
  pub pieces : List (List ℕ)
  pub cut : AreCutEach answers pieces
  pub taken : AreTaken pieces before now
  pub later : before.faults ≤ now.faults

-- the first pieces of an answer were put
pub record IsPutInPart (answer : List ℕ) (before now : SinkState) : Type 0 where
  pub pieces : List (List ℕ)
  pub cut : AreCut answer pieces
  pub taken : AreTakenInPart pieces before now

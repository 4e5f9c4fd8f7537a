-- One file of a batch.
use Rattle.std.specs.Prelude.{◌≡◌, ◌⊎◌, ◌<◌, ℕ, List, [], ◌∷◌, length, Ok, Err}
use Rattle.spf_ast.specs.Syntax.{Program}
use Rattle.spf_ast.specs.Program.{cell_count_of, max_cells}
use Rattle.spf_exec_instance.specs.RunErrors.{counted}
use Rattle.spf_guess_statistics.specs.declared.stats.Stats.{Stats}
use Rattle.spf_guess_statistics.specs.Statistics.{tally}
use Rattle.spf_guess.specs.Answers.{WereTold}
use Rattle.spf_engine.specs.Runs.{WereToldFirst}
use Rattle.spf_engine.specs.declared.error.EngineError.{EngineError}
use Rattle.spf_engine.specs.declared.error.EngineError.TheVariants as engine_error
use Rattle.spf_edge.specs.declared.files.FetchError.TheVariants as fetch_error
use Rattle.spf_edge.specs.Entries.{Entry}
use Rattle.spf_edge.specs.Faults.{Rose}
use Rattle.spf_edge.specs.Fetches.{FilesState, AreMade}
use Rattle.spf_batch.specs.Batch.{file_answer}
use Rattle.spf_batch.specs.World.{World, IsIdle, IsFetched, HasFewCells, ArePut, IsPutInPart, fetch_giving}
use Rattle.spf_batch.specs.declared.error.BatchError.{BatchError}
use Rattle.spf_batch.specs.declared.error.BatchError.TheVariants.{Fetch, TooLong, TooManyCells, NoHost, Put, OutOfMemory}

-- the file was fetched and run, its answer was put, and hosts were told its pairs
pub record HasRun (p : Program) (file : Entry) (before now : World) : Type 0 where
  pub fetched : IsFetched file.name (Ok file.content) before now
  pub few : HasFewCells p file
  pub put : ArePut (file_answer p file ∷ []) before.out now.out
  pub told : WereTold before.hosts (tally before.hosts p file.content).telling now.hosts

-- the file was fetched and run, hosts were told its pairs, and its answer was put in part
pub record HasRunInPart (p : Program) (file : Entry) (before now : World) : Type 0 where
  pub fetched : IsFetched file.name (Ok file.content) before now
  pub few : HasFewCells p file
  pub put : IsPutInPart (file_answer p file) before.out now.out
  pub told : WereTold before.hosts (tally before.hosts p file.content).telling now.hosts

-- the file of this name was fetched, and has too many cells: `count` of them
pub record HasTooMany (p : Program) (name : List ℕ) (count : ℕ) (before now : World) : Type 0 where
  pub content : List ℕ
  pub fetched : IsFetched name (Ok content) before now
  pub many : max_cells p < cell_count_of p (length content)
  pub count_is : count ≡ counted (cell_count_of p (length content))

-- the file of this name was fetched, and memory ran out before anything was put
pub record IsCutShort (p : Program) (name : List ℕ) (before now : World) : Type 0 where
  pub content : List ℕ
  pub fetched : IsFetched name (Ok content) before now
  pub put : now.out ≡ before.out
  pub told_first : WereToldFirst before.hosts p content now.hosts

-- why the file of this name, at this place, was not run to its end, and what was done before that
abbrev pub IsStoppedBy : Program → List ℕ → ℕ → World → World → BatchError → Type 0
IsStoppedBy p name place before now (Fetch at) =
    (at ≡ place) × IsIdle before now
    × (IsFetched name (Err fetch_error.Missing) before now ⊎ IsFetched name (Err fetch_error.Failed) before now)
IsStoppedBy p name place before now (TooLong at) =
    (at ≡ place) × IsIdle before now × IsFetched name (Err fetch_error.TooLong) before now
IsStoppedBy p name place before now (TooManyCells at count) =
    (at ≡ place) × IsIdle before now × HasTooMany p name count before now
IsStoppedBy p name place before now (NoHost number) = ⊥
IsStoppedBy p name place before now Put =
    Rose before.out.faults now.out.faults
    × ((content : List ℕ) × HasRunInPart p (record { name = name; content = content }) before now)
IsStoppedBy p name place before now OutOfMemory =
    (IsIdle before now × IsFetched name (Err fetch_error.OutOfMemory) before now)
    ⊎ (IsCutShort p name before now
    ⊎ ((content : List ℕ) × HasRunInPart p (record { name = name; content = content }) before now))

-- ---- what the calls for one file leave

-- the file of this name, at this place, can't be fetched
abbrev pub IsUnfetched : List ℕ → ℕ → FilesState → FilesState → BatchError → Type 0
IsUnfetched name place old new (Fetch at) =
    (at ≡ place)
    × (AreMade old new (fetch_giving name (Err fetch_error.Missing) ∷ []) ⊎ AreMade old new (fetch_giving name (Err fetch_error.Failed) ∷ []))
IsUnfetched name place old new (TooLong at) = (at ≡ place) × AreMade old new (fetch_giving name (Err fetch_error.TooLong) ∷ [])
IsUnfetched name place old new OutOfMemory = AreMade old new (fetch_giving name (Err fetch_error.OutOfMemory) ∷ [])
IsUnfetched name place old new error = ⊥

-- the error where a run was not begun, or memory ran out in it
abbrev pub error_for : ℕ → EngineError → BatchError
error_for place (engine_error.TooManyCells count) = TooManyCells place count
error_for place (engine_error.NoHost number) = NoHost number
error_for place engine_error.OutOfMemory = OutOfMemory

-- an answer was not put whole: because of a fault of the output, or without memory
abbrev pub IsPutError : Type 0 → BatchError → Type 0
IsPutError Fault Put = Fault
IsPutError Fault OutOfMemory = Unit {0}
IsPutError Fault error = ⊥

-- the file of this name was run, with these statistics
abbrev pub IsRun : Program → List ℕ → World → World → Stats → Type 0
IsRun p name before now stats =
    (content : List ℕ) × HasRun p (record { name = name; content = content }) before now × (stats ≡ (tally before.hosts p content).stats)

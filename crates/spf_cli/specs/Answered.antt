-- What became of an answer: how much of it was put.
use Rattle.std.specs.Prelude.{◌≡◌, ◌⊎◌, ⊤, ℕ, List, [], ◌∷◌, ◌++◌, Err}
use Rattle.spf_edge.specs.declared.files.FetchError.TheVariants.{OutOfMemory}
use Rattle.spf_edge.specs.Faults.{Rose}
use Rattle.spf_edge.specs.Fetches.{FilesState, Fetch, AreMade}
use Rattle.spf_edge.specs.Puts.{SinkState}
use Rattle.spf_cli_words.specs.Only.{IsOnly}
use Rattle.spf_cli_answers.specs.Answer.{Answer}
use Rattle.spf_cli_answers.specs.Course.{Wanted, Course}
use Rattle.spf_edge_pieces.specs.Pieces.{AreCutEach, AreTaken, AreTakenInPart}

-- the sinks for the output and for the lines, before and after
pub record Sinks : Type 0 where
  pub out_before : SinkState
  pub out_now : SinkState
  pub err_before : SinkState
  pub err_now : SinkState

abbrev pub sinks : SinkState → SinkState → SinkState → SinkState → Sinks
sinks out_before out_now err_before err_now = record {
  out_before = out_before;
  out_now = out_now;
  err_before = err_before;
  err_now = err_now;
}

-- an answer was given: its status, its output in pieces, and then its lines, each by a put of its own
pub record IsGiven (answer : Answer) (status : ℕ) (s : Sinks) : Type 0 where
  pub status_is : status ≡ answer.status
  pub pieces : List (List ℕ)
  pub cut : AreCutEach answer.out pieces
  pub out_took : AreTaken pieces s.out_before s.out_now
  pub err_took : AreTaken answer.err s.err_before s.err_now

-- The first pieces of an answer were put, and no line before the output had all of its own. After a put that failed,
-- nothing more was put on either sink.
pub record IsGivenInPart (answer : Answer) (s : Sinks) : Type 0 where
  pub texts : List (List ℕ)
  pub later : List (List ℕ)
  pub out_is : answer.out ≡ texts ++ later
  pub pieces : List (List ℕ)
  pub cut : AreCutEach texts pieces
  pub out_took : AreTakenInPart pieces s.out_before s.out_now
  pub err_took : AreTakenInPart answer.err s.err_before s.err_now
  pub lines_wait : ((later ≡ []) × AreTaken pieces s.out_before s.out_now) ⊎ (s.err_now ≡ s.err_before)

-- memory ran out, or a sink failed
abbrev pub IsBroken : ℕ → Sinks → Type 0
IsBroken status s =
    (status ≡ 8) ⊎ ((status ≡ 6) × (Rose s.out_before.faults s.out_now.faults ⊎ Rose s.err_before.faults s.err_now.faults))

-- memory ran out, and nothing was put
abbrev pub IsUntouched : ℕ → Sinks → Type 0
IsUntouched status s = (status ≡ 8) × (s.out_now ≡ s.out_before) × (s.err_now ≡ s.err_before)

-- the one answer that is wanted was given; or the first pieces of it, until memory ran out or a sink failed
abbrev pub IsPut : Wanted → ℕ → Sinks → Type 0
IsPut wanted status s =
    (answer : Answer) × IsOnly wanted answer × (IsGiven answer status s ⊎ (IsGivenInPart answer s × IsBroken status s))

-- none of these, or one for which memory ran out
abbrev pub IsShortOf : List Fetch → Type 0
IsShortOf [] = ⊤
IsShortOf (fetch ∷ []) = fetch.gave ≡ Err OutOfMemory
IsShortOf fetches = ⊥

-- A course was broken off between its fetches: memory ran out or a sink failed. It could have gone on, and whatever
-- further fetches had given, the first pieces of the answer were put.
pub record IsBrokenOff (course : Course) (old new : FilesState) (status : ℕ) (s : Sinks) : Type 0 where
  pub fetches : List Fetch
  pub last : List Fetch
  pub made : AreMade old new (fetches ++ last)
  pub short : IsShortOf last
  pub goes_on : (more : List Fetch) × (answer : Answer) × course (fetches ++ more) answer
  pub part : (more : List Fetch) (answer : Answer) → course (fetches ++ more) answer → IsGivenInPart answer s
  pub broken : IsBroken status s

-- a course was followed, and the one answer to what its fetches gave was put, unless memory ran out before; or it was broken off
abbrev pub IsAnswered : Course → FilesState → FilesState → ℕ → Sinks → Type 0
IsAnswered course old new status s =
    ((fetches : List Fetch) × AreMade old new fetches × IsPut (course fetches) status s)
    ⊎ (IsUntouched status s ⊎ IsBrokenOff course old new status s)

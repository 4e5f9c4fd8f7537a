-- The course of a command: what it fetches, one file after the other, and what is wanted of its answer.
use Rattle.std.specs.Prelude.{◌≡◌, ℕ, Bool, true, false, List, [], ◌∷◌, Result, Ok, Err}
use Rattle.spf_edge.specs.declared.files.FetchError.{FetchError}
use Rattle.spf_edge.specs.declared.files.FetchError.TheVariants.{Missing, Failed, TooLong, OutOfMemory}
use Rattle.spf_edge.specs.Fetches.{Fetch}
use Rattle.spf_cli_answers.specs.Answer.{Answer, file_failed, file_too_long}

-- what an answer has to meet
abbrev pub Wanted : Type 1
Wanted = Answer → Type 0

-- this answer
abbrev pub Is : Answer → Wanted
Is said answer = answer ≡ said

-- one and the other
abbrev pub Both : Wanted → Wanted → Wanted
Both first second answer = first answer × second answer

-- one or the other, by a test
abbrev pub Either : Bool → Wanted → Wanted → Wanted
Either true first second = first
Either false first second = second

-- what the fetches of a command, with what they gave, and its answer have to meet
abbrev pub Course : Type 1
Course = List Fetch → Wanted

-- nothing more is fetched, and this is wanted of the answer
abbrev pub Ends : Wanted → Course
Ends wanted [] answer = wanted answer
Ends wanted (fetch ∷ fetches) answer = ⊥

-- the answer where a fetch gave no content; without memory for the content there is none
abbrev pub Unfetched : List ℕ → ℕ → FetchError → Wanted
Unfetched name limit Missing answer = answer ≡ file_failed name
Unfetched name limit Failed answer = answer ≡ file_failed name
Unfetched name limit TooLong answer = answer ≡ file_too_long name limit
Unfetched name limit OutOfMemory answer = ⊥

-- one course or the other, by a test
abbrev pub Chosen : Bool → Course → Course → Course
Chosen true first second = first
Chosen false first second = second

-- what follows a fetch that gave this; without a content, this is wanted of the answer
abbrev pub After : (FetchError → Wanted) → Result (List ℕ) FetchError → (List ℕ → Course) → Course
After left (Ok content) next = next content
After left (Err error) next = Ends (left error)

-- the file of this name is fetched, within this limit, and this is done with its content
abbrev pub FetchesOr : (FetchError → Wanted) → List ℕ → ℕ → (List ℕ → Course) → Course
FetchesOr left name limit next [] answer = ⊥
FetchesOr left name limit next (fetch ∷ fetches) answer =
    (fetch.name ≡ name) × (fetch.limit ≡ limit) × After left fetch.gave next fetches answer

-- the file of this name is fetched, within this limit, for a command that has nothing to say without the file
abbrev pub Fetches : List ℕ → ℕ → (List ℕ → Course) → Course
Fetches name limit = FetchesOr (Unfetched name limit) name limit

-- What the words of a command line lead to: an answer, or a batch that can begin.
use Rattle.std.specs.Prelude.{◌≡◌, ◌⊎◌, ℕ, List, [], ◌∷◌, ◌++◌, map, string_bytes, Option, Some, None, Result, Ok, Err}
use Rattle.spf_ast.specs.Syntax.{Program}
use Rattle.spf_ast.specs.Construct.{constructs_in}
use Rattle.spf_ast.specs.View.{program}
use Rattle.spf_guess.specs.Missing.{missing_host}
use Rattle.spf_edge.specs.Fetches.{FilesState, Fetch, AreMade}
use Rattle.spf_batch_lists.specs.Lists.{AreNames, IsBadAt}
use Rattle.spf_cli_answers.specs.Answer.{Answer, host_missing, not_a_name}
use Rattle.spf_cli_answers.specs.Answering.{seen_answer, IsFollowed, AnswersWith, IsFetchExit}
use Rattle.spf_cli_answers.specs.Batched.{RunsFiles}
use Rattle.spf_cli_answers.specs.Course.{Course}
use Rattle.spf_cli_answers.specs.Whole.{Handed, max_list}
use Rattle.spf_cli_answers.specs.declared.answer.Answer as made
use Rattle.spf_cli_answers.specs.declared.answer.Exit.{Exit}
use Rattle.spf_cli_answers.specs.declared.answer.Exit.TheVariants.{Answered, NoMemory}
use Rattle.spf_cli_answers.specs.declared.reply.Reply.{Reply}
use Rattle.spf_cli_answers.specs.declared.reply.Reply.TheVariants as reply
use Rattle.spf_cli_answers.specs.declared.batch.Batch.{Batch}

-- these fetches were made, and what is left of the course is this rest
pub record LeadsTo (course rest : Course) (old new : FilesState) : Type 0 where
  pub fetches : List Fetch
  pub made : AreMade old new fetches
  pub on : (more : List Fetch) (answer : Answer) → rest more answer → course (fetches ++ more) answer
  pub back : (more : List Fetch) (answer : Answer) → course (fetches ++ more) answer → rest more answer

-- what is left of the course is to run the program on the files of these names, and no host is missing
pub record CanRunFiles (given : Handed) (course : Course) (p : Program) (names : List (List ℕ)) (old new : FilesState) : Type 0 where
  pub complete : missing_host given.count (constructs_in p.main) ≡ None
  pub leads : LeadsTo course (RunsFiles given.hosts p [] names) old new

-- the same of a batch
abbrev pub CanBegin : Handed → Course → FilesState → FilesState → Batch → Type 0
CanBegin given course old new b = CanRunFiles given course (program b.checked) (map string_bytes b.names.items) old new

-- the course was followed to its answer, or to a batch
abbrev pub IsReply : Handed → Course → FilesState → FilesState → Reply → Type 0
IsReply given course old new (reply.Answer a) = IsFollowed course old new (seen_answer a)
IsReply given course old new (reply.Batch b) = CanBegin given course old new b

-- the course was followed to its answer, or to a batch, unless memory ran out
abbrev pub RepliesWith : Handed → Course → FilesState → FilesState → Result Reply Exit → Type 0
RepliesWith given course old new (Ok r) = IsReply given course old new r
RepliesWith given course old new (Err left) = AnswersWith (IsFollowed course old new) (Err left)

-- an answer as a reply
abbrev pub reply_of : Result made.Answer Exit → Result Reply Exit
reply_of (Ok a) = Ok (reply.Answer a)
reply_of (Err left) = Err left

-- a batch as a reply
abbrev pub batch_reply_of : Result Batch Exit → Result Reply Exit
batch_reply_of (Ok b) = Ok (reply.Batch b)
batch_reply_of (Err left) = Err left

-- the reply is a batch
abbrev pub IsBatch : Reply → Type 0
IsBatch (reply.Answer a) = ⊥
IsBatch (reply.Batch b) = Unit {0}

-- ---- hosts

-- a host is missing, and there is the answer to that, or memory ran out
abbrev pub IsHostExit : Option ℕ → Exit → Type 0
IsHostExit missing (Answered a) = (host : ℕ) × (missing ≡ Some host) × (seen_answer a ≡ host_missing host)
IsHostExit missing NoMemory = Unit {0}

-- ---- lists

-- the file of this name was fetched, and is a list of these names
abbrev pub IsList : FilesState → FilesState → List ℕ → List (List ℕ) → Type 0
IsList old new list names =
    (bytes : List ℕ) × AreMade old new (record { name = list; limit = max_list; gave = Ok bytes } ∷ []) × AreNames bytes names

-- a text isn't a list of names: there is the answer to that, or memory ran out
abbrev pub IsListExit : List ℕ → Exit → Type 0
IsListExit bytes (Answered a) = (number : ℕ) × IsBadAt bytes number × (seen_answer a ≡ not_a_name number)
IsListExit bytes NoMemory = Unit {0}

-- it can't be fetched, or has a line that isn't a name; there is the answer to that, or memory ran out
abbrev pub IsNoList : FilesState → FilesState → List ℕ → Exit → Type 0
IsNoList old new list (Answered a) =
    IsFetchExit old new list max_list (Answered a)
    ⊎ ((bytes : List ℕ) × AreMade old new (record { name = list; limit = max_list; gave = Ok bytes } ∷ []) × IsListExit bytes (Answered a))
IsNoList old new list NoMemory = Unit {0}

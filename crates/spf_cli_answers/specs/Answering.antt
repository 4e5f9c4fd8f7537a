-- What the steps to an answer leave.
use Rattle.std.specs.Prelude.{◌≡◌, ◌⊎◌, ℕ, List, [], ◌∷◌, Option, Result, Ok, Err, Vec}
use Rattle.std.specs.declared.alloc.Global.{Global}
use Rattle.spf_ast.specs.Program.{max_cells}
use Rattle.spf_ast.specs.Syntax.{Program}
use Rattle.spf_ast.specs.View.{program}
use Rattle.spf_region.specs.declared.range.Range.{Range}
use Rattle.spf_check.specs.declared.rule.Rule.{Rule}
use Rattle.spf_check.specs.declared.rule.CheckError.{CheckError}
use Rattle.spf_check.specs.declared.rule.CheckError.TheVariants as not_accepted
use Rattle.spf_check.specs.Accepting.{IsFirstRefusal}
use Rattle.spf_edge.specs.declared.files.FetchError.{FetchError}
use Rattle.spf_edge.specs.Fetches.{FilesState, Fetch, AreMade}
use Rattle.spf_engine.specs.declared.error.EngineError.{EngineError}
use Rattle.spf_engine.specs.declared.error.EngineError.TheVariants as engine_error
use Rattle.spf_exec_instance.specs.declared.layout.RunError.{RunError}
use Rattle.spf_exec_instance.specs.declared.layout.RunError.TheVariants.{TooManyCells}
use Rattle.spf_exec_instance.specs.declared.layout.RunError.TheVariants as run_error
use Rattle.spf_cli_answers.specs.Answer as said
use Rattle.spf_cli_answers.specs.Answer.{text_refused, rule_refused, too_many_cells, host_missing}
use Rattle.spf_cli_answers.specs.Course.{Course, Unfetched}
use Rattle.spf_cli_answers.specs.Reading.{TextRefusal, Refuses, IsTextVerdict}
use Rattle.spf_cli_answers.specs.Status.{status_number}
use Rattle.spf_cli_words.specs.Only.{IsOnly}
use Rattle.spf_cli_answers.specs.declared.answer.Answer.{Answer}
use Rattle.spf_cli_answers.specs.declared.answer.Exit.{Exit}
use Rattle.spf_cli_answers.specs.declared.answer.Exit.TheVariants.{Answered, NoMemory}

-- the lines that messages are
abbrev pub lines_of : List (Vec ℕ Global) → List (List ℕ)
lines_of [] = []
lines_of (message ∷ messages) = message.items ∷ lines_of messages

-- what contracts see of an answer
abbrev pub seen_answer : Answer → said.Answer
seen_answer a = record { status = status_number a.status; out = a.output.items ∷ []; err = lines_of a.messages.items }

-- a fetch gave no content, and there is the answer to that, or memory ran out
abbrev pub IsFetchExit : FilesState → FilesState → List ℕ → ℕ → Exit → Type 0
IsFetchExit old new name limit (Answered a) =
    (error : FetchError) × AreMade old new (record { name = name; limit = limit; gave = Err error } ∷ [])
    × Unfetched name limit error (seen_answer a)
IsFetchExit old new name limit NoMemory = Unit {0}

-- the text is refused in this way, and in no other
abbrev pub IsReadExit : List ℕ → Exit → Type 0
IsReadExit text (Answered a) = (refusal : TextRefusal) × IsOnly (IsTextVerdict text) (Refuses refusal) × (seen_answer a ≡ text_refused refusal)
IsReadExit text NoMemory = Unit {0}

-- the rules refuse the program so, or memory ran out
abbrev pub IsRuleExit : Program → Exit → Type 0
IsRuleExit p (Answered a) =
    (rule : Rule) × (line : ℕ) × (range : Option Range) × IsFirstRefusal p rule line range × (seen_answer a ≡ rule_refused p rule line range)
IsRuleExit p NoMemory = Unit {0}

-- a program isn't accepted: it is handed back with its refusal, or memory ran out
abbrev pub IsNotAccepted : CheckError → Exit → Type 0
IsNotAccepted (not_accepted.Refused p refusal) (Answered a) = seen_answer a ≡ rule_refused (program p) refusal.rule refusal.line refusal.range
IsNotAccepted (not_accepted.OutOfMemory p) (Answered a) = ⊥
IsNotAccepted error NoMemory = Unit {0}

-- the arrays have too many cells, or memory ran out
abbrev pub IsRefusedRun : Program → RunError → Exit → Type 0
IsRefusedRun p (TooManyCells count) (Answered a) = seen_answer a ≡ too_many_cells count (max_cells p)
IsRefusedRun p run_error.OutOfMemory (Answered a) = ⊥
IsRefusedRun p error NoMemory = Unit {0}

-- a run by blocks didn't reach its end, and its answer says why
abbrev pub IsAnswerToError : Program → EngineError → said.Answer → Type 0
IsAnswerToError p (engine_error.TooManyCells count) a = a ≡ too_many_cells count (max_cells p)
IsAnswerToError p (engine_error.NoHost host) a = a ≡ host_missing host
IsAnswerToError p engine_error.OutOfMemory a = ⊥

-- the course was followed: these fetches were made, and this is the one answer to what they gave
pub record IsFollowed (course : Course) (old new : FilesState) (answer : said.Answer) : Type 0 where
  pub fetches : List Fetch
  pub made : AreMade old new fetches
  pub only : IsOnly (course fetches) answer

-- the answer that stands, unless memory ran out
abbrev pub AnswersWith : (said.Answer → Type 0) → Result Answer Exit → Type 0
AnswersWith P (Ok a) = P (seen_answer a)
AnswersWith P (Err (Answered a)) = P (seen_answer a)
AnswersWith P (Err NoMemory) = Unit {0}

-- a program was run to its end, or to its trap
abbrev pub IsRunToItsEnd : said.Answer → Type 0
IsRunToItsEnd answer = (answer.status ≡ 0) ⊎ (answer.status ≡ 1)

-- the rules or a limit left a program unrun
abbrev pub IsLeftUnrun : said.Answer → Type 0
IsLeftUnrun answer = (answer.status ≡ 4) ⊎ (answer.status ≡ 7)

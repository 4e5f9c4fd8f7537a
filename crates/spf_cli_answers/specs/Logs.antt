-- The program and the log that `sim` and `replay` need, and what is left without them.
use Rattle.std.specs.Prelude.{◌≡◌, ◌⊎◌, ℕ, List, [], ◌∷◌, Ok}
use Rattle.spf_ast.specs.Syntax.{Program}
use Rattle.spf_check.specs.Accepting.{IsAccepted}
use Rattle.spf_edge.specs.Fetches.{FilesState, AreMade}
use Rattle.spf_replay_log.specs.declared.log.Step.{Step}
use Rattle.spf_replay_log.specs.Log.{IsLog}
use Rattle.spf_replay_log.specs.Refusals.{LogBreaksAt}
use Rattle.spf_cli_answers.specs.Answer.{not_a_log}
use Rattle.spf_cli_answers.specs.Answering.{seen_answer, IsFetchExit, IsReadExit, IsRuleExit}
use Rattle.spf_cli_answers.specs.Reading.{Says, IsTextVerdict}
use Rattle.spf_cli_answers.specs.Whole.{max_program, max_log}
use Rattle.spf_cli_words.specs.Only.{IsOnly}
use Rattle.spf_cli_answers.specs.declared.answer.Exit.{Exit}
use Rattle.spf_cli_answers.specs.declared.answer.Exit.TheVariants.{Answered, NoMemory}

-- ---- programs

-- the text says this program, which the rules accept
abbrev pub IsAcceptedText : List ℕ → Program → Type 0
IsAcceptedText text p = IsOnly (IsTextVerdict text) (Says p) × IsAccepted p

-- the file of this name was fetched, and says this program, which the rules accept
abbrev pub IsFetchedAccepted : FilesState → FilesState → List ℕ → Program → Type 0
IsFetchedAccepted old new name p =
    (text : List ℕ) × AreMade old new (record { name = name; limit = max_program; gave = Ok text } ∷ [])
    × IsOnly (IsTextVerdict text) (Says p) × IsAccepted p

-- a text doesn't say a program, or says one that the rules refuse; there is the answer to that, or memory ran out
abbrev pub IsTextExit : List ℕ → Exit → Type 0
IsTextExit text left = IsReadExit text left ⊎ ((p : Program) × IsOnly (IsTextVerdict text) (Says p) × IsRuleExit p left)

-- the file can't be fetched, or there is no such program in it; there is the answer to that, or memory ran out
abbrev pub IsNoneAccepted : FilesState → FilesState → List ℕ → Exit → Type 0
IsNoneAccepted old new name (Answered a) =
    IsFetchExit old new name max_program (Answered a)
    ⊎ ((text : List ℕ) × AreMade old new (record { name = name; limit = max_program; gave = Ok text } ∷ []) × IsTextExit text (Answered a))
IsNoneAccepted old new name NoMemory = Unit {0}

-- ---- logs

-- the file of this name was fetched, and is this log
abbrev pub IsReadLog : FilesState → FilesState → List ℕ → List (List Step) → Type 0
IsReadLog old new name log =
    (bytes : List ℕ) × AreMade old new (record { name = name; limit = max_log; gave = Ok bytes } ∷ []) × IsLog log bytes

-- bytes aren't a log: there is the answer to that, or memory ran out
abbrev pub IsLogExit : List ℕ → Exit → Type 0
IsLogExit bytes (Answered a) = (offset : ℕ) × LogBreaksAt bytes offset × (seen_answer a ≡ not_a_log offset)
IsLogExit bytes NoMemory = Unit {0}

-- the file can't be fetched, or isn't a log; there is the answer to that, or memory ran out
abbrev pub IsNoLog : FilesState → FilesState → List ℕ → Exit → Type 0
IsNoLog old new name (Answered a) =
    IsFetchExit old new name max_log (Answered a)
    ⊎ ((bytes : List ℕ) × AreMade old new (record { name = name; limit = max_log; gave = Ok bytes } ∷ []) × IsLogExit bytes (Answered a))
IsNoLog old new name NoMemory = Unit {0}

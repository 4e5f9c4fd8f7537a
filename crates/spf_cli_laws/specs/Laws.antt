-- Laws about the answers of the program.
use Rattle.std.specs.Prelude.{◌≡◌, ◌<◌, ℕ, List, Some}
use Rattle.std.specs.List.{All, AllByRecursion}
use Rattle.spf_edge.specs.Entries.{Entry}
use Rattle.spf_edge.specs.Fetches.{Fetch, IsGiven}
use Rattle.spf_cli_answers.specs.Answer.{Answer}
use Rattle.spf_cli_answers.specs.Course.{Wanted, Course}
use Rattle.spf_cli_answers.specs.Reading.{TextVerdict, IsTextVerdict}
use Rattle.spf_cli_answers.specs.Whole.{Handed, Whole}

-- ---- texts

-- a text has at most one verdict
abbrev pub VerdictsAreTheSame : Type 0
VerdictsAreTheSame = (text : List ℕ) (one other : TextVerdict) → IsTextVerdict text one → IsTextVerdict text other → one ≡ other

-- no text is left without a verdict: there is none of which no verdict is so
abbrev pub NoTextIsLeftUnjudged : Type 0
NoTextIsLeftUnjudged = (text : List ℕ) → ((verdict : TextVerdict) → IsTextVerdict text verdict → ⊥) → ⊥

-- ---- lists of words

-- an answer of a course over these files, each of whose fetches gives what they hold
abbrev pub Over : List Entry → Course → Wanted
Over files course answer = (fetches : List Fetch) × AllByRecursion (IsGiven (Some files) ⊥) fetches × course fetches answer

-- a list of words has at most one answer, with what is supplied and over files
abbrev pub NoneHasTwoAnswers : Type 0
NoneHasTwoAnswers = (handed : Handed) (words : List (List ℕ)) (files : List Entry) (one other : Answer)
    → Over files (Whole handed words) one → Over files (Whole handed words) other → one ≡ other

-- the files hold bytes
abbrev pub HoldBytes : List Entry → Type 0
HoldBytes files = All (λ file. All (λ b. b < 256) file.content) files

-- no list of words is left without an answer: there is none, whatever is supplied and whatever bytes the files hold, to which no answer is the whole one
abbrev pub NoneIsLeftUnanswered : Type 0
NoneIsLeftUnanswered = (handed : Handed) (words : List (List ℕ)) (files : List Entry) → HoldBytes files → ((answer : Answer) → Over files (Whole handed words) answer → ⊥) → ⊥

-- The verdict on a log, up to where a run stands.
use Rattle.std.specs.Prelude.{◌≡◌, ◌+◌, ℕ, List, [], ◌∷◌, ◌++◌, map, length, take, slice_get, Option, Some, None}
use Rattle.std.specs.Global.{Vec}
use Rattle.spf_ast.specs.Carried.{Carried}
use Rattle.spf_speculation_entry.specs.Entry.{Entry}
use Rattle.spf_speculation.specs.Steps.{Step}
use Rattle.spf_engine_laws.specs.Passed.{PassedConstruct}
use Rattle.spf_replay_log.specs.declared.log.Step as logged
use Rattle.spf_replay_log.specs.Log.{sections_of}
use Rattle.spf_replay.specs.SeenSteps.{seen_steps}
use Rattle.spf_ast.specs.Syntax.{Program}
use Rattle.spf_guess_statistics.specs.Guess.{Hosts}
use Rattle.spf_replay.specs.declared.entered.EnteredConstruct.{EnteredConstruct}
use Rattle.spf_replay.specs.declared.verdict.Verdict.{Verdict}
use Rattle.spf_replay.specs.declared.verdict.Verdict.TheVariants.{Yes}
use Rattle.spf_replay.specs.Entered.{entry_of, HasGuesses}
use Rattle.spf_replay.specs.Expecting.{expected}
use Rattle.spf_replay.specs.Verdicts.{Expected, Fits, IsVerdict}
use Rattle.spf_replay_walk.specs.declared.judging.Judge.{Judge}
use Rattle.spf_replay_walk.specs.declared.judging.Judged.{Judged}

-- the sections of a log as plain data
abbrev pub seen_log : List (Vec logged.Step) → List (List Step)
seen_log log = map seen_steps (sections_of log)

-- what is expected of a construct that was passed: a speculative run from its entry, with its guesses
abbrev pub expected_of : PassedConstruct → Expected
expected_of x = record { entry = x.entry; guess = x.guess }

abbrev pub expected_of_all : List PassedConstruct → List Expected
expected_of_all passed = map expected_of passed

-- the verdict on a section: it is a speculative run from this entry with these guesses, and the next one comes after
-- it; or it isn't, or is missing
abbrev pub IsAfterRun : List (List Step) → ℕ → Entry → (ℕ → Carried) → Option ℕ → Type 0
IsAfterRun log n e guess None = Fits (Some (record { entry = e; guess = guess })) (slice_get log n) → ⊥
IsAfterRun log n e guess (Some next) = (next ≡ n + 1) × Fits (Some (record { entry = e; guess = guess })) (slice_get log n)

-- the verdict on the first sections of a log, one for each construct that was passed; where all are right, the next section comes after them
pub record HasJudged (passed : List PassedConstruct) (log : List (List Step)) (judged : Judged) : Type 0 where
  pub verdict : IsVerdict (expected_of_all passed) (take (length passed) log) judged.verdict
  pub next : judged.verdict ≡ Yes → judged.next ≡ length passed

-- a judge, which began as the first, has judged the sections of its log so far
pub record HasJudgedLog (first : Judge) (passed : List PassedConstruct) (now : Judge) : Type 0 where
  pub same_log : now.log.now ≡ first.log.now
  pub judged : HasJudged passed (seen_log first.log.now) now.judged

-- the verdict on a whole log, where these constructs were passed and no further one is
abbrev pub IsVerdictAfter : List PassedConstruct → List (Vec logged.Step) → Verdict → Type 0
IsVerdictAfter passed log verdict = IsVerdict (expected_of_all passed) (seen_log log) verdict

-- the verdict on the log of a judge, whatever it has judged so far
abbrev pub GivesVerdict : Judge → Verdict → Type 0
GivesVerdict judge verdict = (first : Judge) (passed : List PassedConstruct) → HasJudgedLog first passed judge → IsVerdictAfter passed first.log.now verdict

-- the verdict on a log of a program's run with these hosts
abbrev pub IsVerdictOn : Hosts → Program → List ℕ → List (Vec logged.Step) → Verdict → Type 0
IsVerdictOn hosts p input log verdict = IsVerdict (expected hosts p input) (seen_log log) verdict

-- the verdict on the section of a construct that a run has come to, with these guesses
abbrev pub IsAfterSection : List (Vec logged.Step) → ℕ → EnteredConstruct → (ℕ → Carried) → Option ℕ → Type 0
IsAfterSection log n entered guess next = IsAfterRun (seen_log log) n (entry_of entered) guess next

-- the verdict on the sections of all constructs that were passed became that on these and one more
abbrev pub JudgesNext : List (Vec logged.Step) → EnteredConstruct → (before after : Judged) → Type 0
JudgesNext log entered before after = (passed : List PassedConstruct) (x : PassedConstruct) → HasJudged passed (seen_log log) before
    → x.entry ≡ entry_of entered → HasGuesses entered x.guess → HasJudged (passed ++ x ∷ []) (seen_log log) after

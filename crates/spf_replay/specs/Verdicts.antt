-- The verdict on a log: whether it has one section for each construct that is expected, each a speculative run.
use Rattle.std.specs.Prelude.{◌≡◌, ◌<◌, ◌↔◌, ℕ, List, length, slice_get, Option, Some, None}
use Rattle.spf_ast.specs.Carried.{Carried}
use Rattle.spf_speculation_entry.specs.Entry.{Entry}
use Rattle.spf_speculation.specs.Steps.{Step}
use Rattle.spf_replay.specs.declared.verdict.Verdict.{Verdict}
use Rattle.spf_replay.specs.declared.verdict.Verdict.TheVariants.{Yes, No}
use Rattle.spf_replay.specs.Deciding.{IsRun}

-- a construct of which a section is expected: its entry, and the guesses for its blocks
pub record Expected : Type 0 where
  pub entry : Entry
  pub guess : ℕ → Carried

-- a speculative run stands where one is expected, and nothing where none is
abbrev pub Fits : Option Expected → Option (List Step) → Type 0
Fits None None = Unit {0}
Fits None (Some steps) = ⊥
Fits (Some x) None = ⊥
Fits (Some x) (Some steps) = IsRun x.entry x.guess steps

-- the section at this index is as expected
abbrev pub SectionFits : List Expected → List (List Step) → ℕ → Type 0
SectionFits expected log n = Fits (slice_get expected n) (slice_get log n)

-- each section is as expected; or this one is the first that isn't, be it wrong, missing, or one too many
abbrev pub IsVerdict : List Expected → List (List Step) → Verdict → Type 0
IsVerdict expected log Yes = (n : ℕ) → SectionFits expected log n
IsVerdict expected log (No section) = ((n : ℕ) → n < section → SectionFits expected log n) × (SectionFits expected log section → ⊥)

-- ---- laws

-- a log has one verdict
abbrev pub VerdictsAreOne : Type 0
VerdictsAreOne = (expected : List Expected) (log : List (List Step)) (one other : Verdict) → IsVerdict expected log one → IsVerdict expected log other → one ≡ other

-- a log with the verdict Yes has as many sections as are expected
abbrev pub YesHasEachSection : Type 0
YesHasEachSection = (expected : List Expected) (log : List (List Step)) → IsVerdict expected log Yes → length log ≡ length expected

-- two constructs have the same speculative runs
abbrev pub HaveSameRuns : Option Expected → Option Expected → Type 0
HaveSameRuns one other = (steps : Option (List Step)) → Fits one steps ↔ Fits other steps

-- what is expected matters by its speculative runs alone
abbrev pub VerdictsSeeRuns : Type 0
VerdictsSeeRuns = (one other : List Expected) (log : List (List Step)) (verdict : Verdict) → ((n : ℕ) → HaveSameRuns (slice_get one n) (slice_get other n))
    → IsVerdict one log verdict → IsVerdict other log verdict

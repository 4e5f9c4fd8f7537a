-- The sections that are expected of a program's run: one for each construct with blocks that the plain run reaches.
use Rattle.std.specs.Prelude.{◌≡◌, ℕ, zero, suc, List, [], ◌∷◌, ◌++◌}
use Rattle.std.specs.List.{All}
use Rattle.spf_ast.specs.Syntax.{Program}
use Rattle.spf_ast.specs.Construct.{Construct, constructs_in, Reached, reals}
use Rattle.spf_speculation_entry.specs.Entry.{IsEntry}
use Rattle.spf_guess_statistics.specs.Guess.{Hosts, Telling, tells}
use Rattle.spf_guess_statistics.specs.Statistics.{guess_at}
use Rattle.spf_speculation.specs.Steps.{Step}
use Rattle.spf_replay.specs.declared.verdict.Verdict.TheVariants.{Yes}
use Rattle.spf_replay.specs.Schedule.{IsScheduled}
use Rattle.spf_replay.specs.Verdicts.{Expected, IsVerdict}

-- the first of a list, where there are blocks
abbrev pub with_blocks : ℕ → Expected → List Expected → List Expected
with_blocks zero x later = later
with_blocks (suc blocks) x later = x ∷ later

-- a construct that the plain run reached, after hosts were told these pairs
abbrev pub expected_at : Hosts → List Telling → Program → List ℕ → Construct → Reached → Expected
expected_at hosts telling p input construct r = record {
  entry = record {
    program = p;
    construct = construct;
    input = input;
    slots = r.slots;
    memory = r.memory;
    header = r.header;
  };
  guess = λ n. (guess_at hosts telling p input construct r n).value;
}

-- those of these constructs, as far as the plain run reaches them; before the first of them hosts were told these pairs
abbrev pub expected_from : Hosts → Program → List ℕ → List Construct → List Reached → List Telling → List Expected
expected_from hosts p input (construct ∷ constructs) (r ∷ others) telling =
    with_blocks r.header.blocks (expected_at hosts telling p input construct r)
    (expected_from hosts p input constructs others (telling ++ tells construct r.header r.reals.values))
expected_from hosts p input _ _ telling = []

-- those of a whole run
abbrev pub expected : Hosts → Program → List ℕ → List Expected
expected hosts p input = expected_from hosts p input (constructs_in p.main) (reals p input) []

-- ---- schedules of whole runs

-- these sections are the schedules of these constructs, one after another, from this state of the generator
abbrev pub AreScheduled : List Expected → ℕ → List (List Step) → Type 0
AreScheduled [] state [] = Unit {0}
AreScheduled [] state (steps ∷ log) = ⊥
AreScheduled (x ∷ others) state [] = ⊥
AreScheduled (x ∷ others) state (steps ∷ log) = (last : ℕ) × IsScheduled x.entry x.guess state steps last × AreScheduled others last log

-- the log is the schedule of a program's run
abbrev pub IsSchedule : Hosts → Program → List ℕ → (seed : ℕ) → List (List Step) → Type 0
IsSchedule hosts p input seed log = AreScheduled (expected hosts p input) seed log

-- ---- laws

-- constructs have a schedule from each state
abbrev pub SchedulesOfRunsExist : Type 0
SchedulesOfRunsExist = (constructs : List Expected) (state : ℕ) → (log : List (List Step)) × AreScheduled constructs state log

-- and one only
abbrev pub SchedulesOfRunsAreOne : Type 0
SchedulesOfRunsAreOne = (constructs : List Expected) (state : ℕ) (one other : List (List Step)) → AreScheduled constructs state one → AreScheduled constructs state other → one ≡ other

-- its verdict is Yes
abbrev pub SchedulesOfRunsAreRuns : Type 0
SchedulesOfRunsAreRuns =
    (constructs : List Expected) (state : ℕ) (log : List (List Step)) → All (λ x. IsEntry x.entry) constructs → AreScheduled constructs state log
    → IsVerdict constructs log Yes

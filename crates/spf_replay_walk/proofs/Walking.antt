-- The result of a walk.
use Rattle.std.proofs.Common.{◌≡◌, ◌↔◌, ℕ, zero, suc, List, [], ◌∷◌, ◌++◌, Option, Some, None, refl, sym, ap, ◌∙◌, subst}
use Rattle.std.specs.Prelude.{slice_get}
use Rattle.spf_ast.specs.Syntax.{Program}
use Rattle.spf_ast.specs.Construct.{Construct, constructs_in, Reached, reals}
use Rattle.spf_exec.specs.Pieces.{RunState}
use Rattle.spf_speculation.specs.Steps.{Step}
use Rattle.spf_guess_statistics.specs.Guess.{Hosts, Telling, tells}
use Rattle.spf_guess_statistics.specs.Statistics.{tally}
use Rattle.spf_guess.specs.Answers.{WereTold}
use Rattle.spf_engine_laws.specs.Passed.{PassedConstruct, where_blocks, passed_plainly, all_passed_from, all_passed, OneByOne, PassedAlike}
use Rattle.spf_engine_laws.specs.Progress.{Progress, HasCome}
use Rattle.spf_ast.specs.Program.{Outcome, outcome, Done, Stopped}
use Rattle.spf_guess_statistics.specs.declared.stats.Stats.{Stats}
use Rattle.spf_ast.specs.declared.outcome.Trap.{Trap}
use Rattle.spf_engine.specs.declared.step.Step as taken
use Rattle.spf_engine.specs.declared.step.Step.TheVariants as step
use Rattle.spf_engine.specs.Runs.{IsProgressAfter}
use Rattle.spf_replay.specs.Deciding.{IsRun, RunsLookAlike}
use Rattle.spf_replay.specs.declared.verdict.Verdict.{Verdict}
use Rattle.spf_replay.specs.Verdicts.{Expected, Fits, IsVerdict, HaveSameRuns, VerdictsSeeRuns}
use Rattle.spf_replay.specs.Expecting.{with_blocks, expected_at, expected_from, expected}
use Rattle.std.specs.Global.{Vec}
use Rattle.spf_replay_log.specs.declared.log.Step as logged
use Rattle.spf_replay_walk.specs.declared.judging.Judge.{Judge}
use Rattle.spf_replay_walk.specs.Judging.{seen_log, expected_of, expected_of_all, HasJudgedLog}
use Rattle.spf_replay_walk.specs.Visiting.{Visits, VisitsFrom, VisitsAll}
use Rattle.spf_replay_walk.specs.Walking.{WalksTo}

-- ---- what is expected

-- of what the plain run passes the sections of the program's run are expected
pub expected-is : (hosts : Hosts) (p : Program) (input : List ℕ) (cs : List Construct) (rs : List Reached) (telling : List Telling)
    → expected_of_all (all_passed_from hosts p input cs rs telling) ≡ expected_from hosts p input cs rs telling
expected-is hosts p input [] rs telling = refl
expected-is hosts p input (c ∷ cs) [] telling = refl
expected-is hosts p input (c ∷ cs) (r ∷ rs) telling =
    go r.header.blocks (expected-is hosts p input cs rs (telling ++ tells c r.header r.reals.values))
  where
    later : List PassedConstruct
    later = all_passed_from hosts p input cs rs (telling ++ tells c r.header r.reals.values)

    others : List Expected
    others = expected_from hosts p input cs rs (telling ++ tells c r.header r.reals.values)

    go : (blocks : ℕ) → expected_of_all later ≡ others
        → expected_of_all (where_blocks blocks (passed_plainly hosts telling p input c r) ++ later) ≡ with_blocks blocks (expected_at hosts telling p input c r) others
    go zero same = same
    go (suc blocks) same = ap (λ l. expected_at hosts telling p input c r ∷ l) same

-- constructs that are alike have the same speculative runs
same-run : RunsLookAlike → (one other : PassedConstruct) → PassedAlike one other → (steps : Option (List Step)) → Fits (Some (expected_of one)) steps ↔ Fits (Some (expected_of other)) steps
same-run law one other h None = (λ fits. fits, λ fits. fits)
same-run law one other h (Some steps) =
    subst (λ x. IsRun one.entry one.guess steps ↔ IsRun x.entry x.guess steps) (sym h.rest) (law one.entry other.entry.slots h.stands one.guess steps h.slots)

same-runs : RunsLookAlike → (xs ys : List PassedConstruct) → OneByOne PassedAlike xs ys → (n : ℕ) → HaveSameRuns (slice_get (expected_of_all xs) n) (slice_get (expected_of_all ys) n)
same-runs law [] [] h n = λ steps. (λ fits. fits, λ fits. fits)
same-runs law [] (y ∷ ys) h n = elim h [ ]
same-runs law (x ∷ xs) [] h n = elim h [ ]
same-runs law (x ∷ xs) (y ∷ ys) h zero = same-run law x y h.0
same-runs law (x ∷ xs) (y ∷ ys) h (suc n) = same-runs law xs ys h.1 n

-- the verdict over what a whole run passed is the verdict over what is expected
pub whole-verdict : VerdictsSeeRuns → RunsLookAlike → (hosts : Hosts) (p : Program) (input : List ℕ) (passed : List PassedConstruct) (log : List (List Step)) (v : Verdict)
    → OneByOne PassedAlike passed (all_passed hosts p input) → IsVerdict (expected_of_all passed) log v → IsVerdict (expected hosts p input) log v
whole-verdict see law hosts p input passed log v alike h =
    subst (λ xs. IsVerdict xs log v) (expected-is hosts p input (constructs_in p.main) (reals p input) [])
    (see (expected_of_all passed) (expected_of_all (all_passed hosts p input)) log v (same-runs law passed (all_passed hosts p input) alike) h)

-- ---- the end of a walk

-- it ends so: with the program's outcome and statistics, all constructs were visited, and hosts were told all
pub record HasWalked {V : Type 0} (has_visited : Visits V) (first last : V) (hosts : Hosts) (p : Program) (input : List ℕ) (o : Outcome) (stats : Stats) (now : Hosts) : Type 0 where
  pub outcome_is : o ≡ outcome p input
  pub stats_are : stats ≡ (tally hosts p input).stats
  pub visits : VisitsAll has_visited first last hosts p input
  pub told : WereTold hosts (tally hosts p input).telling now

has-walked : {V : Type 0} (has_visited : Visits V) (first last : V) (hosts : Hosts) (p : Program) (input : List ℕ) (o : Outcome) (stats : Stats) (now : Hosts) (later : Progress)
    → VisitsFrom has_visited [] first later.passed last → stats ≡ later.stats → WereTold hosts later.telling now → HasCome hosts p input o later
    → HasWalked has_visited first last hosts p input o stats now
has-walked has_visited first last hosts p input o stats now later visited stats_are told come = record {
  outcome_is = come.outcome_is;
  stats_are = stats_are ∙ come.whole.stats_are;
  visits = record { passed = later.passed; alike = come.whole.passed_are; visited = visited };
  told = subst (λ telling. WereTold hosts telling now) come.whole.telling_is told;
}

pub walk-finishes : {V : Type 0} (has_visited : Visits V) (first mid last : V) (hosts : Hosts) (p : Program) (input : List ℕ) (passed : List PassedConstruct) (t : taken.Step) (s : RunState) (stats : Stats) (now : Hosts)
    → VisitsFrom has_visited [] first passed mid → WalksTo has_visited hosts p input passed mid t s last stats now → t ≡ step.Finished
    → HasWalked has_visited first last hosts p input (Done s.cells s.output) stats now
walk-finishes has_visited first mid last hosts p input passed t s stats now visited to is =
    has-walked has_visited first last hosts p input (Done s.cells s.output) stats now to.later (λ x h. to.visited x (visited x h)) to.stats_are to.told
    (subst (λ x. IsProgressAfter hosts p input x s to.later) is to.there)

pub walk-traps : {V : Type 0} (has_visited : Visits V) (first mid last : V) (hosts : Hosts) (p : Program) (input : List ℕ) (passed : List PassedConstruct) (t : taken.Step) (trap : Trap) (s : RunState) (stats : Stats) (now : Hosts)
    → VisitsFrom has_visited [] first passed mid → WalksTo has_visited hosts p input passed mid t s last stats now → t ≡ step.Trapped trap
    → HasWalked has_visited first last hosts p input (Stopped trap s.output) stats now
walk-traps has_visited first mid last hosts p input passed t trap s stats now visited to is =
    has-walked has_visited first last hosts p input (Stopped trap s.output) stats now to.later (λ x h. to.visited x (visited x h)) to.stats_are to.told
    (subst (λ x. IsProgressAfter hosts p input x s to.later) is to.there)

-- ---- the verdict on a log

pub log-verdict : VerdictsSeeRuns → RunsLookAlike → (hosts : Hosts) (p : Program) (input : List ℕ) (log : List (Vec logged.Step)) (first last : Judge) (v : Verdict) → first.log.now ≡ log
    → HasJudgedLog first [] first → VisitsAll HasJudgedLog first last hosts p input
    → ((one : Judge) (passed : List PassedConstruct) → HasJudgedLog one passed last → IsVerdict (expected_of_all passed) (seen_log one.log.now) v) → IsVerdict (expected hosts p input) (seen_log log) v
log-verdict see law hosts p input log first last v is begun visits judged =
    subst (λ l. IsVerdict (expected hosts p input) (seen_log l) v) is
    (whole-verdict see law hosts p input visits.passed (seen_log first.log.now) v visits.alike (judged first visits.passed (visits.visited first begun)))

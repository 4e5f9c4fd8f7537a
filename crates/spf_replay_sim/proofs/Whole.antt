-- Schedules of whole runs.
use Rattle.std.proofs.Common.{◌≡◌, ℕ, Bool, true, false, List, [], ◌∷◌, ℤ, sym, subst}
use Rattle.spf_ast.specs.Syntax.{Program}
use Rattle.spf_ast.specs.Construct.{constructs_in, reals}
use Rattle.spf_speculation.specs.Alike.{SlotsLookAlike}
use Rattle.spf_speculation.specs.Steps.{Step}
use Rattle.spf_guess_statistics.specs.Guess.{Hosts}
use Rattle.spf_engine_laws.specs.Passed.{PassedConstruct, all_passed, OneByOne, PassedAlike}
use Rattle.spf_replay.specs.Deciding.{RunsLookAlike}
use Rattle.spf_replay.specs.Schedule.{IsScheduled}
use Rattle.spf_replay.specs.declared.verdict.Verdict.TheVariants.{Yes}
use Rattle.spf_replay.specs.Verdicts.{VerdictsSeeRuns}
use Rattle.spf_replay.specs.Expecting.{expected, AreScheduled}
use Rattle.spf_replay_walk.specs.Judging.{seen_log, expected_of_all}
use Rattle.spf_replay_walk.specs.Visiting.{VisitsAll}
use Rattle.spf_replay_walk.proofs.Walking.{expected-is, whole-verdict}
use Rattle.spf_replay_sim.specs.declared.drawn.Drawn.{Drawn}
use Rattle.spf_replay_sim.specs.Drawing.{SchedulesSeeVisibleSlots, HasDrawn, AreDrawnSo, IsDrawnWholeSo, HasDrawnWhole}
use Rattle.spf_replay_sim.proofs.Sections.{are-scheduled}

other-way : (visible : List ℕ) (one other : List ℤ) → SlotsLookAlike visible one other → SlotsLookAlike visible other one
other-way visible one other h = record {
  agree = record { slots = λ slot c. sym (h.agree.slots slot c); output = sym h.agree.output };
  slot_count = sym h.slot_count;
}

-- constructs that are alike have the same schedules
there : SchedulesSeeVisibleSlots → (one other : PassedConstruct) → PassedAlike one other → (state last : ℕ) (steps : List Step)
    → IsScheduled one.entry one.guess state steps last → IsScheduled other.entry other.guess state steps last
there law one other h state last steps is =
    subst (λ (x : PassedConstruct). IsScheduled x.entry x.guess state steps last) (sym h.rest) (law one.entry other.entry.slots h.stands one.guess state last steps h.slots is)

back : SchedulesSeeVisibleSlots → (one other : PassedConstruct) → PassedAlike one other → (state last : ℕ) (steps : List Step)
    → IsScheduled other.entry other.guess state steps last → IsScheduled one.entry one.guess state steps last
back law one other h state last steps is =
    law (record one.entry { slots = other.entry.slots }) one.entry.slots h.stands one.guess state last steps (other-way h.stands.scope.visible one.entry.slots other.entry.slots h.slots)
    (subst (λ (x : PassedConstruct). IsScheduled x.entry x.guess state steps last) h.rest is)

all-there : SchedulesSeeVisibleSlots → (xs ys : List PassedConstruct) → OneByOne PassedAlike xs ys → (state : ℕ) (log : List (List Step))
    → AreScheduled (expected_of_all xs) state log → AreScheduled (expected_of_all ys) state log
all-there law [] [] h state log is = is
all-there law [] (y ∷ ys) h state log is = elim h [ ]
all-there law (x ∷ xs) [] h state log is = elim h [ ]
all-there law (x ∷ xs) (y ∷ ys) h state [] is = is
all-there law (x ∷ xs) (y ∷ ys) h state (steps ∷ log) is = (is.0, there law x y h.0 state is.0 steps is.1, all-there law xs ys h.1 is.0 log is.2)

all-back : SchedulesSeeVisibleSlots → (xs ys : List PassedConstruct) → OneByOne PassedAlike xs ys → (state : ℕ) (log : List (List Step))
    → AreScheduled (expected_of_all ys) state log → AreScheduled (expected_of_all xs) state log
all-back law [] [] h state log is = is
all-back law [] (y ∷ ys) h state log is = elim h [ ]
all-back law (x ∷ xs) [] h state log is = elim h [ ]
all-back law (x ∷ xs) (y ∷ ys) h state [] is = is
all-back law (x ∷ xs) (y ∷ ys) h state (steps ∷ log) is = (is.0, back law x y h.0 state is.0 steps is.1, all-back law xs ys h.1 is.0 log is.2)

-- what was drawn for what a whole run passed is the schedule of the program's run
pub drawn-whole : SchedulesSeeVisibleSlots → VerdictsSeeRuns → RunsLookAlike → (seed : ℕ) (hosts : Hosts) (p : Program) (input : List ℕ) (passed : List PassedConstruct) (drawn : Drawn)
    → OneByOne PassedAlike passed (all_passed hosts p input) → HasDrawn seed passed drawn → HasDrawnWhole seed hosts p input drawn
drawn-whole law see look seed hosts p input passed drawn alike = go drawn.over
  where
    same : expected_of_all (all_passed hosts p input) ≡ expected hosts p input
    same = expected-is hosts p input (constructs_in p.main) (reals p input) []

    go : (over : Bool) → AreDrawnSo over seed passed drawn → IsDrawnWholeSo over seed hosts p input drawn
    go false h = record {
      log = subst (λ xs. AreScheduled xs seed (seen_log drawn.log.items)) same
          (all-there law passed (all_passed hosts p input) alike seed (seen_log drawn.log.items)
          (are-scheduled (expected_of_all passed) seed drawn.state (seen_log drawn.log.items) h.scheduled));
      right = whole-verdict see look hosts p input passed (seen_log drawn.log.items) Yes alike h.runs;
      counted = h.counted;
      blocks = h.blocks;
    }
    go true h = λ log is. h log (all-back law passed (all_passed hosts p input) alike seed log (subst (λ xs. AreScheduled xs seed log) (sym same) is))

-- so it is after a walk, from a seed on
pub drawn-whole-from : SchedulesSeeVisibleSlots → VerdictsSeeRuns → RunsLookAlike → (seed : ℕ) (hosts : Hosts) (p : Program) (input : List ℕ) (first last : Drawn) → first.state ≡ seed → HasDrawn seed [] first
    → VisitsAll (λ first passed now. HasDrawn first.state passed now) first last hosts p input → HasDrawnWhole seed hosts p input last
drawn-whole-from law see look seed hosts p input first last from none visits =
    drawn-whole law see look seed hosts p input visits.passed last visits.alike
    (subst (λ s. HasDrawn s visits.passed last) from (visits.visited first (subst (λ s. HasDrawn s [] first) (sym from) none)))

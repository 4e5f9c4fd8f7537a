-- Schedules of the constructs that a run has passed, one after another.
use Rattle.std.specs.Prelude.{◌≡◌, ◌<◌, ◌+◌, ℕ, List, [], ◌∷◌, length, Bool, true, false, ℤ}
use Rattle.std.specs.List.{All}
use Rattle.spf_ast.specs.Carried.{Carried}
use Rattle.spf_ast.specs.Syntax.{Program}
use Rattle.spf_speculation.specs.Steps.{Step}
use Rattle.spf_speculation_entry.specs.Entry.{Entry}
use Rattle.spf_ast_laws.specs.Keeping.{StandsInMain}
use Rattle.spf_speculation.specs.Alike.{SlotsLookAlike, with_slots}
use Rattle.spf_guess_statistics.specs.Guess.{Hosts}
use Rattle.spf_engine_laws.specs.Passed.{PassedConstruct}
use Rattle.spf_replay_log.specs.declared.log.Step as logged
use Rattle.spf_replay_log.specs.Log.{max_blocks, sections_of}
use Rattle.spf_replay.specs.Limits.{max_steps}
use Rattle.spf_replay.specs.Schedule.{IsScheduled}
use Rattle.spf_replay.specs.declared.verdict.Verdict.TheVariants.{Yes}
use Rattle.spf_replay.specs.Verdicts.{Expected, SectionFits, IsVerdict}
use Rattle.spf_replay.specs.Expecting.{AreScheduled, IsSchedule, expected}
use Rattle.spf_replay_walk.specs.Judging.{seen_log, expected_of_all}
use Rattle.spf_replay_sim.specs.declared.drawn.Drawn.{Drawn}

-- how many steps the sections of a log have together
abbrev pub step_count : List (List Step) → ℕ
step_count [] = 0
step_count (steps ∷ log) = length steps + step_count log

-- a log can hold the blocks of these sections
abbrev pub AreOfFewBlocks : List (List logged.Step) → Type 0
AreOfFewBlocks sections = All (λ section. All (λ s. s.block < max_blocks) section) sections

-- these sections are the schedules of these constructs, one after another, from this state of the generator to the last one
abbrev pub AreScheduledTo : List Expected → (state : ℕ) → List (List Step) → (last : ℕ) → Type 0
AreScheduledTo [] state [] last = state ≡ last
AreScheduledTo (x ∷ others) state (steps ∷ log) last = (next : ℕ) × IsScheduled x.entry x.guess state steps next × AreScheduledTo others next log last
AreScheduledTo _ state _ last = ⊥

-- the sections that were drawn from a seed for the constructs that were passed: each is a speculative run, and
-- `counted` is the number of their steps
pub record AreDrawn (seed : ℕ) (passed : List PassedConstruct) (drawn : Drawn) : Type 0 where
  pub scheduled : AreScheduledTo (expected_of_all passed) seed (seen_log drawn.log.items) drawn.state
  pub runs : (n : ℕ) → SectionFits (expected_of_all passed) (seen_log drawn.log.items) n
  pub counted : drawn.counted ≡ step_count (seen_log drawn.log.items)
  pub blocks : AreOfFewBlocks (sections_of drawn.log.items)

-- the schedules of these constructs have too many steps
abbrev pub AreTooLong : ℕ → List PassedConstruct → Type 0
AreTooLong seed passed = (log : List (List Step)) → AreScheduled (expected_of_all passed) seed log → max_steps < step_count log

-- they are drawn, or they have too many steps
abbrev pub AreDrawnSo : Bool → ℕ → List PassedConstruct → Drawn → Type 0
AreDrawnSo false seed passed drawn = AreDrawn seed passed drawn
AreDrawnSo true seed passed drawn = AreTooLong seed passed

abbrev pub HasDrawn : ℕ → List PassedConstruct → Drawn → Type 0
HasDrawn seed passed drawn = AreDrawnSo drawn.over seed passed drawn

-- ---- whole runs

-- the schedule of a program's run from this seed has too many steps
abbrev pub HasTooManySteps : Hosts → Program → List ℕ → (seed : ℕ) → Type 0
HasTooManySteps hosts p input seed = (log : List (List Step)) → IsSchedule hosts p input seed log → max_steps < step_count log

-- what was drawn is the schedule of a program's run, whose verdict is Yes
pub record IsDrawnWhole (seed : ℕ) (hosts : Hosts) (p : Program) (input : List ℕ) (drawn : Drawn) : Type 0 where
  pub log : IsSchedule hosts p input seed (seen_log drawn.log.items)
  pub right : IsVerdict (expected hosts p input) (seen_log drawn.log.items) Yes
  pub counted : drawn.counted ≡ step_count (seen_log drawn.log.items)
  pub blocks : AreOfFewBlocks (sections_of drawn.log.items)

-- so it is, unless the schedule has too many steps
abbrev pub IsDrawnWholeSo : Bool → ℕ → Hosts → Program → List ℕ → Drawn → Type 0
IsDrawnWholeSo false seed hosts p input drawn = IsDrawnWhole seed hosts p input drawn
IsDrawnWholeSo true seed hosts p input drawn = HasTooManySteps hosts p input seed

abbrev pub HasDrawnWhole : ℕ → Hosts → Program → List ℕ → Drawn → Type 0
HasDrawnWhole seed hosts p input drawn = IsDrawnWholeSo drawn.over seed hosts p input drawn

-- ---- the law

-- a schedule is also one from other slots that agree on those that are visible at the construct
abbrev pub SchedulesSeeVisibleSlots : Type 0
SchedulesSeeVisibleSlots =
    (e : Entry) (slots : List ℤ) (stands : StandsInMain e.program e.construct) (guess : ℕ → Carried) (state last : ℕ) (steps : List Step)
    → SlotsLookAlike stands.scope.visible e.slots slots → IsScheduled e guess state steps last → IsScheduled (with_slots e slots) guess state steps last

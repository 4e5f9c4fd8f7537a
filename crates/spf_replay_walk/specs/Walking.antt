-- Runs whose blocks are run plainly, and are handed to a visitor.
use Rattle.std.specs.Prelude.{◌≡◌, ℕ, List}
use Rattle.spf_ast.specs.Syntax.{Program}
use Rattle.spf_ast.specs.Construct.{Construct, Header}
use Rattle.spf_exec.specs.Pieces.{RunState}
use Rattle.spf_exec_instance.specs.Instance.{InstanceValue, program_of}
use Rattle.spf_guess_statistics.specs.declared.stats.Stats.{Stats}
use Rattle.spf_guess_statistics.specs.Guess.{Hosts}
use Rattle.spf_guess.specs.Answers.{WereTold}
use Rattle.spf_engine_laws.specs.Passed.{PassedConstruct}
use Rattle.spf_engine_laws.specs.Progress.{Progress, GoesOn, HasEntered}
use Rattle.spf_engine.specs.declared.step.Step as taken
use Rattle.spf_engine.specs.Runs.{IsProgressAfter}
use Rattle.spf_replay_walk.specs.Visiting.{Visits, VisitsFrom}

-- A step led to a further progress of the run: a visitor that took the constructs that were passed before it took those
-- that were passed in it, too; these are the statistics, and hosts were told these pairs.
pub record WalksTo {V : Type 0} (has_visited : Visits V) (hosts : Hosts) (p : Program) (input : List ℕ) (passed : List PassedConstruct) (visitor : V)
    (step : taken.Step) (s : RunState) (after : V) (stats : Stats) (now : Hosts) : Type 0 where
  pub later : Progress
  pub visited : VisitsFrom has_visited passed visitor later.passed after
  pub stats_are : stats ≡ later.stats
  pub told : WereTold hosts later.telling now
  pub there : IsProgressAfter hosts p input step s later

-- ---- what the calls of a walk promise, whatever hosts were told by then

-- a run that goes on takes a step from where it stands
abbrev pub Walks : {V : Type 0} → Visits V → InstanceValue → RunState → V → Stats → Hosts → taken.Step → RunState → V → Stats → Hosts → Type 0
Walks {V} has_visited i s visitor stats then step last after counted now =
    (before : Hosts) (progress : Progress) → stats ≡ progress.stats → WereTold before progress.telling then
    → GoesOn before (program_of i) i.input s progress
    → WalksTo has_visited before (program_of i) i.input progress.passed visitor step last after counted now

-- it takes the step from where it has entered a construct
abbrev pub WalksPast : {V : Type 0} → Visits V → InstanceValue → RunState → V → Stats → Hosts → Construct → Header → taken.Step → RunState → V → Stats → Hosts → Type 0
WalksPast {V} has_visited i s visitor stats then construct header step last after counted now =
    (before : Hosts) (progress : Progress) → stats ≡ progress.stats → WereTold before progress.telling then
    → HasEntered before (program_of i) i.input construct header s progress
    → WalksTo has_visited before (program_of i) i.input progress.passed visitor step last after counted now

-- Steps of a walk with the hosts that are handed in as boxes.
use Rattle.std.specs.Prelude.{List}
use Rattle.spf_ast.specs.ConstructView.{construct as seen_construct}
use Rattle.spf_exec.specs.Pieces.{RunState, seen_header}
use Rattle.spf_exec_instance.specs.Instance.{InstanceValue}
use Rattle.spf_guess_statistics.specs.declared.stats.Stats.{Stats}
use Rattle.spf_guess.specs.Answers.{Answers, supplied}
use Rattle.spf_engine.specs.declared.step.Step as taken
use Rattle.spf_replay_walk.specs.Visiting.{Visits}
use Rattle.spf_replay_walk.specs.Walking.{Walks, WalksPast}
use Rattle.spf_replay_walk.specs.declared.walker.Site.{Site}

-- a walk took a step from where it stood; run, visitor, statistics and hosts before it and after it
abbrev pub TakesStep : {V Box : Type 0} → Visits V → (Box → Answers) → InstanceValue → RunState → V → Stats → List Box → taken.Step → RunState → V → Stats → List Box → Type 0
TakesStep has_visited answer i s visitor stats before step last later counted after =
    Walks has_visited i s visitor stats (supplied answer before) step last later counted (supplied answer after)

-- it took the step from the blocks of a construct
abbrev pub TakesStepAt : {V Box : Type 0} → Visits V → (Box → Answers) → InstanceValue → Site → RunState → V → Stats → List Box → taken.Step → RunState → V → Stats → List Box → Type 0
TakesStepAt has_visited answer i site s visitor stats before step last later counted after =
    WalksPast has_visited i s visitor stats (supplied answer before) (seen_construct site.construct) (seen_header site.header) step last later counted (supplied answer after)

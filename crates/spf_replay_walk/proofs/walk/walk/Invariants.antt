use Rattle.std.proofs.Common.{◌≡◌, [], length, map}
use Rattle.spf_ast.specs.Pieces.{statement_count}
use Rattle.spf_exec_instance.specs.Instance.{program_of}
use Rattle.spf_exec.specs.Pieces.{IsStateOf, ahead}
use Rattle.spf_guess.specs.Answers.{handed_in, WereTold}
use Rattle.spf_engine_laws.specs.Progress.{Progress, GoesOn}
use Rattle.spf_engine.specs.Runs.{CountsAreBounded}
use Rattle.spf_replay_walk.specs.Positions.{IsSpare}
use Rattle.spf_replay_walk.specs.Visiting.{VisitsFrom}
use Rattle.spf_replay_walk.proofs.walk.walk.Given as goal

-- the run goes on, with progress whose constructs the visitor took, whose statistics were counted, and of which hosts were told
abbrev pub invariant-loop-spare : goal.invariant-loop-spare
invariant-loop-spare g l = record {
  run : IsStateOf (program_of l.fn.instance) (length l.fn.instance.input) l.run;
  spare : IsSpare l.fn.instance l.spare;
  count : length l.hosts.items ≡ length l.initial.hosts.items;
  progress : Progress;
  visited : VisitsFrom g.V.Visitor.has_visited [] l.initial.visitor progress.passed l.visitor;
  stats_are : l.stats ≡ progress.stats;
  told : WereTold (handed_in (map (λ h. (goal.Predictor-dyn g (h.vtable, h.value)).answer h.value) l.initial.hosts.items)) progress.telling (handed_in (map (λ h. (goal.Predictor-dyn g (h.vtable, h.value)).answer h.value) l.hosts.items));
  goes : GoesOn (handed_in (map (λ h. (goal.Predictor-dyn g (h.vtable, h.value)).answer h.value) l.initial.hosts.items)) (program_of l.fn.instance) l.fn.instance.input l.run progress;
  few : CountsAreBounded (program_of l.fn.instance) l.run l.stats;
}

abbrev pub decreases-loop-spare : goal.decreases-loop-spare
decreases-loop-spare g l = statement_count (ahead (program_of l.fn.instance) l.run)

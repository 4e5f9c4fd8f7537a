use Rattle.std.proofs.Common.{◌≡◌, length, map}
use Rattle.spf_ast.specs.Pieces.{statement_count}
use Rattle.spf_exec_instance.specs.Instance.{program_of}
use Rattle.spf_exec.specs.Pieces.{IsStateOf, ahead}
use Rattle.spf_guess.specs.Answers.{handed_in, WereTold}
use Rattle.spf_engine_laws.specs.Progress.{Progress, GoesOn}
use Rattle.spf_engine.specs.Runs.{CountsAreBounded}
use Rattle.spf_engine.specs.Accounts.{AgreesWith}
use Rattle.spf_engine.proofs.run.run_instance.Given as goal

-- the run goes on, with progress that the account and what hosts were told agree with
abbrev pub invariant-loop-account : goal.invariant-loop-account
invariant-loop-account g l = record {
  run : IsStateOf (program_of l.fn.instance) (length l.fn.instance.input) l.run;
  count : length l.hosts.items ≡ length l.initial.hosts.items;
  progress : Progress;
  agrees : AgreesWith progress l.account;
  told : WereTold (handed_in (map (λ h. (goal.Predictor-dyn g (h.vtable, h.value)).answer h.value) l.initial.hosts.items)) progress.telling (handed_in (map (λ h. (goal.Predictor-dyn g (h.vtable, h.value)).answer h.value) l.hosts.items));
  goes : GoesOn (handed_in (map (λ h. (goal.Predictor-dyn g (h.vtable, h.value)).answer h.value) l.initial.hosts.items)) (program_of l.fn.instance) l.fn.instance.input l.run progress;
  few : CountsAreBounded (program_of l.fn.instance) l.run l.account.stats;
}

abbrev pub decreases-loop-account : goal.decreases-loop-account
decreases-loop-account g l = statement_count (ahead (program_of l.fn.instance) l.run)

use Rattle.spf_speculation.proofs.Slots.{attempts-go-alike, logs-come-too}
use Rattle.spf_speculation.proofs.SameGuesses.{logs-come}
use Rattle.spf_ast_laws.specs.Agreement.{LookAlike}
use Rattle.spf_speculation.specs.Steps.{log_of}
use Rattle.spf_speculation.proofs.laws.speculative_runs_see_visible_slots_alone.Goals as goal

pub returns : goal.returns
returns c = record {
  slots = λ e slots stands guess steps values result alike run. record {
    below = run.below;
    consistent = run.consistent;
    logs = logs-come-too e slots (LookAlike stands.scope.visible) (attempts-go-alike c.each_form_sees_visible_slots_alone.ensures.parts e slots stands alike) guess (λ n. log_of n steps) run.logs;
  };
  guesses = λ e guess other steps values result same run. record {
    below = run.below;
    consistent = run.consistent;
    logs = logs-come e guess other same (λ n. log_of n steps) run.logs;
  };
}

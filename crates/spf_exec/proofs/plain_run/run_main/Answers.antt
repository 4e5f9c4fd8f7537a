use Rattle.spf_exec_memory.specs.declared.plain.Plain.{Plain}
use Rattle.spf_exec_memory.proofs.Outcome.{plain_outcome}
use Rattle.spf_exec.proofs.plain_run.run_main.Goals as goal

pub returns-clause-outcome : goal.returns-clause-outcome
returns-clause-outcome c = plain_outcome (λ (m : Plain). m.cells.items) _ _ _ _ _ _ c.perform_statements.ensures.performs

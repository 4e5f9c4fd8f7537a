use Rattle.spf_speculation.proofs.Chain.{logs-plain}
use Rattle.spf_speculation.proofs.Answered.{plain-answered}
use Rattle.spf_speculation.proofs.Runs.{run-plain}
use Rattle.spf_speculation.proofs.Statements.{run-statement}
use Rattle.spf_speculation.proofs.laws.speculative_runs_mean_the_plain_run.Goals as goal

pub returns-clause-runs : goal.returns-clause-runs
returns-clause-runs c e guess steps values result h run =
    run-plain (record { runs = c.each_form_has_one_plain_run.ensures.parts; overwrite = c.blocks_overwrite.ensures }) e guess steps values result h run

pub returns-clause-logs : goal.returns-clause-logs
returns-clause-logs c e guess logs values result h come is =
    logs-plain (record { runs = c.each_form_has_one_plain_run.ensures.parts; overwrite = c.blocks_overwrite.ensures }) e guess logs values result h come is

pub returns-clause-answers : goal.returns-clause-answers
returns-clause-answers c e h = plain-answered (record { runs = c.each_form_has_one_plain_run.ensures.parts; overwrite = c.blocks_overwrite.ensures }) e h

pub returns-clause-statements : goal.returns-clause-statements
returns-clause-statements c e guess steps values result scope line s m left entry h there run =
    run-statement (record { runs = c.each_form_has_one_plain_run.ensures.parts; overwrite = c.blocks_overwrite.ensures }) c.each_construct_is_its_block_runs.ensures.constructs
    e guess steps values result scope line s m left entry h there run

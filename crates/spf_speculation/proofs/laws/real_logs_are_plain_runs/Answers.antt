use Rattle.spf_speculation.proofs.Blocks.{real-plain, attempt-answers, plain-answers}
use Rattle.spf_speculation.proofs.Chain.{continues}
use Rattle.spf_speculation.proofs.laws.real_logs_are_plain_runs.Goals as goal

pub returns-clause-blocks : goal.returns-clause-blocks
returns-clause-blocks c e guess n v log answer memory h real is begin =
    real-plain (record { runs = c.each_form_has_one_plain_run.ensures.parts; overwrite = c.blocks_overwrite.ensures }) e guess n v log answer memory h real is begin

pub returns-clause-attempts : goal.returns-clause-attempts
returns-clause-attempts c e n v attempt before log answer h first w is =
    attempt-answers (record { runs = c.each_form_has_one_plain_run.ensures.parts; overwrite = c.blocks_overwrite.ensures }) e n v attempt before log answer h first w is

pub returns-clause-plain : goal.returns-clause-plain
returns-clause-plain c e n v memory h begin =
    plain-answers (record { runs = c.each_form_has_one_plain_run.ensures.parts; overwrite = c.blocks_overwrite.ensures }) e n v memory h begin

pub returns-clause-on : goal.returns-clause-on
returns-clause-on c e guess logs n v answer memory h low first real is left =
    continues (record { runs = c.each_form_has_one_plain_run.ensures.parts; overwrite = c.blocks_overwrite.ensures }) e guess logs n v answer memory h low first real is left

use Rattle.spf_speculation.proofs.Joined.{joined-merges}
use Rattle.spf_speculation.proofs.Existing.{run-exists}
use Rattle.spf_speculation.proofs.laws.speculative_runs_exist.Goals as goal

pub returns-clause-joined : goal.returns-clause-joined
returns-clause-joined c count logs = joined-merges count logs

pub returns-clause-runs : goal.returns-clause-runs
returns-clause-runs c e guess h =
    run-exists (record { runs = c.each_form_has_one_plain_run.ensures.parts; overwrite = c.blocks_overwrite.ensures }) e guess h

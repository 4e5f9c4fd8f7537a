use Rattle.std.proofs.Common.{◌∙◌, length}
use Rattle.std.proofs.lemmas.Result.{err_from_is_err_and}
use Rattle.spf_ast.specs.View.{program as seen_program}
use Rattle.spf_ast.specs.Program.{seen_outcome, cell_count_of, max_cells}
use Rattle.spf_batch.proofs.Ones.{fits, stopped-fetch, stopped-run, stopped-short, all-first, has-run, stopped-put}
use Rattle.spf_batch.proofs.one.Batch.run_file.Goals as goal

pub returns-in_err-input-clause-stopped : goal.returns-in_err-input-clause-stopped
returns-in_err-input-clause-stopped g c =
    let q = err_from_is_err_and c.from_residual.result c.from_residual.ensures.1 in
    rw (q.1, q.2) (stopped-fetch (seen_program c.args.self.now.checked.now) c.args.name.now c.args.place _ _ _ _ c.in_err-input.field-0.0 c.in_err-input.ensures.left)

pub returns-in-Err-clause-stopped : goal.returns-in-Err-clause-stopped
returns-in-Err-clause-stopped g c =
    stopped-run (seen_program c.args.self.now.checked.now) c.args.name.now c.in_ok-input.input.items c.deref.result.now c.args.place _ _ _ _ _ _ c.in-Err.error c.not_run.result
    c.in_ok-input.ensures.content c.deref.ensures.value c.requires.hosts c.in-Err.ensures.not_run c.in-Err.ensures.told_first c.not_run.ensures

pub returns-in-Err-answer-clause-stopped : goal.returns-in-Err-answer-clause-stopped
returns-in-Err-answer-clause-stopped g c =
    stopped-short (seen_program c.args.self.now.checked.now) c.args.name.now c.in_ok-input.input.items c.deref.result.now c.args.place _ _ _ _ _
    c.in_ok-input.ensures.content c.deref.ensures.value (all-first _ _ (seen_program c.args.self.now.checked.now) c.deref.result.now c.in-Ok.ensures.told)

pub returns-in-Ok-put_answer-clause-ran : goal.returns-in-Ok-put_answer-clause-ran
returns-in-Ok-put_answer-clause-ran g c =
    let p = seen_program c.args.self.now.checked.now in
    let few = fits (cell_count_of p (length c.deref.result.now)) (max_cells p) c.in-Ok.ensures.too_many in
    has-run p c.args.name.now c.in_ok-input.input.items c.deref.result.now c.deref-2.result.now (seen_outcome c.in-Ok.report.outcome) _ _ _ _ _ _
    c.in_ok-input.ensures.content c.deref.ensures.value few c.in-Ok.ensures.told (c.deref-2.ensures.value ∙ c.in-Ok-answer.ensures) c.in-Ok.ensures.outcome
    c.in-Ok.report.stats c.in-Ok.ensures.statistics c.in-Ok-put_answer.ensures.whole

pub returns-clause-stopped : goal.returns-clause-stopped
returns-clause-stopped g c =
    let p = seen_program c.args.self.now.checked.now in
    let few = fits (cell_count_of p (length c.deref.result.now)) (max_cells p) c.in-Ok.ensures.too_many in
    stopped-put p c.args.name.now c.in_ok-input.input.items c.deref.result.now c.deref-2.result.now (seen_outcome c.in-Ok.report.outcome) _ _ _ _ _ _
    c.in_ok-input.ensures.content c.deref.ensures.value few c.in-Ok.ensures.told (c.deref-2.ensures.value ∙ c.in-Ok-answer.ensures) c.in-Ok.ensures.outcome
    c.args.place c.in-Err-put_answer.error c.in-Err-put_answer.ensures.failed c.put_answer.ensures.part

use Rattle.std.proofs.Common.{subst}
use Rattle.std.proofs.lemmas.Result.{err_from_is_err_and}
use Rattle.spf_ast.specs.View.{program}
use Rattle.spf_cli_words.specs.Asked.{seen_options}
use Rattle.spf_cli_words.specs.Only.{IsOnly}
use Rattle.spf_cli_answers.specs.Answering.{AnswersWith}
use Rattle.spf_cli_answers.specs.Course.{Ends}
use Rattle.spf_batch.specs.Batch.{max_input}
use Rattle.spf_cli_answers.specs.Whole.{Runs}
use Rattle.spf_cli_answers.proofs.Steps.{answers_fetch, fetch_left, answers_end}
use Rattle.spf_cli_answers.proofs.answer.run_plainly_on.Goals as goal

pub returns-in_err-content : goal.returns-in_err-content
returns-in_err-content g c given =
    let q = err_from_is_err_and c.from_residual.result c.from_residual.ensures.1 in
    rw (q.1, q.2) (fetch_left c.args.input.now max_input (λ content. Ends (Runs (seen_options c.args.options) given (program c.args.program.now) content)) _ _ _ c.in_err-content.ensures.left)

pub returns : goal.returns
returns g c given =
    let old = g.F.Files.state c.args.files.now in
    let new = g.F.Files.state c.fetch.new.files in
    let options = seen_options c.args.options in
    let p = program c.args.program.now in
    let content = c.in_ok-content.content.items in
    let said = subst (λ x. AnswersWith (IsOnly (Runs options given p x)) c.run_plainly.result) c.deref.ensures.value (c.run_plainly.ensures given) in
    answers_fetch c.args.input.now max_input (λ x. Ends (Runs options given p x)) content old new new c.run_plainly.result c.in_ok-content.ensures.content
    (answers_end (Runs options given p content) new c.run_plainly.result said)

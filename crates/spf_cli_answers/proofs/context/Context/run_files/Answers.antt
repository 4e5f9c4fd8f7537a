use Rattle.std.specs.Prelude.{Err}
use Rattle.std.proofs.Common.{map}
use Rattle.std.proofs.lemmas.Result.{err_from_is_err_and}
use Rattle.spf_ast.specs.Syntax.{Program}
use Rattle.spf_ast.specs.View.{program}
use Rattle.spf_cli_words.specs.Asked.{seen_options}
use Rattle.spf_cli_answers.specs.Whole.{handed, Read, Allowed, RunsOn, max_program}
use Rattle.spf_cli_answers.proofs.Steps.{answers_fetch, fetch_left, answers_read, read_left}
use Rattle.spf_cli_answers.proofs.context.Context.run_files.Goals as goal

pub returns-in_err-text : goal.returns-in_err-text
returns-in_err-text g c =
    let q = err_from_is_err_and c.from_residual.result c.from_residual.ensures.1 in
    let options = seen_options c.args.options in
    let given = handed (map (λ h. (goal.Predictor-dyn g (h.vtable, h.value)).answer h.value) c.args.hosts.now.items) in
    rw (q.1, q.2) (fetch_left c.args.program.now max_program (λ t. Read t (λ p. Allowed options.plain p (RunsOn options given c.args.input.now p))) _ _ _ c.in_err-text.ensures.left)

pub returns-in_err-parsed : goal.returns-in_err-parsed
returns-in_err-parsed g c =
    let q = err_from_is_err_and c.from_residual-in_err-parsed.result c.from_residual-in_err-parsed.ensures.1 in
    let old = g.F.Files.state c.args.files.now in
    let mid = g.F.Files.state c.fetch.new.files in
    let options = seen_options c.args.options in
    let given = handed (map (λ h. (goal.Predictor-dyn g (h.vtable, h.value)).answer h.value) c.args.hosts.now.items) in
    let next = λ (p : Program). Allowed options.plain p (RunsOn options given c.args.input.now p) in
    let text = c.in_ok-text.text.items in
    rw (q.1, q.2)
    (answers_fetch c.args.program.now max_program (λ t. Read t next) text old mid mid (Err c.in_err-parsed.field-0.0) c.in_ok-text.ensures.content
    (read_left text next mid c.in_err-parsed.field-0.0 (rw c.deref.ensures.value at c.in_err-parsed.ensures.left)))

pub returns : goal.returns
returns g c =
    let old = g.F.Files.state c.args.files.now in
    let mid = g.F.Files.state c.fetch.new.files in
    let new = g.F.Files.state c.run_parsed.new.files in
    let options = seen_options c.args.options in
    let given = handed (map (λ h. (goal.Predictor-dyn g (h.vtable, h.value)).answer h.value) c.args.hosts.now.items) in
    let next = λ (p : Program). Allowed options.plain p (RunsOn options given c.args.input.now p) in
    let text = c.in_ok-text.text.items in
    let p = program c.in_ok-parsed.parsed in
    let r = c.run_parsed.result in
    answers_fetch c.args.program.now max_program (λ t. Read t next) text old mid new r c.in_ok-text.ensures.content
    (answers_read text p next mid new r (rw c.deref.ensures.value at c.in_ok-parsed.ensures.program) c.run_parsed.ensures)

use Rattle.std.specs.Prelude.{Ok, Err}
use Rattle.std.proofs.Common.{rules, ◌≡◌}
use Rattle.std.proofs.lemmas.Result.{err_from_is_err_and}
use Rattle.spf_ast.specs.Syntax.{Program}
use Rattle.spf_ast.specs.View.{program}
use Rattle.spf_cli_answers.specs.declared.status.Status.TheVariants.{Done}
use Rattle.spf_cli_answers.specs.Answering.{seen_answer}
use Rattle.spf_cli_answers.specs.Answer.{explained}
use Rattle.spf_cli_answers.specs.Course.{Ends}
use Rattle.spf_cli_answers.specs.Whole.{Read, Explained, max_program}
use Rattle.spf_cli_answers.proofs.Steps.{answers_fetch, fetch_left, answers_read, read_left, followed_end, explained_so}
use Rattle.spf_cli_answers.proofs.answer.explain_file.Goals as goal

pub returns-in_err-text : goal.returns-in_err-text
returns-in_err-text g c given =
    let q = err_from_is_err_and c.from_residual.result c.from_residual.ensures.1 in
    rw (q.1, q.2) (fetch_left c.args.program.now max_program (λ text. Read text (λ p. Ends (Explained p))) _ _ _ c.in_err-text.ensures.left)

pub returns-in_err-parsed : goal.returns-in_err-parsed
returns-in_err-parsed g c given =
    let q = err_from_is_err_and c.from_residual-in_err-parsed.result c.from_residual-in_err-parsed.ensures.1 in
    let old = g.F.Files.state c.args.files.now in
    let new = g.F.Files.state c.fetch.new.files in
    let next = λ (p : Program). Ends (Explained p) in
    let text = c.in_ok-text.text.items in
    rw (q.1, q.2)
    (answers_fetch c.args.program.now max_program (λ t. Read t next) text old new new (Err c.in_err-parsed.field-0.0) c.in_ok-text.ensures.content
    (read_left text next new c.in_err-parsed.field-0.0 (rw c.deref.ensures.value at c.in_err-parsed.ensures.left)))

pub returns : goal.returns
returns g c given =
    let old = g.F.Files.state c.args.files.now in
    let new = g.F.Files.state c.fetch.new.files in
    let next = λ (p : Program). Ends (Explained p) in
    let text = c.in_ok-text.text.items in
    let p = program c.in_ok-parsed.parsed in
    let said = c.in_ok-explanation.explanation.items in
    let made : seen_answer (record { status = Done; output = c.in_ok-explanation.explanation; messages = c.new.result }) ≡ explained said = search rules in
    answers_fetch c.args.program.now max_program (λ t. Read t next) text old new new (Ok (record { status = Done; output = c.in_ok-explanation.explanation; messages = c.new.result })) c.in_ok-text.ensures.content
    (answers_read text p next new new (Ok (record { status = Done; output = c.in_ok-explanation.explanation; messages = c.new.result })) (rw c.deref.ensures.value at c.in_ok-parsed.ensures.program)
    (followed_end (Explained p) new _ (explained_so c.rules_say_one_thing.ensures p said _ (c.in_ok-explanation.ensures {u = tt}) made)))

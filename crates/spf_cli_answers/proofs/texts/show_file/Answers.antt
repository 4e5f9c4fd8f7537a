use Rattle.std.proofs.Common.{◌≡◌, ◌∙◌, ap, subst}
use Rattle.std.specs.Prelude.{Ok}
use Rattle.std.proofs.lemmas.Result.{err_from_is_err_and}
use Rattle.spf_apps_formats.specs.Lex1.{IsLex1, IsNoLex1At}
use Rattle.spf_apps_machine_text.specs.MachineText.{machine_text}
use Rattle.spf_cli_answers.specs.Answer.{written}
use Rattle.spf_cli_answers.specs.Answering.{seen_answer}
use Rattle.spf_cli_answers.specs.Course.{Is, Ends}
use Rattle.spf_cli_answers.specs.Whole.{WithLex1, max_machine}
use Rattle.spf_cli_answers.proofs.Steps.{only_same, answers_fetch, fetch_left, followed_end}
use Rattle.spf_cli_answers.proofs.Decoders.{answers_lex1, lex1_left}
use Rattle.spf_cli_answers.proofs.texts.show_file.Goals as goal

pub returns-in_err-table : goal.returns-in_err-table
returns-in_err-table g c given =
    let q = err_from_is_err_and c.from_residual.result c.from_residual.ensures.1 in
    rw (q.1, q.2) (fetch_left c.args.machine.now max_machine (λ table. WithLex1 table (λ states classes. Ends (Is (written (machine_text table))))) _ _ _ c.in_err-table.ensures.left)

pub returns-in-Ok : goal.returns-in-Ok
returns-in-Ok g c given =
    let old = g.F.Files.state c.args.files.now in
    let new = g.F.Files.state c.fetch.new.files in
    let table = c.in_ok-table.table.items in
    let counts = c.in-Ok.field-0 in
    let a = c.written.result in
    let is : IsLex1 table counts.0 counts.1 = subst (λ x. IsLex1 x counts.0 counts.1) c.deref.ensures.value c.in-Ok.ensures in
    let said : seen_answer a ≡ written (machine_text table) = c.written.ensures ∙ ap written (c.in_ok-show_machine-in-Ok.ensures.text_is ∙ ap machine_text c.deref-in-Ok.ensures.value) in
    answers_fetch c.args.machine.now max_machine (λ x. WithLex1 x (λ s k. Ends (Is (written (machine_text x))))) table old new new (Ok a) c.in_ok-table.ensures.content
    (answers_lex1 c.files_have_one_verdict.ensures.lex1 table (λ s k. Ends (Is (written (machine_text table)))) counts.0 counts.1 new new (Ok a) is
    (followed_end (Is (written (machine_text table))) new (seen_answer a) (only_same (seen_answer a) (written (machine_text table)) said)))

pub returns : goal.returns
returns g c given =
    let old = g.F.Files.state c.args.files.now in
    let new = g.F.Files.state c.fetch.new.files in
    let table = c.in_ok-table.table.items in
    let none : IsNoLex1At table c.in-Err.offset = subst (λ x. IsNoLex1At x c.in-Err.offset) c.deref.ensures.value c.in-Err.ensures in
    let a = c.in_ok-not_lex1-in-Err.field-0 in
    answers_fetch c.args.machine.now max_machine (λ x. WithLex1 x (λ s k. Ends (Is (written (machine_text x))))) table old new new (Ok a) c.in_ok-table.ensures.content
    (lex1_left c.files_have_one_verdict.ensures.lex1 table (λ s k. Ends (Is (written (machine_text table)))) c.in-Err.offset new (seen_answer a) none c.in_ok-not_lex1-in-Err.ensures)

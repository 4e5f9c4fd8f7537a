use Rattle.std.proofs.Common.{subst}
use Rattle.std.specs.Prelude.{Ok}
use Rattle.std.proofs.lemmas.Result.{err_from_is_err_and}
use Rattle.spf_apps_formats.specs.Lex1.{IsLex1, IsNoLex1At}
use Rattle.spf_cli_words.specs.Asked.{seen_decode_options}
use Rattle.spf_cli_answers.specs.Answering.{seen_answer, IsFollowed, AnswersWith}
use Rattle.spf_cli_answers.specs.Course.{Fetches, Ends}
use Rattle.spf_batch.specs.Batch.{max_input}
use Rattle.spf_cli_answers.specs.Whole.{Lexing, WithLex1, max_machine}
use Rattle.spf_cli_answers.proofs.Steps.{answers_fetch, fetch_left}
use Rattle.spf_cli_answers.proofs.Decoders.{answers_lex1, lex1_left}
use Rattle.spf_cli_answers.proofs.context.Context.lex_files.Goals as goal

pub returns-in_err-table : goal.returns-in_err-table
returns-in_err-table g c given =
    let q = err_from_is_err_and c.from_residual.result c.from_residual.ensures.1 in
    rw (q.1, q.2) (fetch_left c.args.machine.now max_machine (λ table. WithLex1 table (λ states classes. Fetches c.args.input.now max_input (λ content. Ends (Lexing (seen_decode_options c.args.options) table states classes content)))) _ _ _ c.in_err-table.ensures.left)

pub returns-in-Ok : goal.returns-in-Ok
returns-in-Ok g c given =
    let old = g.F.Files.state c.args.files.now in
    let mid = g.F.Files.state c.fetch.new.files in
    let new = g.F.Files.state c.lex_on.new.files in
    let o = seen_decode_options c.args.options in
    let table = c.in_ok-table.table.items in
    let states = c.in-Ok.states in
    let classes = c.in-Ok.classes in
    let is : IsLex1 table states classes = subst (λ x. IsLex1 x states classes) c.deref.ensures.value c.in-Ok.ensures in
    let said = subst (λ x. AnswersWith (IsFollowed (Fetches c.args.input.now max_input (λ content. Ends (Lexing o x states classes content))) mid new) c.lex_on.result) c.deref-in-Ok.ensures.value c.lex_on.ensures in
    answers_fetch c.args.machine.now max_machine (λ x. WithLex1 x (λ s k. Fetches c.args.input.now max_input (λ content. Ends (Lexing o x s k content)))) table old mid new c.lex_on.result c.in_ok-table.ensures.content
    (answers_lex1 c.files_have_one_verdict.ensures.lex1 table (λ s k. Fetches c.args.input.now max_input (λ content. Ends (Lexing o table s k content))) states classes mid new c.lex_on.result is said)

pub returns : goal.returns
returns g c given =
    let old = g.F.Files.state c.args.files.now in
    let new = g.F.Files.state c.fetch.new.files in
    let o = seen_decode_options c.args.options in
    let table = c.in_ok-table.table.items in
    let none : IsNoLex1At table c.in-Err.offset = subst (λ x. IsNoLex1At x c.in-Err.offset) c.deref.ensures.value c.in-Err.ensures in
    let a = c.in_ok-not_lex1-in-Err.field-0 in
    answers_fetch c.args.machine.now max_machine (λ x. WithLex1 x (λ s k. Fetches c.args.input.now max_input (λ content. Ends (Lexing o x s k content)))) table old new new (Ok a) c.in_ok-table.ensures.content
    (lex1_left c.files_have_one_verdict.ensures.lex1 table (λ s k. Fetches c.args.input.now max_input (λ content. Ends (Lexing o table s k content))) c.in-Err.offset new (seen_answer a) none c.in_ok-not_lex1-in-Err.ensures)

use Rattle.std.specs.Prelude.{Err}
use Rattle.std.proofs.Common.{List, map, subst}
use Rattle.std.proofs.lemmas.Result.{err_from_is_err_and}
use Rattle.spf_ast.specs.View.{program}
use Rattle.spf_replay_log.specs.declared.log.Step.{Step}
use Rattle.spf_replay_log.specs.Log.{sections_of}
use Rattle.spf_cli_words.specs.Only.{IsOnly}
use Rattle.spf_cli_answers.specs.Answering.{AnswersWith}
use Rattle.spf_cli_answers.specs.Course.{Ends, Fetches}
use Rattle.spf_batch.specs.Batch.{max_input}
use Rattle.spf_cli_answers.specs.Whole.{handed, WithLog, Replays, max_log}
use Rattle.spf_cli_answers.proofs.Steps.{answers_fetch, fetch_left, answers_end}
use Rattle.spf_cli_answers.proofs.Logs.{LogLaws, answers_log, no_log_left}
use Rattle.spf_cli_answers.proofs.replaying.replay_on.Goals as goal

pub returns-in_err-content : goal.returns-in_err-content
returns-in_err-content g c =
    let q = err_from_is_err_and c.from_residual.result c.from_residual.ensures.1 in
    let given = handed (map (λ h. (goal.Predictor-dyn g (h.vtable, h.value)).answer h.value) c.args.hosts.now.items) in
    let p = program c.args.checked.now in
    rw (q.1, q.2)
    (fetch_left c.args.input.now max_input (λ x. Fetches c.args.log.now max_log (λ file. WithLog file (λ sections. Ends (Replays given p x sections)))) _ _ c.in_err-content.field-0.0 c.in_err-content.ensures.left)

pub returns-in_err-sections : goal.returns-in_err-sections
returns-in_err-sections g c =
    let q = err_from_is_err_and c.from_residual-in_err-sections.result c.from_residual-in_err-sections.ensures.1 in
    let old = g.F.Files.state c.args.files.now in
    let mid = g.F.Files.state c.fetch.new.files in
    let new = g.F.Files.state c.fetch_log.new.files in
    let given = handed (map (λ h. (goal.Predictor-dyn g (h.vtable, h.value)).answer h.value) c.args.hosts.now.items) in
    let laws : LogLaws = record { one = c.bytes_have_one_reading.ensures.one; none = c.bytes_have_one_reading.ensures.none; offset = c.bytes_have_one_reading.ensures.offset } in
    let p = program c.args.checked.now in
    let content = c.in_ok-content.content.items in
    let left = c.in_err-sections.field-0.0 in
    rw (q.1, q.2)
    (answers_fetch c.args.input.now max_input (λ x. Fetches c.args.log.now max_log (λ file. WithLog file (λ sections. Ends (Replays given p x sections)))) content old mid new (Err left) c.in_ok-content.ensures.content
    (no_log_left laws c.args.log.now (λ sections. Ends (Replays given p content sections)) mid new left c.in_err-sections.ensures.left))

pub returns : goal.returns
returns g c =
    let old = g.F.Files.state c.args.files.now in
    let mid = g.F.Files.state c.fetch.new.files in
    let new = g.F.Files.state c.fetch_log.new.files in
    let given = handed (map (λ h. (goal.Predictor-dyn g (h.vtable, h.value)).answer h.value) c.args.hosts.now.items) in
    let laws : LogLaws = record { one = c.bytes_have_one_reading.ensures.one; none = c.bytes_have_one_reading.ensures.none; offset = c.bytes_have_one_reading.ensures.offset } in
    let p = program c.args.checked.now in
    let content = c.in_ok-content.content.items in
    let sections = sections_of c.in_ok-sections.sections.items in
    let log = c.in_ok-sections.ensures.log in
    let r = c.judge.result in
    let rest = λ (x : List (List Step)). Ends (Replays given p content x) in
    let said = subst (λ x. AnswersWith (IsOnly (Replays given p content (sections_of x))) r) c.deref-2.ensures.value
    (subst (λ x. AnswersWith (IsOnly (Replays given p x (sections_of c.deref-2.result.now))) r) c.deref.ensures.value c.judge.ensures) in
    answers_fetch c.args.input.now max_input (λ x. Fetches c.args.log.now max_log (λ file. WithLog file (λ sections. Ends (Replays given p x sections)))) content old mid new r c.in_ok-content.ensures.content
    (answers_fetch c.args.log.now max_log (λ file. WithLog file rest) log.0 mid new new r log.1
    (answers_log laws log.0 sections rest new new r log.2
    (answers_end (Replays given p content sections) new r said)))

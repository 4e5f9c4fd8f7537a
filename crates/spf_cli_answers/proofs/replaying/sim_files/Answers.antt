use Rattle.std.specs.Prelude.{Err}
use Rattle.std.proofs.Common.{map, subst}
use Rattle.std.proofs.lemmas.Result.{err_from_is_err_and}
use Rattle.spf_ast.specs.Syntax.{Program}
use Rattle.spf_ast.specs.View.{program}
use Rattle.spf_cli_words.specs.Only.{IsOnly}
use Rattle.spf_cli_answers.specs.Answering.{AnswersWith}
use Rattle.spf_cli_answers.specs.Course.{Ends, Fetches}
use Rattle.spf_batch.specs.Batch.{max_input}
use Rattle.spf_cli_answers.specs.Whole.{Handed, handed, AcceptedIn, Simulates}
use Rattle.spf_cli_answers.proofs.Steps.{answers_fetch, fetch_left, answers_end}
use Rattle.spf_cli_answers.proofs.Logs.{answers_on, accepted_leads, accepted_left}
use Rattle.spf_cli_answers.proofs.replaying.sim_files.Goals as goal

pub returns-in_err-checked : goal.returns-in_err-checked
returns-in_err-checked g c =
    let q = err_from_is_err_and c.from_residual.result c.from_residual.ensures.1 in
    let given : Handed = handed (map (λ h. (goal.Predictor-dyn g (h.vtable, h.value)).answer h.value) c.args.hosts.now.items) in
    rw (q.1, q.2) (accepted_left c.rules_say_one_thing.ensures c.args.program.now (λ (p : Program). Fetches c.args.input.now max_input (λ x. Ends (Simulates given c.args.seed p x))) _ _ c.in_err-checked.field-0.0 c.in_err-checked.ensures.left)

pub returns-in_err-content : goal.returns-in_err-content
returns-in_err-content g c =
    let q = err_from_is_err_and c.from_residual-in_err-content.result c.from_residual-in_err-content.ensures.1 in
    let old = g.F.Files.state c.args.files.now in
    let mid = g.F.Files.state c.fetch_accepted.new.files in
    let new = g.F.Files.state c.fetch.new.files in
    let given : Handed = handed (map (λ h. (goal.Predictor-dyn g (h.vtable, h.value)).answer h.value) c.args.hosts.now.items) in
    let next = λ (p : Program). Fetches c.args.input.now max_input (λ x. Ends (Simulates given c.args.seed p x)) in
    let p = program c.in_ok-checked.checked in
    let left = c.in_err-content.field-0.0 in
    rw (q.1, q.2)
    (answers_on (AcceptedIn c.args.program.now next) (next p) old mid new (Err left) (accepted_leads c.rules_say_one_thing.ensures c.args.program.now next p old mid c.in_ok-checked.ensures.program)
    (fetch_left c.args.input.now max_input (λ x. Ends (Simulates given c.args.seed p x)) mid new left c.in_err-content.ensures.left))

pub returns : goal.returns
returns g c =
    let old = g.F.Files.state c.args.files.now in
    let mid = g.F.Files.state c.fetch_accepted.new.files in
    let new = g.F.Files.state c.fetch.new.files in
    let given : Handed = handed (map (λ h. (goal.Predictor-dyn g (h.vtable, h.value)).answer h.value) c.args.hosts.now.items) in
    let next = λ (p : Program). Fetches c.args.input.now max_input (λ x. Ends (Simulates given c.args.seed p x)) in
    let p = program c.in_ok-checked.checked in
    let content = c.in_ok-content.content.items in
    let r = c.simulate.result in
    let said = subst (λ x. AnswersWith (IsOnly (Simulates given c.args.seed p x)) r) c.deref.ensures.value c.simulate.ensures in
    answers_on (AcceptedIn c.args.program.now next) (next p) old mid new r (accepted_leads c.rules_say_one_thing.ensures c.args.program.now next p old mid c.in_ok-checked.ensures.program)
    (answers_fetch c.args.input.now max_input (λ x. Ends (Simulates given c.args.seed p x)) content mid new new r c.in_ok-content.ensures.content
    (answers_end (Simulates given c.args.seed p content) new r said))

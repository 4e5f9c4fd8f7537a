use Rattle.std.specs.Prelude.{Ok}
use Rattle.std.proofs.lemmas.Result.{err_from_is_err_and}
use Rattle.spf_ast.specs.Syntax.{Program}
use Rattle.spf_ast.specs.View.{program}
use Rattle.spf_cli_answers.specs.Answering.{seen_answer}
use Rattle.spf_cli_answers.specs.Answer.{accepted}
use Rattle.spf_cli_answers.specs.Course.{Is, Ends}
use Rattle.spf_cli_answers.specs.Whole.{AcceptedIn}
use Rattle.spf_cli_answers.proofs.Logs.{answers_on, accepted_leads, accepted_left}
use Rattle.spf_cli_answers.proofs.Steps.{followed_end, only_same}
use Rattle.spf_cli_answers.proofs.answer.check_file.Goals as goal

pub returns-in_err-fetch_accepted : goal.returns-in_err-fetch_accepted
returns-in_err-fetch_accepted g c given =
    let q = err_from_is_err_and c.from_residual.result c.from_residual.ensures.1 in
    rw (q.1, q.2) (accepted_left c.rules_say_one_thing.ensures c.args.program.now (λ (p : Program). Ends (Is accepted)) _ _ c.in_err-fetch_accepted.field-0.0 c.in_err-fetch_accepted.ensures.left)

pub returns : goal.returns
returns g c given =
    let new = g.F.Files.state c.fetch_accepted.new.files in
    let next = λ (p : Program). Ends (Is accepted) in
    let p = program c.in_ok-fetch_accepted.field-0 in
    let a = c.in_ok-answer_accepted.field-0 in
    answers_on (AcceptedIn c.args.program.now next) (next p) (g.F.Files.state c.args.files.now) new new (Ok a)
    (accepted_leads c.rules_say_one_thing.ensures c.args.program.now next p (g.F.Files.state c.args.files.now) new c.in_ok-fetch_accepted.ensures.program)
    (followed_end (Is accepted) new (seen_answer a) (only_same (seen_answer a) accepted (c.in_ok-answer_accepted.ensures {u = tt})))

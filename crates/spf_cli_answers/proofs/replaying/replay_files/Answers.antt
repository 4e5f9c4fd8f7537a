use Rattle.std.proofs.Common.{map}
use Rattle.std.proofs.lemmas.Result.{err_from_is_err_and}
use Rattle.spf_ast.specs.Syntax.{Program}
use Rattle.spf_ast.specs.View.{program}
use Rattle.spf_cli_answers.specs.Following.{ReplaysOn}
use Rattle.spf_cli_answers.specs.Whole.{handed, AcceptedIn}
use Rattle.spf_cli_answers.proofs.Logs.{answers_on, accepted_leads, accepted_left}
use Rattle.spf_cli_answers.proofs.replaying.replay_files.Goals as goal

pub returns-in_err-checked : goal.returns-in_err-checked
returns-in_err-checked g c =
    let q = err_from_is_err_and c.from_residual.result c.from_residual.ensures.1 in
    let given = handed (map (λ h. (goal.Predictor-dyn g (h.vtable, h.value)).answer h.value) c.args.hosts.now.items) in
    rw (q.1, q.2) (accepted_left c.rules_say_one_thing.ensures c.args.program.now (λ (p : Program). ReplaysOn given c.args.input.now c.args.log.now p) _ _ c.in_err-checked.field-0.0 c.in_err-checked.ensures.left)

pub returns : goal.returns
returns g c =
    let old = g.F.Files.state c.args.files.now in
    let mid = g.F.Files.state c.fetch_accepted.new.files in
    let new = g.F.Files.state c.replay_on.new.files in
    let given = handed (map (λ h. (goal.Predictor-dyn g (h.vtable, h.value)).answer h.value) c.args.hosts.now.items) in
    let next = λ (p : Program). ReplaysOn given c.args.input.now c.args.log.now p in
    let p = program c.in_ok-checked.checked in
    answers_on (AcceptedIn c.args.program.now next) (next p) old mid new c.replay_on.result
    (accepted_leads c.rules_say_one_thing.ensures c.args.program.now next p old mid c.in_ok-checked.ensures.program) c.replay_on.ensures

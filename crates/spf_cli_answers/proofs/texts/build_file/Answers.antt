use Rattle.std.proofs.Common.{subst}
use Rattle.std.specs.Prelude.{Ok}
use Rattle.std.proofs.lemmas.Result.{err_from_is_err_and}
use Rattle.spf_apps_machine_text.specs.MachineText.{IsTextOf}
use Rattle.spf_apps_machine_text.specs.Building.{BelongsToNoMachine}
use Rattle.spf_cli_answers.specs.Answer.{written}
use Rattle.spf_cli_answers.specs.Answering.{seen_answer}
use Rattle.spf_cli_answers.specs.Course.{Is, Ends}
use Rattle.spf_cli_answers.specs.Whole.{WithMachine, max_machine_text}
use Rattle.spf_cli_answers.proofs.Steps.{only_same, answers_fetch, fetch_left, followed_end}
use Rattle.spf_cli_answers.proofs.Machines.{followed_machine, machine_left}
use Rattle.spf_cli_answers.proofs.texts.build_file.Goals as goal

pub returns-in_err-content : goal.returns-in_err-content
returns-in_err-content g c given =
    let q = err_from_is_err_and c.from_residual.result c.from_residual.ensures.1 in
    rw (q.1, q.2) (fetch_left c.args.text.now max_machine_text (λ bytes. WithMachine bytes (λ file. Ends (Is (written file)))) _ _ _ c.in_err-content.ensures.left)

pub returns-in-Ok : goal.returns-in-Ok
returns-in-Ok g c given =
    let old = g.F.Files.state c.args.files.now in
    let new = g.F.Files.state c.fetch.new.files in
    let content = c.in_ok-content.content.items in
    let file = c.in-Ok.file.items in
    let a = c.written.result in
    let is : IsTextOf content file = subst (λ x. IsTextOf x file) c.deref.ensures.value c.in-Ok.ensures in
    answers_fetch c.args.text.now max_machine_text (λ bytes. WithMachine bytes (λ f. Ends (Is (written f)))) content old new new (Ok a) c.in_ok-content.ensures.content
    (followed_machine c.machines_have_one_text.ensures content file (λ f. Ends (Is (written f))) new new (seen_answer a) is
    (followed_end (Is (written file)) new (seen_answer a) (only_same (seen_answer a) (written file) c.written.ensures)))

pub returns-in-Err-NotMachine : goal.returns-in-Err-NotMachine
returns-in-Err-NotMachine g c given =
    let old = g.F.Files.state c.args.files.now in
    let new = g.F.Files.state c.fetch.new.files in
    let content = c.in_ok-content.content.items in
    let none : BelongsToNoMachine content = subst BelongsToNoMachine c.deref.ensures.value (rw c.in-Err-NotMachine.field-0-is at c.in-Err-NotMachine.ensures) in
    let a = c.in_ok-not_a_machine-in-Err-NotMachine.field-0 in
    answers_fetch c.args.text.now max_machine_text (λ bytes. WithMachine bytes (λ f. Ends (Is (written f)))) content old new new (Ok a) c.in_ok-content.ensures.content
    (machine_left content (λ f. Ends (Is (written f))) new (seen_answer a) none c.in_ok-not_a_machine-in-Err-NotMachine.ensures)

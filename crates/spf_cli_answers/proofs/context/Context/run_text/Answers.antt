use Rattle.std.proofs.Common.{map}
use Rattle.std.proofs.lemmas.Result.{err_from_is_err_and}
use Rattle.spf_ast.specs.Syntax.{Program}
use Rattle.spf_ast.specs.View.{program as seen_program}
use Rattle.spf_guess.specs.Answers.{handed_in}
use Rattle.spf_cli_answers.specs.Course.{Wanted}
use Rattle.spf_cli_answers.specs.Whole.{handed, Runs, with_stats}
use Rattle.spf_cli_answers.proofs.AtHand.{unaccepted_left, text_run, told_nothing, says_no_refusal, told_first_of, told_of}
use Rattle.spf_cli_answers.proofs.context.Context.run_text.Goals as goal

pub returns-in_err-checked-clause-answer : goal.returns-in_err-checked-clause-answer
returns-in_err-checked-clause-answer g c =
    let q = err_from_is_err_and c.from_residual.result c.from_residual.ensures.1 in
    rw (q.1, q.2) (unaccepted_left c.rules_say_one_thing.ensures c.args.text.now _ _ c.in_err-checked.ensures.left)

pub returns-in_err-checked-clause-told_first : goal.returns-in_err-checked-clause-told_first
returns-in_err-checked-clause-told_first g c p v = told_nothing _ _ _

pub returns-clause-answer : goal.returns-clause-answer
returns-clause-answer g c =
    let given = handed (map (λ h. (goal.Predictor-dyn g (h.vtable, h.value)).answer h.value) c.args.hosts.now.items) in
    let next : Program → Wanted = λ p. Runs (with_stats c.args.workers) given p c.args.input.now in
    let says = c.in_ok-checked.ensures.program in
    text_run c.rules_say_one_thing.ensures c.args.text.now (seen_program c.in_ok-checked.checked) next c.run_by_blocks.result says.0 says.1 c.run_by_blocks.ensures.answer

pub returns-clause-told_first : goal.returns-clause-told_first
returns-clause-told_first g c p v =
    let hosts = handed_in (map (λ h. (goal.Predictor-dyn g (h.vtable, h.value)).answer h.value) c.args.hosts.now.items) in
    told_first_of c.args.text.now (seen_program c.in_ok-checked.checked) hosts _ c.args.input.now c.in_ok-checked.ensures.program.0 c.run_by_blocks.ensures.told_first p v

pub returns-clause-told : goal.returns-clause-told
returns-clause-told g c =
    let hosts = handed_in (map (λ h. (goal.Predictor-dyn g (h.vtable, h.value)).answer h.value) c.args.hosts.now.items) in
    told_of c.args.text.now (seen_program c.in_ok-checked.checked) hosts _ c.args.input.now c.run_by_blocks.result c.in_ok-checked.ensures.program.0 c.run_by_blocks.ensures.told

pub returns-clause-untold : goal.returns-clause-untold
returns-clause-untold g c refusal v = says_no_refusal c.args.text.now (seen_program c.in_ok-checked.checked) refusal c.in_ok-checked.ensures.program.0 v

pub returns-clause-unrun : goal.returns-clause-unrun
returns-clause-unrun g c = c.run_by_blocks.ensures.unrun

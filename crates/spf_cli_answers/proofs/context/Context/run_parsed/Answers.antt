use Rattle.std.specs.Prelude.{Err}
use Rattle.std.proofs.Common.{map}
use Rattle.std.proofs.lemmas.Result.{err_from_is_err_and}
use Rattle.spf_ast.specs.View.{program}
use Rattle.spf_cli_words.specs.Asked.{seen_options}
use Rattle.spf_cli_answers.specs.Whole.{handed, RunsOn}
use Rattle.spf_cli_answers.proofs.Steps.{answers_accepted, rule_left, answers_allowed, answers_checked}
use Rattle.spf_cli_answers.proofs.context.Context.run_parsed.Goals as goal

pub run_plainly_on-requires-clause-plain : goal.run_plainly_on-requires-clause-plain
run_plainly_on-requires-clause-plain g c = c.if-options.true

pub run_by_blocks_on-requires-clause-blocks : goal.run_by_blocks_on-requires-clause-blocks
run_by_blocks_on-requires-clause-blocks g c κs within = c.if-options.false

pub returns-then-options : goal.returns-then-options
returns-then-options g c =
    let options = seen_options c.args.options in
    let given = handed (map (λ h. (goal.Predictor-dyn g (h.vtable, h.value)).answer h.value) c.args.hosts.now.items) in
    answers_allowed options.plain (program c.args.program) (RunsOn options given c.args.input.now (program c.args.program)) (g.F.Files.state c.args.files.now) (g.F.Files.state c.run_plainly_on.new.files)
    c.run_plainly_on.result c.if-options.true (c.run_plainly_on.ensures given)

pub returns-in_err-checked : goal.returns-in_err-checked
returns-in_err-checked g c =
    let q = err_from_is_err_and c.from_residual.result c.from_residual.ensures.1 in
    let state = g.F.Files.state c.args.files.now in
    let options = seen_options c.args.options in
    let given = handed (map (λ h. (goal.Predictor-dyn g (h.vtable, h.value)).answer h.value) c.args.hosts.now.items) in
    let p = program c.args.program in
    let run = RunsOn options given c.args.input.now p in
    rw (q.1, q.2)
    (answers_checked options.plain p run state state (Err c.in_err-checked.field-0.0) c.if-options.false
    (rule_left c.rules_say_one_thing.ensures p run state c.in_err-checked.field-0.0 c.in_err-checked.ensures.left))

pub returns : goal.returns
returns g c =
    let old = g.F.Files.state c.args.files.now in
    let new = g.F.Files.state c.run_by_blocks_on.new.files in
    let options = seen_options c.args.options in
    let given = handed (map (λ h. (goal.Predictor-dyn g (h.vtable, h.value)).answer h.value) c.args.hosts.now.items) in
    let p = program c.args.program in
    let run = RunsOn options given c.args.input.now p in
    let r = c.run_by_blocks_on.result in
    answers_checked options.plain p run old new r c.if-options.false
    (answers_accepted c.rules_say_one_thing.ensures p run old new r c.in_ok-checked.ensures.accepted
    (rw c.in_ok-checked.ensures.same at c.run_by_blocks_on.ensures))

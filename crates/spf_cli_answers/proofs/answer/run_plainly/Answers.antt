use Rattle.std.proofs.Common.{◌≡◌, length, ◌∙◌, sym, ap, subst}
use Rattle.std.specs.Prelude.{if◌then◌else◌, None}
use Rattle.spf_ast.specs.Silence.{FunctionsAreSilent}
use Rattle.spf_ast.specs.Syntax.{Program}
use Rattle.spf_ast.specs.View.{program as seen_program}
use Rattle.spf_ast.specs.Program.{outcome}
use Rattle.spf_ast.specs.Construct.{constructs_in}
use Rattle.spf_guess_statistics.specs.Statistics.{none, tally}
use Rattle.spf_guess.specs.Missing.{missing_host}
use Rattle.spf_cli_answers.specs.Answer.{ran}
use Rattle.spf_cli_words.specs.Asked.{seen_options}
use Rattle.spf_cli_answers.specs.Whole.{stats_of, host_wanted}
use Rattle.spf_cli_answers.proofs.Steps.{run_done}
use Rattle.spf_cli_answers.proofs.answer.run_plainly.Goals as goal

pub make-requires : goal.make-requires
make-requires c = record { orderly = c.breaks_stay_in_their_loops.ensures.programs (seen_program c.args.program.now) c.requires.lawful }

pub answer_plainly-requires : goal.answer_plainly-requires
answer_plainly-requires c = subst (λ (q : Program). FunctionsAreSilent q.functions) (sym c.in-Ok.ensures.program) (c.lawful_programs_are_quiet_and_small.ensures.functions (seen_program c.args.program.now) c.requires.lawful)

pub returns-in_ok-answer_plainly-in-Ok : goal.returns-in_ok-answer_plainly-in-Ok
returns-in_ok-answer_plainly-in-Ok c given =
    let options = seen_options c.args.options in
    let p = seen_program c.args.program.now in
    let same = c.in-Ok.ensures.program in
    let content = c.in-Ok.ensures.input in
    let plain = c.requires.plain in
    let counted : none ≡ stats_of options given p c.args.input.now = ap (λ b. if b then none else (tally given.hosts p c.args.input.now).stats) (sym plain) in
    let asked : host_wanted options given p ≡ None = ap (λ b. if b then None else missing_host given.count (constructs_in p.main)) plain in
    run_done (ran options p (length c.args.input.now)) options given p c.args.input.now _ (λ many. c.in-Ok.ensures.too_many many) asked
    (c.in_ok-answer_plainly-in-Ok.ensures ∙ (λ i. ran options (same i) (length (content i)) (outcome (same i) (content i)) (counted i)))

use Rattle.std.proofs.Common.{◌≡◌, ◌<◌, ◌≤◌, [], subst, length, ◌∙◌, sym, ap}
use Rattle.std.specs.Prelude.{None}
use Rattle.spf_ast.specs.View.{program as seen_program}
use Rattle.spf_ast.specs.Program.{cell_count_of, max_cells}
use Rattle.spf_ast.specs.Construct.{constructs_in}
use Rattle.spf_guess_statistics.specs.Statistics.{tally}
use Rattle.spf_guess.specs.Missing.{missing_host}
use Rattle.spf_engine.specs.Errors.{IsMissing}
use Rattle.spf_cli_answers.specs.Answer.{shown}
use Rattle.spf_cli_answers.specs.Answering.{IsAnswerToError}
use Rattle.spf_cli_answers.specs.Whole.{Handed, handed, by_blocks, stats_of, RunsTo}
use Rattle.spf_cli_words.specs.Only.{IsOnly}
use Rattle.spf_cli_answers.proofs.Steps.{run_done, unfinished, answers_with}
use Rattle.spf_cli_answers.proofs.Decoders.{no_hosts}
use Rattle.spf_cli_answers.proofs.context.Context.demonstrate.Goals as goal

pub returns-in-Err : goal.returns-in-Err
returns-in-Err g c =
    let p = seen_program c.args.checked.now in
    let given : Handed = handed [] in
    let missing : cell_count_of p (length c.args.input.now) ≤ max_cells p → IsMissing (missing_host 0 (constructs_in p.main)) c.in-Err.error =
    λ fits. subst (λ hosts. IsMissing (missing_host (length hosts) (constructs_in p.main)) c.in-Err.error) c.new-hosts.ensures.items (c.in-Err.ensures.few fits) in
    answers_with (IsOnly (RunsTo shown by_blocks given p c.args.input.now)) (IsAnswerToError (seen_program c.program.result.now) c.in-Err.error) c.answer_of_error.result c.answer_of_error.ensures
    (λ a says. unfinished shown by_blocks given p c.args.input.now c.in-Err.error a (λ over. c.in-Err.ensures.too_many over) missing
    (subst (λ q. IsAnswerToError (seen_program q) c.in-Err.error a) c.program.ensures.program says))

pub returns : goal.returns
returns g c =
    let p = seen_program c.args.checked.now in
    let given : Handed = handed [] in
    let asked : missing_host 0 (constructs_in p.main) ≡ None =
    ap (λ hosts. missing_host (length hosts) (constructs_in p.main)) (sym c.new-hosts.ensures.items) ∙ c.in-Ok.ensures.complete in
    let P = λ (h : Handed). c.in-Ok.report.stats ≡ (tally h.hosts p c.args.input.now).stats in
    let stats : c.in-Ok.report.stats ≡ stats_of by_blocks given p c.args.input.now = no_hosts _ _ P c.new-hosts.ensures.items c.in-Ok.ensures.statistics in
    let few : max_cells p < cell_count_of p (length c.args.input.now) → ⊥ = λ many. c.in-Ok.ensures.too_many many in
    run_done shown by_blocks given p c.args.input.now _ few asked (c.in_ok-answer_of_demo.ensures ∙ (λ i. shown (c.in-Ok.ensures.outcome i) (stats i)))

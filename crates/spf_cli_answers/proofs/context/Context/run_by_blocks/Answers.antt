use Rattle.std.proofs.Common.{◌≡◌, ◌<◌, ◌≤◌, subst, length, ◌∙◌, sym, ap, map}
use Rattle.std.proofs.lemmas.List.{length-map}
use Rattle.std.specs.Prelude.{if◌then◌else◌, None}
use Rattle.spf_ast.specs.View.{program as seen_program}
use Rattle.spf_ast.specs.Program.{cell_count_of, max_cells}
use Rattle.spf_ast.specs.Construct.{constructs_in}
use Rattle.spf_guess_statistics.specs.Statistics.{none, tally}
use Rattle.spf_guess.specs.Missing.{missing_host}
use Rattle.spf_engine.specs.Errors.{IsMissing}
use Rattle.spf_cli_answers.specs.Answer.{ran}
use Rattle.spf_cli_answers.specs.Answering.{IsAnswerToError}
use Rattle.spf_cli_answers.specs.Whole.{Handed, handed, stats_of, host_wanted, Runs}
use Rattle.spf_cli_words.specs.Asked.{seen_options}
use Rattle.spf_cli_words.specs.Only.{IsOnly}
use Rattle.spf_cli_answers.proofs.Steps.{run_done, unfinished, answers_with}
use Rattle.spf_cli_answers.proofs.AtHand.{told_all, unfinished_told, unfinished_untold}
use Rattle.spf_cli_answers.proofs.context.Context.run_by_blocks.Goals as goal

pub returns-in-Err-clause-answer : goal.returns-in-Err-clause-answer
returns-in-Err-clause-answer g c =
    let options = seen_options c.args.options in
    let p = seen_program c.args.checked.now in
    let given : Handed = handed (map (λ h. (goal.Predictor-dyn g (h.vtable, h.value)).answer h.value) c.args.hosts.now.items) in
    let counted : length c.args.hosts.now.items ≡ given.count = sym (length-map c.args.hosts.now.items (λ h. (goal.Predictor-dyn g (h.vtable, h.value)).answer h.value)) in
    let wanted : host_wanted options given p ≡ missing_host (length c.args.hosts.now.items) (constructs_in p.main) =
    ap (λ b. if b then None else missing_host given.count (constructs_in p.main)) c.requires.blocks
    ∙ ap (λ n. missing_host n (constructs_in p.main)) (sym counted) in
    let missing : cell_count_of p (length c.args.input.now) ≤ max_cells p → IsMissing (host_wanted options given p) c.in-Err.error =
    λ fits. subst (λ m. IsMissing m c.in-Err.error) (sym wanted) (c.in-Err.ensures.few fits) in
    answers_with (IsOnly (Runs options given p c.args.input.now)) (IsAnswerToError (seen_program c.program.result.now) c.in-Err.error) c.answer_of_error.result c.answer_of_error.ensures
    (λ a says. unfinished (ran options p (length c.args.input.now)) options given p c.args.input.now c.in-Err.error a (λ over. c.in-Err.ensures.too_many over) missing
    (subst (λ q. IsAnswerToError (seen_program q) c.in-Err.error a) c.program.ensures.program says))

pub returns-in-Err-clause-told_first : goal.returns-in-Err-clause-told_first
returns-in-Err-clause-told_first g c = c.in-Err.ensures.told_first

pub returns-in-Err-clause-told : goal.returns-in-Err-clause-told
returns-in-Err-clause-told g c = unfinished_told _ (seen_program c.program.result.now) c.in-Err.error _ c.answer_of_error.ensures

pub returns-in-Err-clause-unrun : goal.returns-in-Err-clause-unrun
returns-in-Err-clause-unrun g c = unfinished_untold _ _ (seen_program c.program.result.now) c.in-Err.error _ c.answer_of_error.ensures c.in-Err.ensures.untold

pub returns-in_ok-answer_of_blocks-in-Ok-clause-answer : goal.returns-in_ok-answer_of_blocks-in-Ok-clause-answer
returns-in_ok-answer_of_blocks-in-Ok-clause-answer g c =
    let options = seen_options c.args.options in
    let p = seen_program c.args.checked.now in
    let given : Handed = handed (map (λ h. (goal.Predictor-dyn g (h.vtable, h.value)).answer h.value) c.args.hosts.now.items) in
    let counted : length c.args.hosts.now.items ≡ given.count = sym (length-map c.args.hosts.now.items (λ h. (goal.Predictor-dyn g (h.vtable, h.value)).answer h.value)) in
    let asked : host_wanted options given p ≡ None =
    ap (λ b. if b then None else missing_host given.count (constructs_in p.main)) c.requires.blocks
    ∙ ap (λ n. missing_host n (constructs_in p.main)) (sym counted) ∙ c.in-Ok.ensures.complete in
    let stats : c.in-Ok.run'.1.stats ≡ stats_of options given p c.args.input.now =
    c.in-Ok.ensures.statistics ∙ ap (λ b. if b then none else (tally given.hosts p c.args.input.now).stats) (sym c.requires.blocks) in
    let few : max_cells p < cell_count_of p (length c.args.input.now) → ⊥ = λ many. c.in-Ok.ensures.too_many many in
    run_done (ran options p (length c.args.input.now)) options given p c.args.input.now _ few asked
    (c.in_ok-answer_of_blocks-in-Ok.ensures ∙ (λ i. ran options (c.in-Ok.ensures.program i) (length (c.in-Ok.ensures.input i)) (c.in-Ok.ensures.outcome i) (stats i)))

pub returns-in_err-answer_of_blocks-in-Ok-clause-told_first : goal.returns-in_err-answer_of_blocks-in-Ok-clause-told_first
returns-in_err-answer_of_blocks-in-Ok-clause-told_first g c = told_all _ _ _ _ c.in-Ok.ensures.told

pub returns-in_ok-answer_of_blocks-in-Ok-clause-told_first : goal.returns-in_ok-answer_of_blocks-in-Ok-clause-told_first
returns-in_ok-answer_of_blocks-in-Ok-clause-told_first g c = told_all _ _ _ _ c.in-Ok.ensures.told

pub returns-in_ok-answer_of_blocks-in-Ok-clause-told : goal.returns-in_ok-answer_of_blocks-in-Ok-clause-told
returns-in_ok-answer_of_blocks-in-Ok-clause-told g c e = c.in-Ok.ensures.told

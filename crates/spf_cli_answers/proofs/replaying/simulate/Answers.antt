use Rattle.std.proofs.Common.{rules, ◌≡◌, ◌<◌, ◌≤◌, ℕ, List, subst, length, ◌∙◌, sym, map}
use Rattle.std.proofs.lemmas.List.{length-map}
use Rattle.std.specs.Prelude.{None}
use Rattle.spf_ast.specs.Syntax.{Program}
use Rattle.spf_ast.specs.View.{program as seen_program}
use Rattle.spf_ast.specs.Program.{cell_count_of, max_cells}
use Rattle.spf_ast.specs.Construct.{constructs_in}
use Rattle.spf_exec_instance.specs.Instance.{program_of}
use Rattle.spf_guess.specs.Missing.{missing_host}
use Rattle.spf_engine.specs.Errors.{IsMissing}
use Rattle.spf_cli_words.specs.Only.{IsOnly}
use Rattle.spf_cli_answers.specs.Answering.{IsAnswerToError}
use Rattle.spf_cli_answers.specs.Whole.{Handed, handed, Drawn, Simulates}
use Rattle.spf_cli_answers.proofs.Steps.{not_above, started_done, started_left, answers_with}
use Rattle.spf_cli_answers.proofs.replaying.simulate.Goals as goal

pub returns-in-Err : goal.returns-in-Err
returns-in-Err g c =
    let p = seen_program c.args.checked.now in
    let given : Handed = handed (map (λ h. (goal.Predictor-dyn g (h.vtable, h.value)).answer h.value) c.args.hosts.now.items) in
    let len : length c.args.hosts.now.items ≡ c.len.result = search rules in
    let count : c.len.result ≡ given.count = sym (length-map c.args.hosts.now.items (λ h. (goal.Predictor-dyn g (h.vtable, h.value)).answer h.value) ∙ len) in
    let missing : cell_count_of p (length c.args.input.now) ≤ max_cells p → IsMissing (missing_host given.count (constructs_in p.main)) c.in-Err.error =
    λ fits. subst (λ n. IsMissing (missing_host n (constructs_in p.main)) c.in-Err.error) count (c.in-Err.ensures.missing fits) in
    answers_with (IsOnly (Simulates given c.args.seed p c.args.input.now)) (IsAnswerToError (seen_program c.program.result.now) c.in-Err.error) c.answer_of_error.result c.answer_of_error.ensures
    (λ a says. started_left (missing_host given.count (constructs_in p.main)) p c.args.input.now (Drawn given.hosts p c.args.input.now c.args.seed) c.in-Err.error a (λ over. c.in-Err.ensures.too_many over) missing
    (subst (λ q. IsAnswerToError (seen_program q) c.in-Err.error a) c.program.ensures.program says))

pub returns-in-Ok : goal.returns-in-Ok
returns-in-Ok g c =
    let p = seen_program c.args.checked.now in
    let made = c.in-Ok.instance in
    let given : Handed = handed (map (λ h. (goal.Predictor-dyn g (h.vtable, h.value)).answer h.value) c.args.hosts.now.items) in
    let len : length c.args.hosts.now.items ≡ c.len.result = search rules in
    let count : c.len.result ≡ given.count = sym (length-map c.args.hosts.now.items (λ h. (goal.Predictor-dyn g (h.vtable, h.value)).answer h.value) ∙ len) in
    let complete : missing_host given.count (constructs_in p.main) ≡ None = subst (λ n. missing_host n (constructs_in p.main) ≡ None) count c.in-Ok.ensures.complete in
    let few : max_cells p < cell_count_of p (length c.args.input.now) → ⊥ = not_above (cell_count_of p (length c.args.input.now)) (max_cells p) c.in-Ok.ensures.few in
    answers_with (IsOnly (Simulates given c.args.seed p c.args.input.now)) (IsOnly (Drawn given.hosts (program_of made) made.input c.args.seed)) c.simulate_on.result c.simulate_on.ensures
    (λ a only. started_done (missing_host given.count (constructs_in p.main)) p c.args.input.now (Drawn given.hosts p c.args.input.now c.args.seed) a few complete
    (subst (λ (x : Program × List ℕ). IsOnly (Drawn given.hosts x.0 x.1 c.args.seed) a) (λ i. (c.in-Ok.ensures.program i, c.in-Ok.ensures.input i)) only))

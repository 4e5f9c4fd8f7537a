use Rattle.std.proofs.Common.{ℕ, List, subst}
use Rattle.std.proofs.lemmas.Result.{err_from_is_err_and}
use Rattle.spf_batch.specs.Batch.{max_input}
use Rattle.spf_cli_words.specs.Asked.{seen_decode_options}
use Rattle.spf_cli_answers.specs.Course.{Ends}
use Rattle.spf_cli_answers.specs.Following.{AnswersUnhuffing}
use Rattle.spf_cli_answers.specs.Whole.{Unhuffing, WithHuf1}
use Rattle.spf_cli_answers.proofs.Steps.{answers_fetch, answers_here, fetch_left}
use Rattle.spf_cli_answers.proofs.context.Context.unhuff_file.Goals as goal

pub returns-in_err-content : goal.returns-in_err-content
returns-in_err-content g c given =
    let q = err_from_is_err_and c.from_residual.result c.from_residual.ensures.1 in
    rw (q.1, q.2) (fetch_left c.args.input.now max_input (λ x. WithHuf1 x (Ends (Unhuffing (seen_decode_options c.args.options) x))) _ _ _ c.in_err-content.ensures.left)

pub returns : goal.returns
returns g c given =
    let old = g.F.Files.state c.args.files.now in
    let new = g.F.Files.state c.fetch.new.files in
    let o = seen_decode_options c.args.options in
    let content = c.in_ok-content.content.items in
    let rest = λ (x : List ℕ). WithHuf1 x (Ends (Unhuffing o x)) in
    answers_fetch c.args.input.now max_input rest content old new new c.unhuff.result c.in_ok-content.ensures.content
    (answers_here (rest content) new c.unhuff.result (subst (λ x. AnswersUnhuffing c.args.options x c.unhuff.result) c.deref.ensures.value c.unhuff.ensures))

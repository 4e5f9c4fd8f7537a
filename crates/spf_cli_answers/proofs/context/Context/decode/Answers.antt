use Rattle.std.proofs.Common.{[], subst}
use Rattle.spf_ast.specs.View.{program as seen_program}
use Rattle.spf_cli_words.specs.Asked.{seen_options}
use Rattle.spf_cli_words.specs.Only.{IsOnly}
use Rattle.spf_cli_answers.specs.Answering.{AnswersWith}
use Rattle.spf_cli_answers.specs.Whole.{Handed, handed, Runs}
use Rattle.spf_cli_answers.proofs.Decoders.{no_hosts}
use Rattle.spf_cli_answers.proofs.context.Context.decode.Goals as goal

pub returns : goal.returns
returns g c =
    let input = c.args.input.now in
    let P = λ (given : Handed). AnswersWith (IsOnly (Runs (seen_options c.run_options-options.result) given (seen_program c.in_ok-checked.checked) input)) c.run_by_blocks.result in
    let ran = no_hosts _ _ P c.new-hosts.ensures.items c.run_by_blocks.ensures.answer in
    subst (λ o. AnswersWith (IsOnly (Runs o (handed []) (seen_program c.args.program) input)) c.run_by_blocks.result) c.run_options-options.ensures
    (subst (λ p. AnswersWith (IsOnly (Runs (seen_options c.run_options-options.result) (handed []) (seen_program p) input)) c.run_by_blocks.result) c.in_ok-checked.ensures.same ran)

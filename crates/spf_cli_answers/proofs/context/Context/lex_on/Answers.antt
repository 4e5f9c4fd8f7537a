use Rattle.std.proofs.Common.{◌≡◌, ◌∙◌, ap, subst, ◌++◌}
use Rattle.std.proofs.lemmas.Result.{err_from_is_err_and}
use Rattle.spf_apps_programs.specs.Lexer.{lexer_program}
use Rattle.spf_cli_words.specs.Asked.{seen_decode_options}
use Rattle.spf_cli_words.specs.Only.{IsOnly}
use Rattle.spf_cli_answers.specs.Answering.{AnswersWith}
use Rattle.spf_cli_answers.specs.Course.{Ends}
use Rattle.spf_cli_answers.specs.Decoded.{Tokenized}
use Rattle.spf_batch.specs.Batch.{max_input}
use Rattle.spf_cli_answers.specs.Whole.{Decodes, Lexing, block_of}
use Rattle.spf_cli_answers.proofs.Steps.{answers_with, answers_fetch, fetch_left, answers_end}
use Rattle.spf_cli_answers.proofs.Meanings.{both}
use Rattle.spf_cli_answers.proofs.context.Context.lex_on.Goals as goal

pub returns-in_err-content : goal.returns-in_err-content
returns-in_err-content g c =
    let q = err_from_is_err_and c.from_residual.result c.from_residual.ensures.1 in
    rw (q.1, q.2) (fetch_left c.args.input.now max_input (λ x. Ends (Lexing (seen_decode_options c.args.options) c.args.machine.now c.args.states c.args.classes x)) _ _ _ c.in_err-content.ensures.left)

pub returns : goal.returns
returns g c =
    let old = g.F.Files.state c.args.files.now in
    let new = g.F.Files.state c.fetch.new.files in
    let o = seen_decode_options c.args.options in
    let machine = c.args.machine.now in
    let content = c.in_ok-content.content.items in
    let p = lexer_program (block_of o) c.args.states c.args.classes in
    let joined : c.deref-2.result.now ≡ machine ++ content = c.deref-2.ensures.value ∙ c.in_ok-joined.ensures.joined ∙ ap (λ x. machine ++ x) c.deref.ensures.value in
    let said : AnswersWith (IsOnly (Decodes o p (machine ++ content))) c.decode.result =
    subst (λ x. AnswersWith (IsOnly (Decodes o p x)) c.decode.result) joined
    (subst (λ q. AnswersWith (IsOnly (Decodes o q c.deref-2.result.now)) c.decode.result) (c.in_ok-program.ensures.program ∙ ap (λ size. lexer_program size c.args.states c.args.classes) c.block_size.ensures.size) c.decode.ensures) in
    answers_fetch c.args.input.now max_input (λ x. Ends (Lexing o machine c.args.states c.args.classes x)) content old new new c.decode.result c.in_ok-content.ensures.content
    (answers_end (Lexing o machine c.args.states c.args.classes content) new c.decode.result
    (answers_with (IsOnly (Lexing o machine c.args.states c.args.classes content)) (IsOnly (Decodes o p (machine ++ content))) c.decode.result said (λ a r.
    both (Decodes o p (machine ++ content)) (Tokenized (block_of o) machine content) a
    (λ b. c.decoders_keep_their_formats.ensures.tokenized o c.args.states c.args.classes machine content b c.requires.lex1) r)))

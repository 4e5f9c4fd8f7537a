use Rattle.std.proofs.Common.{◌∙◌, ap, subst}
use Rattle.std.proofs.lemmas.Result.{err_from_is_err_and}
use Rattle.spf_apps_programs.specs.PackBits.{packbits_program}
use Rattle.spf_cli_words.specs.Asked.{seen_decode_options}
use Rattle.spf_cli_words.specs.Only.{IsOnly}
use Rattle.spf_cli_answers.specs.Answering.{AnswersWith}
use Rattle.spf_cli_answers.specs.Course.{Ends}
use Rattle.spf_cli_answers.specs.Decoded.{Unpacked}
use Rattle.spf_batch.specs.Batch.{max_input}
use Rattle.spf_cli_answers.specs.Whole.{Decodes, Unpacking, block_of}
use Rattle.spf_cli_answers.proofs.Steps.{answers_with, answers_fetch, fetch_left, answers_end}
use Rattle.spf_cli_answers.proofs.Meanings.{both}
use Rattle.spf_cli_answers.proofs.context.Context.unpack_file.Goals as goal

pub returns-in_err-content : goal.returns-in_err-content
returns-in_err-content g c given =
    let q = err_from_is_err_and c.from_residual.result c.from_residual.ensures.1 in
    rw (q.1, q.2) (fetch_left c.args.input.now max_input (λ content. Ends (Unpacking (seen_decode_options c.args.options) content)) _ _ _ c.in_err-content.ensures.left)

pub returns : goal.returns
returns g c given =
    let old = g.F.Files.state c.args.files.now in
    let new = g.F.Files.state c.fetch.new.files in
    let o = seen_decode_options c.args.options in
    let content = c.in_ok-content.content.items in
    let p = packbits_program (block_of o) in
    let said : AnswersWith (IsOnly (Decodes o p content)) c.decode.result =
    subst (λ x. AnswersWith (IsOnly (Decodes o p x)) c.decode.result) c.deref.ensures.value
    (subst (λ q. AnswersWith (IsOnly (Decodes o q c.deref.result.now)) c.decode.result) (c.in_ok-program.ensures.program ∙ ap packbits_program c.block_size.ensures.size) c.decode.ensures) in
    answers_fetch c.args.input.now max_input (λ x. Ends (Unpacking o x)) content old new new c.decode.result c.in_ok-content.ensures.content
    (answers_end (Unpacking o content) new c.decode.result
    (answers_with (IsOnly (Unpacking o content)) (IsOnly (Decodes o p content)) c.decode.result said (λ a r.
    both (Decodes o p content) (Unpacked (block_of o) content) a (c.decoders_keep_their_formats.ensures.unpacked o content) r)))

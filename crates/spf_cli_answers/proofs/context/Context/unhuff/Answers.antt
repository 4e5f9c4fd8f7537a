use Rattle.std.proofs.Common.{◌∙◌, [], ap, subst}
use Rattle.spf_apps_formats.specs.Huf1.{IsHuf1}
use Rattle.spf_apps_programs.specs.Huffman.{huffman_program}
use Rattle.spf_cli_words.specs.Asked.{seen_decode_options}
use Rattle.spf_cli_words.specs.Only.{IsOnly}
use Rattle.spf_cli_answers.specs.Answering.{seen_answer, AnswersWith}
use Rattle.spf_cli_answers.specs.Course.{Ends}
use Rattle.spf_cli_answers.specs.Decoded.{Unhuffed}
use Rattle.spf_cli_answers.specs.Whole.{Decodes, Unhuffing, WithHuf1, block_of}
use Rattle.spf_cli_answers.proofs.Steps.{answers_with}
use Rattle.spf_cli_answers.proofs.Decoders.{only_huf1, only_no_huf1}
use Rattle.spf_cli_answers.proofs.Meanings.{both}
use Rattle.spf_cli_answers.proofs.context.Context.unhuff.Goals as goal

pub returns-in-Err : goal.returns-in-Err
returns-in-Err g c =
    let file = c.args.file.now in
    only_no_huf1 c.files_have_one_verdict.ensures.huf1 file (Ends (Unhuffing (seen_decode_options c.args.options) file)) c.in-Err.offset (seen_answer c.in_ok-not_huf1.field-0) c.in-Err.ensures c.in_ok-not_huf1.ensures

pub returns : goal.returns
returns g c =
    let o = seen_decode_options c.args.options in
    let file = c.args.file.now in
    let p = huffman_program (block_of o) in
    let is : IsHuf1 file = c.in_default.ensures in
    let said : AnswersWith (IsOnly (Decodes o p file)) c.decode.result =
    subst (λ q. AnswersWith (IsOnly (Decodes o q file)) c.decode.result) (c.in_ok-program.ensures.program ∙ ap huffman_program c.block_size.ensures.size) c.decode.ensures in
    answers_with (IsOnly (WithHuf1 file (Ends (Unhuffing o file)) [])) (IsOnly (Decodes o p file)) c.decode.result said (λ a r.
    only_huf1 c.files_have_one_verdict.ensures.huf1 file (Ends (Unhuffing o file)) a [] is
    (both (Decodes o p file) (Unhuffed (block_of o) file) a (λ b. c.decoders_keep_their_formats.ensures.unhuffed o file b is) r))

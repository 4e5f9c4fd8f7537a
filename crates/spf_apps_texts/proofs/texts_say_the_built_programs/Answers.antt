use Rattle.spf_apps_programs.specs.PackBits.{packbits_program}
use Rattle.spf_apps_programs.specs.Huffman.{huffman_program}
use Rattle.spf_apps_programs.specs.Lexer.{lexer_program}
use Rattle.spf_apps_texts.specs.Texts.{packbits_text, huffman_text, lexer_text}
use Rattle.spf_apps_texts.proofs.Said.{is_text}
use Rattle.spf_apps_texts.proofs.texts_say_the_built_programs.Goals as goal

pub returns-clause-packbits : goal.returns-clause-packbits
returns-clause-packbits c =
    λ size h. is_text (packbits_program size) (packbits_text size) (c.built_programs_are_their_texts.ensures.packbits size h.0) (c.programs_are_lawful.ensures.packbits size h).scoped c.printed_programs_read_back.ensures.text c.texts_determine_their_programs.ensures.reader

pub returns-clause-huffman : goal.returns-clause-huffman
returns-clause-huffman c =
    λ size h. is_text (huffman_program size) (huffman_text size) (c.built_programs_are_their_texts.ensures.huffman size h.0) (c.programs_are_lawful.ensures.huffman size h).scoped c.printed_programs_read_back.ensures.text c.texts_determine_their_programs.ensures.reader

pub returns-clause-lexer : goal.returns-clause-lexer
returns-clause-lexer c =
    λ size states classes h s k. is_text (lexer_program size states classes) (lexer_text size states classes) (c.built_programs_are_their_texts.ensures.lexer size states classes h.0) (c.programs_are_lawful.ensures.lexer size states classes h s k).scoped c.printed_programs_read_back.ensures.text c.texts_determine_their_programs.ensures.reader

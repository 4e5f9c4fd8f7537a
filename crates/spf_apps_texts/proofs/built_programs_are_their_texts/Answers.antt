use Rattle.spf_apps_programs.specs.Lexer.{machine_length}
use Rattle.spf_apps_texts.proofs.PackBitsText.{packbits_is_its_text}
use Rattle.spf_apps_texts.proofs.HuffmanText.{huffman_is_its_text}
use Rattle.spf_apps_texts.proofs.LexerText.{lexer_is_its_text}
use Rattle.spf_apps_texts.proofs.built_programs_are_their_texts.Goals as goal

pub returns-clause-packbits : goal.returns-clause-packbits
returns-clause-packbits c = packbits_is_its_text

pub returns-clause-huffman : goal.returns-clause-huffman
returns-clause-huffman c = huffman_is_its_text

pub returns-clause-lexer : goal.returns-clause-lexer
returns-clause-lexer c = λ size states classes. lexer_is_its_text size classes (machine_length states classes)

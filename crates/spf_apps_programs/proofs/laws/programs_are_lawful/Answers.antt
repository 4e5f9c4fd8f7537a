use Rattle.spf_apps_programs.proofs.Programs.{packbits_lawful, huffman_lawful, lexer_lawful}
use Rattle.spf_apps_programs.proofs.laws.programs_are_lawful.Goals as goal

pub returns-clause-packbits : goal.returns-clause-packbits
returns-clause-packbits c = packbits_lawful

pub returns-clause-huffman : goal.returns-clause-huffman
returns-clause-huffman c = huffman_lawful

pub returns-clause-lexer : goal.returns-clause-lexer
returns-clause-lexer c = lexer_lawful

use Rattle.spf_apps.proofs.AcceptedPackBits.{packbits_accepted}
use Rattle.spf_apps.proofs.AcceptedHuffman.{huffman_accepted}
use Rattle.spf_apps.proofs.AcceptedLexer.{lexer_accepted}
use Rattle.spf_apps.proofs.laws.decoders_are_accepted.Goals as goal

pub returns-clause-packbits : goal.returns-clause-packbits
returns-clause-packbits c = packbits_accepted

pub returns-clause-huffman : goal.returns-clause-huffman
returns-clause-huffman c = huffman_accepted

pub returns-clause-lexer : goal.returns-clause-lexer
returns-clause-lexer c = lexer_accepted

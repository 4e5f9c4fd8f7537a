use Rattle.spf_cli_answers.proofs.Meanings.{packbits_means, huffman_means, lexer_means}
use Rattle.spf_cli_answers.proofs.laws.decoders_keep_their_formats.Goals as goal

pub returns : goal.returns
returns c = record {
  unpacked = packbits_means c.packbits_files_are_cut_once.ensures c.packbits_unpacks.ensures c.packbits_stops.ensures;
  unhuffed = huffman_means c.huf1_files_are_decoded_once.ensures c.huffman_decodes.ensures;
  tokenized = lexer_means c.lexer_finds_tokens.ensures;
}

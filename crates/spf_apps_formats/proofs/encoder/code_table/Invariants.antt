use Rattle.std.proofs.Common.{◌≡◌, map}
use Rattle.std.specs.List.{range_with_len}
use Rattle.spf_apps_formats.specs.Huffman.{word_number}
use Rattle.spf_apps_formats.proofs.encoder.code_table.Given as goal

abbrev pub invariant-loop-symbol : goal.invariant-loop-symbol
invariant-loop-symbol l = l.words.items ≡ map (word_number l.lengths) (range_with_len 0 l.symbol)

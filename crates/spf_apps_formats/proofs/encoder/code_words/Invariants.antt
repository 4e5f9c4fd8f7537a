use Rattle.std.proofs.Common.{◌≡◌, take}
use Rattle.spf_apps_formats.specs.Huffman.{code_words}
use Rattle.spf_apps_formats.specs.Written.{written}
use Rattle.spf_apps_formats.proofs.encoder.code_words.Given as goal

abbrev pub invariant-loop-symbol : goal.invariant-loop-symbol
invariant-loop-symbol l = written l.writer ≡ code_words l.lengths (take l.symbol-index l.symbols)

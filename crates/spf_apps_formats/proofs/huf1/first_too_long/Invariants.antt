use Rattle.spf_apps_formats.specs.Huffman.{AreShort}
use Rattle.spf_apps_formats.proofs.huf1.first_too_long.Given as goal

abbrev pub invariant-loop-symbol : goal.invariant-loop-symbol
invariant-loop-symbol l = AreShort l.symbol l.lengths

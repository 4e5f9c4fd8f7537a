use Rattle.spf_apps_formats.specs.Huffman.{HaveWords}
use Rattle.spf_apps_formats.proofs.encoder.first_without_word.Given as goal

abbrev pub invariant-loop-index : goal.invariant-loop-index
invariant-loop-index l = HaveWords l.lengths l.index l.symbols

use Rattle.std.proofs.Common.{◌≡◌, ◌++◌, map, take}
use Rattle.spf_cells.specs.Spans.{cells_of, entry_word}
use Rattle.spf_cells.proofs.make.push_block.Given as goal

abbrev pub invariant-loop-span : goal.invariant-loop-span
invariant-loop-span l = l.words.items ≡ l.fn.words.items ++ map (entry_word l.entry) (cells_of (take l.span-index l.spans))

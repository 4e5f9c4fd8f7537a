use Rattle.std.proofs.Common.{◌≡◌, ◌++◌, map, take, replicate, length}
use Rattle.spf_cells.specs.Spans.{cells_of_plan, entry_word}
use Rattle.spf_cells.specs.Made.{spans_in}
use Rattle.spf_cells.proofs.make.words_of.Given as goal

abbrev pub invariant-loop-spans : goal.invariant-loop-spans
invariant-loop-spans l = l.words.items ≡ replicate (length (spans_in l.plan)) 0 ++ map (entry_word l.entry) (cells_of_plan (take l.spans-index (spans_in l.plan)))

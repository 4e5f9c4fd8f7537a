use Rattle.std.proofs.Common.{◌≡◌, length, take}
use Rattle.spf_cells.specs.Spans.{cells_of}
use Rattle.spf_cells.proofs.make.size_of_spans.Given as goal

abbrev pub invariant-loop-span : goal.invariant-loop-span
invariant-loop-span l = l.size ≡ length (cells_of (take l.span-index l.spans))

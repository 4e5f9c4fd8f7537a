use Rattle.std.proofs.Common.{◌≡◌, ◌+◌, length, take}
use Rattle.spf_cells.specs.Spans.{cells_of}
use Rattle.spf_cells.proofs.Segments.{AreUnsortedOf}
use Rattle.spf_cells.proofs.segment.segments_of.Given as goal

abbrev pub invariant-loop-span : goal.invariant-loop-span
invariant-loop-span l = record {
  are : AreUnsortedOf l.segments.items (cells_of (take l.span-index l.spans)) l.fn.first;
  word : l.word ≡ l.fn.first + length (cells_of (take l.span-index l.spans));
}

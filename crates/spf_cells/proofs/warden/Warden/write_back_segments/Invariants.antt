use Rattle.std.proofs.Common.{◌≡◌, take}
use Rattle.spf_cells.specs.Spans.{cells_of}
use Rattle.spf_cells.specs.Values.{content_at}
use Rattle.spf_cells.specs.Finish.{write_back}
use Rattle.spf_cells.proofs.Finished.{spans_of_segments}
use Rattle.spf_cells.proofs.warden.Warden.write_back_segments.Given as goal

abbrev pub invariant-loop-segment : goal.invariant-loop-segment
invariant-loop-segment l = record {
  same : l.self ≡ l.fn.self;
  into : l.into ≡ write_back (content_at l.lane.value) (cells_of (take l.segment-index (spans_of_segments l.segments))) l.fn.into;
}

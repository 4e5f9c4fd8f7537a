use Rattle.std.proofs.Common.{◌≡◌, ◌-◌, ◌≤◌}
use Rattle.spf_cells.specs.Spans.{consecutive}
use Rattle.spf_cells.specs.Values.{content_at}
use Rattle.spf_cells.specs.Finish.{write_back}
use Rattle.spf_cells.proofs.warden.Warden.write_back_span.Given as goal

abbrev pub invariant-loop-cell : goal.invariant-loop-cell
invariant-loop-cell l = record {
  same : l.self ≡ l.fn.self;
  into : l.into ≡ write_back (content_at l.lane.value) (consecutive l.fn.span.from (l.cell - l.fn.span.from)) l.fn.into;
  empty : l.fn.span.to ≤ l.fn.span.from → l.cell ≡ l.fn.span.from;
}

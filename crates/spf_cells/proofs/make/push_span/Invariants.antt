use Rattle.std.proofs.Common.{◌≡◌, ◌-◌, ◌≤◌, ◌++◌, map}
use Rattle.spf_cells.specs.Spans.{consecutive, entry_word}
use Rattle.spf_cells.proofs.make.push_span.Given as goal

abbrev pub invariant-loop-cell : goal.invariant-loop-cell
invariant-loop-cell l = (l.words.items ≡ l.fn.words.items ++ map (entry_word l.entry) (consecutive l.fn.span.from (l.cell - l.fn.span.from))) × (l.fn.span.to ≤ l.fn.span.from → l.cell ≡ l.fn.span.from)

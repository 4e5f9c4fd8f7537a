use Rattle.std.proofs.Common.{◌≡◌, ◌<◌, ◌≤◌, ℕ, length}
use Rattle.std.specs.Prelude.{◌&&◌, nat_le, nat_lt, if◌then◌else◌}
use Rattle.spf_ast.specs.Event.{word_at}
use Rattle.spf_replay.proofs.copying.copy_span.Given as goal

abbrev pub invariant-loop-cell : goal.invariant-loop-cell
invariant-loop-cell l = record {
  size : length l.to ≡ length l.from;
  top : l.fn.span.from < l.cell → l.cell ≤ l.fn.span.to;
  words : (d : ℕ) → word_at l.to d ≡ (if (nat_le l.fn.span.from d && nat_lt d l.cell) then word_at l.from d else word_at l.fn.to d);
}

use Rattle.std.proofs.Common.{◌≡◌, ℕ, length, drop}
use Rattle.std.specs.Prelude.{if◌then◌else◌}
use Rattle.spf_ast.specs.Event.{word_at}
use Rattle.spf_region.specs.Cells.{in_spans}
use Rattle.spf_replay.proofs.copying.copy_spans.Given as goal

abbrev pub invariant-loop-span : goal.invariant-loop-span
invariant-loop-span l = record {
  size : length l.to ≡ length l.from;
  left : (d : ℕ) → (if in_spans (drop l.span-index l.spans) d then word_at l.from d else word_at l.to d) ≡ (if in_spans l.spans d then word_at l.from d else word_at l.fn.to d);
}

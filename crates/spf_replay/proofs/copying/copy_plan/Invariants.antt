use Rattle.std.proofs.Common.{◌≡◌, ℕ, length, drop, map}
use Rattle.std.specs.Prelude.{if◌then◌else◌}
use Rattle.spf_ast.specs.Event.{word_at}
use Rattle.spf_replay.specs.Copying.{in_plan}
use Rattle.spf_replay.proofs.copying.copy_plan.Given as goal

abbrev pub invariant-loop-spans : goal.invariant-loop-spans
invariant-loop-spans l = record {
  size : length l.to ≡ length l.from;
  left : (d : ℕ) → (if in_plan (drop l.spans-index (map (λ v. v.items) l.plan.blocks.items)) d then word_at l.from d else word_at l.to d) ≡ (if in_plan (map (λ v. v.items) l.plan.blocks.items) d then word_at l.from d else word_at l.fn.to d);
}

use Rattle.std.proofs.Common.{map}
use Rattle.spf_check.specs.Writing.{AreListed}
use Rattle.spf_check.proofs.plan.spans_of.Given as goal

-- the spans of the blocks before this one
abbrev pub invariant-loop-block : goal.invariant-loop-block
invariant-loop-block l = record {
  listed : AreListed l.writes l.extents l.low l.block (map (λ spans. spans.items) l.plan.items);
}

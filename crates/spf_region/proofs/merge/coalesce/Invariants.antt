use Rattle.std.proofs.Common.{◌≡◌, ◌++◌, drop}
use Rattle.spf_region.specs.Merging.{coalesced, coalesced_after}
use Rattle.spf_region.proofs.merge.coalesce.Given as goal

-- the ranges so far, and what becomes of the pending one and those to come
abbrev pub invariant-loop-range : goal.invariant-loop-range
invariant-loop-range l = l.joined.items ++ coalesced_after l.pending (drop l.range-index l.rest) ≡ coalesced l.fn.ranges

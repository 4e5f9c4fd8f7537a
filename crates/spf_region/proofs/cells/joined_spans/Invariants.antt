use Rattle.std.proofs.Common.{◌≡◌, ◌++◌, drop}
use Rattle.spf_region.specs.Joining.{joined_spans, joined_after}
use Rattle.spf_region.proofs.cells.joined_spans.Given as goal

-- the spans so far, and what becomes of the pending one and those to come
abbrev pub invariant-loop-span : goal.invariant-loop-span
invariant-loop-span l = l.joined.items ++ joined_after l.pending (drop l.span-index l.rest) ≡ joined_spans l.fn.sorted

use Rattle.std.proofs.Common.{◌≡◌, ◌++◌, ◌+◌, ◌-◌, ◌≤◌, drop, length}
use Rattle.spf_region.specs.Merging.{interleaved}
use Rattle.spf_region.proofs.merge.interleave.Given as goal

-- the ranges so far, and those to come of both
abbrev pub invariant-loop-i : goal.invariant-loop-i
invariant-loop-i l = record {
  left : l.i ≤ length l.left;
  right : l.j ≤ length l.right;
  all : l.all.items ++ interleaved (drop l.i l.left) (drop l.j l.right) ≡ interleaved l.left l.right;
}

abbrev pub decreases-loop-i : goal.decreases-loop-i
decreases-loop-i l = (length l.left - l.i) + (length l.right - l.j)

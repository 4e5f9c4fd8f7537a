use Rattle.std.proofs.Common.{◌≡◌, ◌≤◌, ◌-◌, length, map, take}
use Rattle.spf_pool.specs.Made.{as_guest}
use Rattle.spf_pool.proofs.pool.row.Given as goal

abbrev pub invariant-loop-index : goal.invariant-loop-index
invariant-loop-index g l = record {
  same : l.owners ≡ l.fn.owners;
  ends : l.ends.items ≡ map as_guest (take l.index l.owners);
  index : l.index ≤ length l.owners;
}

abbrev pub decreases-loop-index : goal.decreases-loop-index
decreases-loop-index g l = length l.owners - l.index

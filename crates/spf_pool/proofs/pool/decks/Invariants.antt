use Rattle.std.proofs.Common.{◌≡◌, true, take}
use Rattle.spf_pool.specs.Made.{AreNewEnds, capacities_of}
use Rattle.spf_pool.proofs.pool.decks.Given as goal

-- a deck for each capacity so far
abbrev pub invariant-loop-capacity : goal.invariant-loop-capacity
invariant-loop-capacity g l = (capacities_of l.owners.items ≡ take l.capacity-index l.capacities) × AreNewEnds l.key.value true l.owners.items

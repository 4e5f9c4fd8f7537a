use Rattle.std.proofs.Common.{◌≡◌, ◌++◌, length}
use Rattle.spf_chain.specs.Beginning.{AreFirstTickets}
use Rattle.spf_chain.proofs.start.tickets_of.Given as goal

-- the tickets of the lanes so far
abbrev pub invariant-loop-lane : goal.invariant-loop-lane
invariant-loop-lane l = record {
  can : (goal.iterator-loop-lane).can_next l.lane-iterator;
  ends : (goal.iterator-loop-lane).is_finite l.lane-iterator;
  left : l.initial.lane-iterator.rest.items ≡ l.yielded ++ l.lane-iterator.rest.items;
  len : l.lane-iterator.rest.len ≡ length l.lane-iterator.rest.items;
  made : AreFirstTickets l.cells l.low l.blocks l.frame (length l.yielded) l.tickets.items;
}

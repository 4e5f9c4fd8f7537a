use Rattle.std.proofs.Common.{◌≡◌, ◌<◌, ◌++◌, length, get_or}
use Rattle.spf_crew.proofs.make.give_all.Given as goal

-- the tickets so far were given
abbrev pub invariant-loop-ticket : goal.invariant-loop-ticket
invariant-loop-ticket l = record {
  can : (goal.iterator-loop-ticket).can_next l.ticket-iterator;
  ends : (goal.iterator-loop-ticket).is_finite l.ticket-iterator;
  left : l.initial.ticket-iterator.rest.items ≡ l.yielded ++ l.ticket-iterator.rest.items;
  len : l.ticket-iterator.rest.len ≡ length l.ticket-iterator.rest.items;
  key : l.hand.key ≡ l.fn.hand.key;
  capacity : l.hand.capacity ≡ l.fn.hand.capacity;
  own : l.hand.own < length l.hand.given;
  given : get_or l.hand.given l.hand.own 0 ≡ length l.yielded;
}

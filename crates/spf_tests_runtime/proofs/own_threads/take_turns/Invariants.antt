use Rattle.std.proofs.Common.{◌≡◌}
use Rattle.spf_crew.specs.Mates.{IsMateOf}
use Rattle.spf_tests_runtime.proofs.own_threads.take_turns.Given as goal

-- the mate is still of this crew, with its numbers
abbrev pub invariant-loop : goal.invariant-loop
invariant-loop g l = record {
  can : (goal.iterator-loop g).can_next l.iterator';
  ends : (goal.iterator-loop g).is_finite l.iterator';
  of : IsMateOf l.crew l.mate;
  from : l.mate.seat.from ≡ l.fn.mate.seat.from;
  to : l.mate.seat.to ≡ l.fn.mate.seat.to;
}

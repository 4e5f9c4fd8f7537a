use Rattle.std.proofs.Common.{◌≡◌, ◌+◌, ◌<◌, length}
use Rattle.spf_crew.specs.Crews.{AreFirstMates, AreDealt, AreNewMates}
use Rattle.spf_crew.specs.Mates.{new_seat}
use Rattle.spf_crew.proofs.mates.enlist_all.Given as goal

-- the mates so far, and a hand for each of those left
abbrev pub invariant-loop-hands : goal.invariant-loop-hands
invariant-loop-hands l = record {
  rest : l.rest ≡ new_seat l.crew (length l.mates.items);
  mates : AreFirstMates l.crew l.mates.items;
  fresh : AreNewMates l.tickets l.mates.items;
  hands : AreDealt l.crew.setting l.tickets (length l.mates.items) l.hands.items;
  count : length l.mates.items + length l.hands.items ≡ l.crew.setting.mates;
  some : 0 < length l.hands.items;
}

abbrev pub decreases-loop-hands : goal.decreases-loop-hands
decreases-loop-hands l = length l.hands.items

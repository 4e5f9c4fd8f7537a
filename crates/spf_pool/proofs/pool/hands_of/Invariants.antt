use Rattle.std.proofs.Common.{◌≡◌, ◌+◌, ◌++◌, ℕ, length, get_or}
use mathlib.Core.Option.{some}
use lib.ListN.{get_elem?}
use Rattle.spf_pool.specs.Hands.{HandValue}
use Rattle.spf_pool.specs.Made.{AreRows, new_hand, capacities_of}
use Rattle.spf_pool.proofs.Hands.{deques_of}
use Rattle.spf_pool.proofs.pool.hands_of.Given as goal

-- the hands of the own ends so far, and a row for each of those left
abbrev pub invariant-loop-owner : goal.invariant-loop-owner
invariant-loop-owner g l = record {
  can : (goal.iterator-loop-owner g).can_next l.owner-iterator;
  ends : (goal.iterator-loop-owner g).is_finite l.owner-iterator;
  left : l.initial.owner-iterator.rest.items ≡ l.yielded ++ l.owner-iterator.rest.items;
  len : l.owner-iterator.rest.len ≡ length l.owner-iterator.rest.items;
  rows : AreRows l.fn.owners.items l.rows.items;
  count : length l.rows.items + length l.yielded ≡ length l.fn.owners.items;
  made : length l.hands.items ≡ length l.yielded;
  hands : (i : ℕ) (h : HandValue g.row.K.Denot) → get_elem? l.hands.items i ≡ some h → h ≡ new_hand l.key.value (get_or (capacities_of l.fn.owners.items) i 0) (deques_of l.fn.owners.items) i;
}

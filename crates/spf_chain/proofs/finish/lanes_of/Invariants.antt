use Rattle.std.proofs.Common.{◌≡◌, ◌≤◌, ℕ, take, length, slice_get}
use Rattle.spf_chain.specs.Finishing.{lanes_in}
use Rattle.spf_chain.proofs.finish.lanes_of.Given as goal

-- the lanes of the indices so far; the others are as they were
abbrev pub invariant-loop-index : goal.invariant-loop-index
invariant-loop-index l = record {
  lanes : l.lanes.items ≡ lanes_in (take l.index l.initial.homes.items);
  room : length l.initial.homes.items ≤ l.lanes.cap;
  few : l.lanes.len ≤ l.index;
  size : length l.homes.items ≡ length l.initial.homes.items;
  rest : (n : ℕ) → l.index ≤ n → slice_get l.homes.items n ≡ slice_get l.initial.homes.items n;
}

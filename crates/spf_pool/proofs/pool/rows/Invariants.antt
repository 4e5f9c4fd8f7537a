use Rattle.std.proofs.Common.{◌≡◌, length}
use Rattle.spf_pool.specs.Made.{AreRows}
use Rattle.spf_pool.proofs.pool.rows.Given as goal

abbrev pub invariant-loop : goal.invariant-loop
invariant-loop g l = record {
  same : l.owners ≡ l.fn.owners;
  count : length l.rows.items ≡ l.counter;
  rows : AreRows l.fn.owners l.rows.items;
}

use Rattle.spf_pool.specs.Counter.{ledger_of}
use Rattle.spf_pool.specs.Deque.{tag_of}
use Rattle.spf_pool.proofs.pool.tag_for.Given as goal

abbrev pub ghost-tag_key : goal.ghost-tag_key
ghost-tag_key g a = tag_of a.key.now.value (ledger_of a.counter.now)

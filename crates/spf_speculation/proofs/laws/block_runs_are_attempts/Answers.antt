use Rattle.std.proofs.Common.{refl}
use Rattle.std.specs.Prelude.{Some}
use Rattle.spf_speculation_entry.specs.Entry.{own, asks_at}
use Rattle.spf_speculation_entry.specs.Attempts.{attempted}
use Rattle.spf_speculation.proofs.Kept.{kept, unstopped}
use Rattle.spf_speculation.proofs.laws.block_runs_are_attempts.Goals as goal

pub returns-clause-runs : goal.returns-clause-runs
returns-clause-runs c e n v attempt events result is whole others = kept (own e n) e.memory (Some attempt) (asks_at e n v) events result is whole others

pub returns-clause-unstopped : goal.returns-clause-unstopped
returns-clause-unstopped c e n v attempt log is low = unstopped (own e n) e.memory attempt (asks_at e n v) log (attempted e n v attempt log) refl is low

use Rattle.std.proofs.Common.{◌≡◌, ◌-◌, true}
use Rattle.spf_replay.specs.Entered.{entry_of}
use Rattle.spf_replay.specs.Runners.{with_record_of, IsRunner, IsScratch}
use Rattle.spf_replay.proofs.scratch.extend_record.Given as goal

abbrev pub invariant-loop-alloc : goal.invariant-loop-alloc
invariant-loop-alloc l = record {
  runner : IsRunner (entry_of l.entered) l.n l.runner;
  same : l.runner ≡ with_record_of l.runner l.fn.runner;
  full : l.runner.full ≡ true → l.runner.count ≡ l.size;
  scratch : IsScratch l.entered l.scratch;
}

abbrev pub decreases-loop-alloc : goal.decreases-loop-alloc
decreases-loop-alloc l = l.largest - l.size

use Rattle.std.proofs.Common.{◌≡◌}
use Rattle.spf_speculation_entry.specs.Entry.{Entry}
use Rattle.spf_replay.specs.Runners.{AreBlocksOf}
use Rattle.spf_replay.specs.Schedule.{Situation, running_blocks}
use Rattle.spf_replay.proofs.filing.running_of.Given as goal

abbrev pub invariant-loop-n : goal.invariant-loop-n
invariant-loop-n l = (e : Entry) (s : Situation) → AreBlocksOf e s l.runners → l.running.items ≡ running_blocks s.status l.n

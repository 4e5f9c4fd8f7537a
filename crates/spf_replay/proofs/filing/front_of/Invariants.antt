use Rattle.std.proofs.Common.{◌≡◌, ◌+◌, ◌-◌}
use Rattle.spf_replay.specs.Entered.{entry_of}
use Rattle.spf_replay.specs.Runners.{AreBlocksOf}
use Rattle.spf_replay.specs.Schedule.{Situation, is_valid_in, leading, front}
use Rattle.spf_replay.proofs.filing.front_of.Given as goal

abbrev pub invariant-loop-n : goal.invariant-loop-n
invariant-loop-n l = (s : Situation) → AreBlocksOf (entry_of l.entered) s l.runners
    → l.n + leading (is_valid_in (entry_of l.entered) s.status) l.n ((entry_of l.entered).header.blocks - l.n) ≡ front (entry_of l.entered) s.status

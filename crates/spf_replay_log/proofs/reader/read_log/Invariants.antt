use Rattle.std.proofs.Common.{◌≡◌, ◌≤◌, ◌-◌, ◌++◌, length, drop}
use Rattle.std.specs.List.{All}
use Rattle.spf_replay_log.specs.Log.{log_bytes, sections_of, IsSection}
use Rattle.spf_replay_log.proofs.reader.read_log.Given as goal

abbrev pub invariant-loop-at : goal.invariant-loop-at
invariant-loop-at l = record {
  steps : All IsSection (sections_of l.log.items);
  inside : l.at ≤ length l.bytes;
  read : l.bytes ≡ log_bytes (sections_of l.log.items) ++ drop l.at l.bytes;
}

abbrev pub decreases-loop-at : goal.decreases-loop-at
decreases-loop-at l = length l.bytes - l.at

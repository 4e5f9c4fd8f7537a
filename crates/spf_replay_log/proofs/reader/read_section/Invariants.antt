use Rattle.std.proofs.Common.{◌≡◌, ◌≤◌, ◌+◌, ◌*◌, ◌++◌, length, drop}
use Rattle.std.specs.List.{flat_map}
use Rattle.std.specs.Int.{w64, to_be_bytes}
use Rattle.spf_replay_log.specs.Log.{step_bytes, AreSteps}
use Rattle.spf_replay_log.proofs.reader.read_section.Given as goal

abbrev pub invariant-loop-index : goal.invariant-loop-index
invariant-loop-index l = record {
  steps : AreSteps l.steps.items;
  size : length l.steps.items ≡ l.index;
  inside : l.at + 8 + 19 * l.index ≤ length l.bytes;
  read : drop l.at l.bytes ≡ to_be_bytes w64 l.count ++ (flat_map step_bytes l.steps.items ++ drop (l.at + 8 + 19 * l.index) l.bytes);
}

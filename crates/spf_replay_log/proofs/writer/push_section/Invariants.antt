use Rattle.std.proofs.Common.{◌≡◌, ◌++◌, length, take}
use Rattle.std.specs.List.{flat_map}
use Rattle.std.specs.Int.{w64, to_be_bytes}
use Rattle.spf_replay_log.specs.Log.{step_bytes, AreSteps}
use Rattle.spf_replay_log.proofs.writer.push_section.Given as goal

abbrev pub invariant-loop-step : goal.invariant-loop-step
invariant-loop-step l = record {
  bytes : l.bytes.items ≡ (l.fn.bytes.items ++ to_be_bytes w64 (length l.section)) ++ flat_map step_bytes (take l.step-index l.section);
  is : AreSteps (take l.step-index l.section);
}

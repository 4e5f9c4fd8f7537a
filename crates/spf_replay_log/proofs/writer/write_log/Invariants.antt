use Rattle.std.proofs.Common.{◌≡◌, ◌++◌, take}
use Rattle.std.specs.List.{All, flat_map}
use Rattle.spf_replay_log.specs.Log.{section_bytes, sections_of, signature, IsSection}
use Rattle.spf_replay_log.proofs.writer.write_log.Given as goal

abbrev pub invariant-loop-section : goal.invariant-loop-section
invariant-loop-section l = record {
  bytes : l.bytes.items ≡ signature ++ flat_map section_bytes (sections_of (take l.section-index l.log));
  is : All IsSection (sections_of (take l.section-index l.log));
}

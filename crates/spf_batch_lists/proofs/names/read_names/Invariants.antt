use Rattle.std.proofs.Common.{◌≡◌, ◌≤◌, ◌++◌, length, map}
use Rattle.std.specs.Prelude.{All, string_bytes}
use Rattle.spf_batch_lists.specs.Lists.{lines, IsName, max_names}
use Rattle.spf_batch_lists.proofs.names.read_names.Given as goal

abbrev pub invariant-loop-rest : goal.invariant-loop-rest
invariant-loop-rest l = record {
  lines : map string_bytes l.names.items ++ lines l.rest ≡ lines l.list;
  each : All IsName (map string_bytes l.names.items);
  few : length l.names.items ≤ max_names;
}

abbrev pub decreases-loop-rest : goal.decreases-loop-rest
decreases-loop-rest l = length l.rest

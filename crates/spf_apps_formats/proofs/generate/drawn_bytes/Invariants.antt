use Rattle.std.proofs.Common.{◌≡◌, ◌++◌, ◌-◌, length}
use Rattle.spf_apps_formats.specs.Draws.{picked_bytes}
use Rattle.spf_apps_formats.proofs.generate.drawn_bytes.Given as goal

abbrev pub invariant-loop : goal.invariant-loop
invariant-loop l = record {
  bytes : l.bytes.items ++ picked_bytes l.table (l.size - l.counter) l.draws.state ≡ picked_bytes l.table l.size l.seed;
  count : length l.bytes.items ≡ l.counter;
}

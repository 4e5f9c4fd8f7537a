use Rattle.std.proofs.Common.{◌≡◌, ◌++◌, ◌-◌}
use Rattle.spf_apps_formats.specs.Draws.{drawn_bytes, state_after}
use Rattle.spf_apps_formats.proofs.generate.push_drawn.Given as goal

abbrev pub invariant-loop : goal.invariant-loop
invariant-loop l = record {
  file : l.file.items ++ drawn_bytes (l.count - l.counter) l.draws.state ≡ l.fn.file.items ++ drawn_bytes l.count l.fn.draws.state;
  state : state_after (l.count - l.counter) l.draws.state ≡ state_after l.count l.fn.draws.state;
}

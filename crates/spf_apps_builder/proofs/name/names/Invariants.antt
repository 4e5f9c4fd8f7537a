use Rattle.std.proofs.Common.{◌≡◌, map, take}
use Rattle.spf_ast.specs.View.{name}
use Rattle.spf_apps_builder.proofs.name.names.Given as goal

abbrev pub invariant-loop-text : goal.invariant-loop-text
invariant-loop-text l = map name l.names.items ≡ map (λ t. t.now) (take l.text-index l.texts)

use Rattle.std.proofs.Common.{◌≡◌, [], ◌∷◌, pos, rules}
use Rattle.spf_cells.specs.declared.view.LogEntry.TheVariants.{Load, Store, Turn}
use Rattle.spf_tests_runtime.proofs.Examples.{turns_are}
use Rattle.spf_tests_runtime.proofs.cells.worked_example.Goals as goal

pub returns-clause-turns : goal.returns-clause-turns
returns-clause-turns c =
    let found = c.step_both-found.result in
    let is : c.in_ok-trace.trace ≡ (Store 0 (pos 9) ∷ Turn found.2 ∷ []) ∷ (Load 3 (pos 4) ∷ Turn found.1 ∷ []) ∷ [] = search rules in
    turns_are c.in_ok-trace.trace c.in_ok-cells.cells.setting found.2 found.1 (λ t. (c.in_ok-cells.ensures.setting t).raisable) is c.in_ok-trace.ensures.kept

use Rattle.std.proofs.Common.{◌≡◌, drop}
use Rattle.spf_ast.specs.View.{block}
use Rattle.spf_effects_walk.specs.SlotSets.{sets_of, with_block}
use Rattle.spf_effects_walk.proofs.slot_sets.+collect.Given as goal

-- with the slots of the statements that are left, the sets are whole
abbrev pub invariant-collect-loop-statement : goal.invariant-collect-loop-statement
invariant-collect-loop-statement l =
    with_block (block (drop l.statement-index l.statements)) (sets_of l.slots) ≡ with_block (block l.statements) (sets_of l.initial.slots)

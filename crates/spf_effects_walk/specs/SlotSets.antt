-- The slots that a block assigns and those that it declares, as two sets that are filled while it is read.
use Rattle.std.specs.Prelude.{ℕ, Bool, false, ◌==◌, ◌||◌, List, slice_index_or}
use Rattle.spf_ast.specs.Syntax.{Statement, Block}
use Rattle.spf_effects_walk.specs.declared.slot_sets.Slots as code
use Rattle.spf_ast.specs.Slots.{assigns, statement_assigns, is_among, declares, statement_declares}

-- a slot is in the set of a table that has a flag for each slot
abbrev pub has_slot : List Bool → ℕ → Bool
has_slot flags slot = slice_index_or flags slot false

-- the set with this slot
abbrev pub with_slot : ℕ → (ℕ → Bool) → ℕ → Bool
with_slot slot set x = (x == slot) || set x

-- the set with these slots
abbrev pub with_slots : List ℕ → (ℕ → Bool) → ℕ → Bool
with_slots slots set x = is_among x slots || set x

-- the assigned slots, and the declared ones
pub record SlotSets : Type 0 where
  pub assigned : ℕ → Bool
  pub declared : ℕ → Bool

-- the sets of two tables
abbrev pub sets_of : code.Slots → SlotSets
sets_of s = record { assigned = has_slot s.assigned; declared = has_slot s.declared }

-- no slot
abbrev pub no_slot : ℕ → Bool
no_slot slot = false

-- the sets with the slots of a statement
abbrev pub with_statement : Statement → SlotSets → SlotSets
with_statement s sets = record {
  assigned = λ slot. statement_assigns (λ other. other == slot) s || sets.assigned slot;
  declared = λ slot. statement_declares slot s || sets.declared slot;
}

-- the sets with the slots of a block
abbrev pub with_block : Block → SlotSets → SlotSets
with_block b sets = record {
  assigned = λ slot. assigns (λ other. other == slot) b || sets.assigned slot;
  declared = λ slot. declares slot b || sets.declared slot;
}

use Rattle.spf_types_names.proofs.Rows.{AreSlots}
use Rattle.spf_types_names.proofs.locals.row_slots.Given as goal

abbrev pub invariant-loop-index : goal.invariant-loop-index
invariant-loop-index l = AreSlots l.first l.names l.slots.items l.index

use Rattle.spf_types_names.proofs.Rows.{AreShown}
use Rattle.spf_types_names.proofs.locals.LocalTable.show_each.Given as goal

abbrev pub invariant-loop-index : goal.invariant-loop-index
invariant-loop-index l = AreShown l.initial.self l.self l.first l.fixed l.names l.index

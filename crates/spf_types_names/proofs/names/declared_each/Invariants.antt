use Rattle.spf_types_names.specs.HereView.{setting}
use Rattle.spf_types_names.proofs.Rows.{AreDeclared}
use Rattle.spf_types_names.proofs.names.declared_each.Given as goal

abbrev pub invariant-loop-name : goal.invariant-loop-name
invariant-loop-name l = AreDeclared (setting l.here) l.initial.locals l.locals l.line l.raw l.name-index

use Rattle.spf_types_names.specs.HereView.{setting}
use Rattle.spf_types_forms.proofs.Arguments.{AreGuessed}
use Rattle.spf_types_forms.proofs.expression.predictors.Given as goal

abbrev pub invariant-loop-part : goal.invariant-loop-part
invariant-loop-part l = AreGuessed (setting l.here) l.locals.locals l.line l.raw l.guesses.items l.part-index

use Rattle.std.specs.Prelude.{[]}
use Rattle.spf_effects_walk.specs.Settings.{setting}
use Rattle.spf_effects.proofs.Guessing.{GuessesLead}
use Rattle.spf_effects.proofs.analysis.predictor_effects.Given as goal

-- with the guesses that are left, all are examined
abbrev pub invariant-loop-part : goal.invariant-loop-part
invariant-loop-part l = GuessesLead (setting l.context) l.bounds l.predict (record { uncovered = []; may = []; written = [] }) l.part-index l.found

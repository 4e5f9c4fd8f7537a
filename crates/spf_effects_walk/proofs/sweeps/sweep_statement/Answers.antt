use Rattle.spf_effects_walk.proofs.Sweeping.{fold_not_swept, pair_not_swept}
use Rattle.spf_effects_walk.proofs.sweeps.sweep_statement.Goals as goal

pub returns-in-Fold : goal.returns-in-Fold
returns-in-Fold c = fold_not_swept c.args.name c.args.turns.factor c.args.turns.first c.args.turns.last c.args.kind.now c.in-Fold.field-0 c.in-Fold.is c.args.found.now

pub returns-in-Pair : goal.returns-in-Pair
returns-in-Pair c = pair_not_swept c.args.name c.args.turns.factor c.args.turns.first c.args.turns.last c.args.kind.now c.in-Pair.field-0 c.in-Pair.is c.args.found.now

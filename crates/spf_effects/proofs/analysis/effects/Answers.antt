use Rattle.spf_effects_walk.proofs.Results.{if_ok}
use Rattle.spf_effects.proofs.analysis.effects.Goals as goal

pub returns-in-Fold : goal.returns-in-Fold
returns-in-Fold c = record { exact = if_ok c.fold_effects.result c.fold_effects.ensures (λ e h. rw c.in-Fold.is (h c.args.construct.line)) }

pub returns-in-Pair : goal.returns-in-Pair
returns-in-Pair c = record { exact = if_ok c.pair_effects.result c.pair_effects.ensures (λ e h. rw c.in-Pair.is (h c.args.construct.line)) }

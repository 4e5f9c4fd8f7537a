use Rattle.std.proofs.Common.{sym, ◌∙◌}
use Rattle.spf_ast.specs.View.{block}
use Rattle.spf_effects_walk.proofs.Sweeping.{broken_not_swept}
use Rattle.spf_effects_walk.proofs.sweeps.sweep.Goals as goal

pub returns-then-breaks : goal.returns-then-breaks
returns-then-breaks c = broken_not_swept c.args.name c.args.low c.args.high (block c.args.body.now) c.args.found.now (sym c.breaks.ensures ∙ c.if-breaks.true)

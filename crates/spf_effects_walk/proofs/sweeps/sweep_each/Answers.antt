use Rattle.spf_effects_walk.proofs.Sweeping.{sweeps_next, sweeps_end}
use Rattle.spf_effects_walk.proofs.sweeps.sweep_each.Goals as goal

pub loop-statement-preserved : goal.loop-statement-preserved
loop-statement-preserved c =
    sweeps_next c.args.name c.args.turns.factor c.args.turns.first c.args.turns.last c.args.body.now c.args.found.now c.loop-statement.statement-index c.loop-statement.found c.sweep_statement.new.found c.statement-item.result c.loop-statement-test.true c.statement-item.is (c.in_ok-sweep_statement.ensures {u = tt}) c.loop-statement.invariant

pub returns : goal.returns
returns c =
    sweeps_end c.args.name c.args.turns.factor c.args.turns.first c.args.turns.last c.args.body.now c.args.found.now c.loop-statement.statement-index c.loop-statement.found c.loop-statement-test.false c.loop-statement.invariant

use Rattle.spf_types_names.proofs.Rows.{one_shown}
use Rattle.spf_types_names.proofs.locals.LocalTable.show_each.Goals as goal

pub loop-index-preserved : goal.loop-index-preserved
loop-index-preserved c =
    one_shown c.args.self.now c.loop-index.self c.show.new.self c.args.first c.args.fixed c.args.names.now c.loop-index.index c.in_ok-slot.slot c.index-names-index.result c.loop-index-test.true c.index-names-index.is c.loop-index.invariant (c.in_ok-slot.ensures {u = tt}).value (c.in_ok-show.ensures {u = tt}).shown

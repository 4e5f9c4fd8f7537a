use Rattle.spf_types_names.specs.HereView.{setting}
use Rattle.spf_types_names.proofs.Rows.{all_new, all_declared}
use Rattle.spf_ast.specs.View.{name}
use Rattle.std.proofs.Common.{map}
use Rattle.spf_types_names.proofs.names.declared_each.Goals as goal

pub returns-clause-new : goal.returns-clause-new
returns-clause-new c =
    all_new (setting c.args.here.now) c.args.locals.now.locals c.args.line (map name c.args.raw.now)
    (all_declared (setting c.args.here.now) c.args.locals.now c.loop-name.locals c.args.line c.args.raw.now c.loop-name.name-index c.loop-name-test.false c.loop-name.invariant).0

use Rattle.spf_ast.proofs.Rows.{zeros-are}
use Rattle.spf_ast.proofs.row.Row.zeros.Goals as goal

pub invariant_of-result : goal.invariant_of-result
invariant_of-result c = (zeros-are c.args.width c.requires).0

pub returns : goal.returns
returns c = (zeros-are c.args.width c.requires).1

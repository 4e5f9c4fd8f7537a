use Rattle.std.proofs.Common.{sym}
use Rattle.spf_ast.proofs.Rows.{same-width}
use Rattle.spf_ast.proofs.row.are_same.Goals as goal

pub returns-then-one-other : goal.returns-then-one-other
returns-then-one-other c = sym (same-width c.args.one.now c.args.other.now c.if-one-other.true)

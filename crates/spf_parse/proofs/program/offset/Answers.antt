use Rattle.std.proofs.Common.{arith, length, ◌-◌}
use Rattle.spf_parse.proofs.Programs.{offset_at}
use Rattle.spf_parse.proofs.program.offset.Goals as goal

pub returns-else-left-eq0 : goal.returns-else-left-eq0
returns-else-left-eq0 c = offset_at c.args.end (length c.args.tokens.now - c.args.left) c.args.tokens.now _ (omega (arith, c.requires, c.if-left-eq0.false))

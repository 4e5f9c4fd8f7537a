use Rattle.std.proofs.Common.{◌<◌, length, arith, rules}
use Rattle.spf_edge.proofs.Reading.{whole_below_limit}
use Rattle.spf_edge.proofs.real.read_within.Goals as goal

pub returns-clause-content : goal.returns-clause-content
returns-clause-content g c =
    let content = c.read_to_end.new.buf in
    let below : length content.items < c.take.result.limit = omega (arith, content.small, content.ok.0, content.ok.1, c.len.ensures, c.if-len-limit.false, c.take.ensures.limit, c.saturating_add.ensures) in
    whole_below_limit (g.R.Read.remaining c.args.reader) content.items c.take.result.limit below (search rules)

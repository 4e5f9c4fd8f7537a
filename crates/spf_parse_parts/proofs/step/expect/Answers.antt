use Rattle.spf_parse_parts.proofs.Tokens.{next_token, token_none, length_fails}
use Rattle.spf_parse_parts.proofs.step.expect.Goals as goal

pub returns-in-Some : goal.returns-in-Some
returns-in-Some c = let x = c.in-Some.ensures in (next_token c.args.tokens.now x.0 c.in-Some.rest.now x.2 c.args.kind x.1).1

pub returns-in-None : goal.returns-in-None
returns-in-None c = length_fails c.args.tokens.now c.args.tokens.now (token_none _ _ c.in-None.ensures)

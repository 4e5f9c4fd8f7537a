use Rattle.std.proofs.Common.{arith}
use Rattle.spf_parse_parts.proofs.Tokens.{opening_next, opening_over, opening_none, length_fails}
use Rattle.spf_parse_parts.proofs.step.open.Goals as goal

pub returns-in_default-clause-answers : goal.returns-in_default-clause-answers
returns-in_default-clause-answers c = length_fails c.args.tokens.now c.args.tokens.now (opening_none c.args.nesting c.args.sign _ c.in_default.ensures)

pub returns-then-nesting-ge-MAX_NESTING-clause-answers : goal.returns-then-nesting-ge-MAX_NESTING-clause-answers
returns-then-nesting-ge-MAX_NESTING-clause-answers c =
    let x = c.in-Some.ensures in
    opening_over c.args.tokens.now x.0 c.in-Some.rest.now x.2 c.args.nesting c.args.sign x.1 (omega (arith, c.if-nesting-ge-MAX_NESTING.true))

pub returns-clause-answers : goal.returns-clause-answers
returns-clause-answers c =
    let x = c.in-Some.ensures in
    opening_next c.args.tokens.now x.0 c.in-Some.rest.now x.2 c.args.nesting c.args.sign x.1 (omega (arith, c.if-nesting-ge-MAX_NESTING.false))

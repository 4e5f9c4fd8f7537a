use Rattle.std.proofs.Common.{rules}
use Rattle.spf_parse_parts.proofs.Tokens.{name_next, name_other, end_fails, name_end}
use Rattle.spf_parse_parts.proofs.step.name.Goals as goal

pub returns-in_default : goal.returns-in_default
returns-in_default c = end_fails c.args.tokens.now c.in_default.ensures.cases name_end

pub returns-then-ne : goal.returns-then-ne
returns-then-ne c = name_other c.args.tokens.now c.in-Some.token.now c.in-Some.rest.now c.in-Some.ensures.cases.0 (λ h. absurd (search (rules, h)))

pub returns : goal.returns
returns c =
    rw (c.in_ok-bytes.ensures.items_if_clones_equal (λ x y e. e)) (name_next c.args.tokens.now c.in-Some.token.now c.in-Some.rest.now c.in-Some.ensures.cases.0 (search rules))

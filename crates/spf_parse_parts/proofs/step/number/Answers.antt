use Rattle.std.proofs.Common.{rules, ◌≡◌, sym, ◌∙◌}
use Rattle.spf_text.specs.declared.token.TokenKind.TheVariants as kind
use Rattle.spf_parse_parts.proofs.Tokens.{number_next, number_other, end_fails, number_end}
use Rattle.spf_parse_parts.proofs.step.number.Goals as goal

pub returns-in_default : goal.returns-in_default
returns-in_default c = end_fails c.args.tokens.now c.in_default.ensures.cases number_end

pub returns-in-Name : goal.returns-in-Name
returns-in-Name c = number_other c.args.tokens.now c.in-Some.token.now c.in-Some.rest.now c.in-Some.ensures.cases.0 (λ n e. let f : kind.Name ≡ kind.Number n = sym c.in-Name.is ∙ e in absurd cc)

pub returns-in-Keyword : goal.returns-in-Keyword
returns-in-Keyword c = number_other c.args.tokens.now c.in-Some.token.now c.in-Some.rest.now c.in-Some.ensures.cases.0 (λ n e. let f : kind.Keyword _ ≡ kind.Number n = sym c.in-Keyword.is ∙ e in absurd cc)

pub returns-in-Sign : goal.returns-in-Sign
returns-in-Sign c = number_other c.args.tokens.now c.in-Some.token.now c.in-Some.rest.now c.in-Some.ensures.cases.0 (λ n e. let f : kind.Sign _ ≡ kind.Number n = sym c.in-Sign.is ∙ e in absurd cc)

pub returns-in-Number : goal.returns-in-Number
returns-in-Number c = number_next c.args.tokens.now c.in-Some.token.now c.in-Some.rest.now c.in-Some.ensures.cases.0 _ (search rules)

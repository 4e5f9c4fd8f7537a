use Rattle.std.proofs.Common.{suc, ◌+◌, ◌-◌, ◌*◌, ◌≤◌, length, map, ◌++◌}
use Rattle.spf_text.specs.declared.token.Sign.TheVariants as sign
use Rattle.spf_ast.specs.RawView.{raw_expression}
use Rattle.spf_parse_grammar.specs.Lexemes.{lexemes}
use Rattle.spf_parse_grammar.specs.Parts.{arguments, further, many, next_argument, give, ◌>>=◌, ◌>>◌}
use Rattle.spf_parse_grammar.specs.Parts as parts
use Rattle.spf_parse_grammar.specs.Rules.{all}
use Rattle.spf_parse_parts.specs.Answers.{Leads}
use Rattle.spf_parse_parts.proofs.expression.+expression.Given as goal

abbrev pub decreases-operand_by_name : goal.decreases-operand_by_name
decreases-operand_by_name l = (64 - l.nesting) * 64 + 1

abbrev pub decreases-operand_by_sign : goal.decreases-operand_by_sign
decreases-operand_by_sign l = (64 - l.nesting) * 64 + 1

abbrev pub decreases-operand : goal.decreases-operand
decreases-operand l = (64 - l.nesting) * 64 + 2

abbrev pub decreases-level : goal.decreases-level
decreases-level l = (64 - l.nesting) * 64 + (3 * l.rank + 5)

abbrev pub decreases-rest_of_expression : goal.decreases-rest_of_expression
decreases-rest_of_expression l = (64 - l.nesting) * 64 + (3 * l.rank + 4)

abbrev pub decreases-chain : goal.decreases-chain
decreases-chain l = (64 - l.nesting) * 64 + (3 * l.rank + 6)

abbrev pub decreases-comparison : goal.decreases-comparison
decreases-comparison l = (64 - l.nesting) * 64 + 24

abbrev pub decreases-expr : goal.decreases-expr
decreases-expr l = (64 - l.nesting) * 64 + 33

abbrev pub decreases-value : goal.decreases-value
decreases-value l = (64 - l.nesting) * 64 + 34

abbrev pub decreases-arguments : goal.decreases-arguments
decreases-arguments l = (64 - l.nesting) * 64 + 35

-- what is left of the arguments, after these
abbrev pub invariant-arguments-inside : goal.invariant-arguments-inside
invariant-arguments-inside l =
    Leads 0 (all (arguments l.nesting)) (lexemes l.tokens) (many (next_argument l.nesting) >>= λ more. parts.sign sign.CloseParen >> give (map raw_expression l.inside.items ++ more)) (lexemes l.rest)

abbrev pub decreases-arguments-inside : goal.decreases-arguments-inside
decreases-arguments-inside l = length l.rest

-- what is left of the operators, after these
abbrev pub invariant-chain-further : goal.invariant-chain-further
invariant-chain-further l = record {
  leads : Leads (suc (suc l.rank)) (all (further l.nesting l.rank (raw_expression l.fn.first.value) l.used)) (lexemes l.tokens) (all (further l.nesting l.rank (raw_expression l.left.value) l.so_far)) (lexemes l.rest);
  used_in : l.so_far ≤ 32;
}

abbrev pub decreases-chain-further : goal.decreases-chain-further
decreases-chain-further l = length l.rest

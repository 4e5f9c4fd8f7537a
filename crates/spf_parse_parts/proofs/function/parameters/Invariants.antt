use Rattle.std.proofs.Common.{length, map}
use Rattle.spf_ast.specs.View.{name as seen_name}
use Rattle.spf_parse_grammar.specs.Lexemes.{lexemes}
use Rattle.spf_parse_grammar.specs.Parts.{many, parameters, next_parameter, part}
use Rattle.spf_parse_grammar.specs.Rules.{all}
use Rattle.spf_parse_parts.specs.Answers.{Leads}
use Rattle.spf_parse_parts.proofs.Functions.{last_parameters}
use Rattle.spf_parse_parts.proofs.function.parameters.Given as goal

-- what is left of the parameters, after these
abbrev pub invariant-inside : goal.invariant-inside
invariant-inside l = Leads 0 (all parameters) (lexemes l.tokens) (part (many next_parameter) (last_parameters (map seen_name l.inside.items))) (lexemes l.rest)

abbrev pub decreases-inside : goal.decreases-inside
decreases-inside l = length l.rest

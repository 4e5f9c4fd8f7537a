use Rattle.std.proofs.Common.{length, map}
use Rattle.spf_ast.specs.View.{name as seen_name}
use Rattle.spf_parse_grammar.specs.Lexemes.{lexemes}
use Rattle.spf_parse_grammar.specs.Parts.{few, names, next_parameter, part}
use Rattle.spf_parse_grammar.specs.Rules.{all}
use Rattle.spf_parse_parts.specs.Answers.{Leads, closed}
use Rattle.spf_parse_parts.proofs.row.names.Given as goal

-- what is left of the names, after these
abbrev pub invariant-found : goal.invariant-found
invariant-found l = Leads 0 (all (names l.nesting)) (lexemes l.tokens) (part (few l.room next_parameter) (closed (map seen_name l.found.items))) (lexemes l.rest)

abbrev pub decreases-found : goal.decreases-found
decreases-found l = length l.rest

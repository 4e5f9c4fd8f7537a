use Rattle.std.proofs.Common.{◌+◌, length, map}
use Rattle.spf_ast.specs.RawView.{raw_predictor}
use Rattle.spf_parse_grammar.specs.Parts.{guess, next_predictor}
use Rattle.spf_parse_grammar.specs.Lexemes.{lexemes}
use Rattle.spf_parse_grammar.specs.Parts.{few, part}
use Rattle.spf_parse_grammar.specs.Rules.{all}
use Rattle.spf_parse_parts.specs.Answers.{Leads, closed}
use Rattle.spf_parse_parts.proofs.row.guess.Given as goal

-- what is left of the row, after these
abbrev pub invariant-found : goal.invariant-found
invariant-found l = Leads 10 (all (guess l.nesting)) (lexemes l.tokens) (part (few l.room (next_predictor (l.nesting + 1))) (closed (map raw_predictor l.found.items))) (lexemes l.rest)

abbrev pub decreases-found : goal.decreases-found
decreases-found l = length l.rest

use Rattle.std.proofs.Common.{length, map}
use Rattle.spf_ast.specs.View.{array as seen_array}
use Rattle.spf_parse_grammar.specs.Lexemes.{lexemes}
use Rattle.spf_parse_grammar.specs.Parts.{many, array, part}
use Rattle.spf_parse_grammar.specs.Rules.{all}
use Rattle.spf_parse_parts.specs.Answers.{Leads}
use Rattle.spf_parse.proofs.Programs.{last_of}
use Rattle.spf_parse.proofs.program.arrays.Given as goal

-- what is left of them, after these
abbrev pub invariant-found : goal.invariant-found
invariant-found l = Leads 12 (all (many array)) (lexemes l.tokens) (part (many array) (last_of (map seen_array l.found.items))) (lexemes l.rest)

abbrev pub decreases-found : goal.decreases-found
decreases-found l = length l.rest

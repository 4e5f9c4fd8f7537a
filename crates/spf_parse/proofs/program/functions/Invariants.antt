use Rattle.std.proofs.Common.{length, map}
use Rattle.spf_ast.specs.RawView.{raw_function}
use Rattle.spf_parse_grammar.specs.Lexemes.{lexemes}
use Rattle.spf_parse_grammar.specs.Parts.{many, function, part}
use Rattle.spf_parse_grammar.specs.Rules.{all}
use Rattle.spf_parse_parts.specs.Answers.{Leads}
use Rattle.spf_parse.proofs.Programs.{last_of}
use Rattle.spf_parse.proofs.program.functions.Given as goal

-- what is left of them, after these
abbrev pub invariant-found : goal.invariant-found
invariant-found l = Leads 13 (all (many (function l.breaks))) (lexemes l.tokens) (part (many (function l.breaks)) (last_of (map raw_function l.found.items))) (lexemes l.rest)

abbrev pub decreases-found : goal.decreases-found
decreases-found l = length l.rest

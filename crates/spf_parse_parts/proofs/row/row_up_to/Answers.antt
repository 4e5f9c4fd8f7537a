use Rattle.std.proofs.Common.{map}
use Rattle.spf_ast.specs.RawView.{raw_expression}
use Rattle.spf_parse_grammar.specs.Lexemes.{lexemes}
use Rattle.spf_parse_grammar.specs.Parts.{row}
use Rattle.spf_parse_grammar.specs.Rules.{all}
use Rattle.spf_parse_parts.proofs.Tokens.{followed_by}
use Rattle.spf_parse_parts.proofs.row.row_up_to.Goals as goal

pub returns : goal.returns
returns c =
    followed_by (all (row c.args.nesting)) (lexemes c.args.tokens.now) c.row.result c.followed_by.result c.args.end (λ x. x.0) (λ v. map raw_expression v.items) (λ x. lexemes x.1.now) (λ x. c.requires.ends) c.followed_by.ensures.refused c.followed_by.ensures.kept c.followed_by.ensures.token c.row.ensures

use Rattle.std.proofs.Common.{◌+◌, ◌-◌, ◌*◌, ◌≤◌, length, map}
use Rattle.spf_parse_grammar.specs.Lexemes.{lexemes}
use Rattle.spf_parse_grammar.specs.Parts.{many, part, statement}
use Rattle.spf_parse_parts.specs.Answers.{Leads, opened_statements, stated}
use Rattle.spf_parse_parts.proofs.Statements.{last_statements}
use Rattle.spf_parse_parts.proofs.statement.+statement.Given as goal

abbrev pub decreases-open_block : goal.decreases-open_block
decreases-open_block l = (65 - l.nesting) * 8

abbrev pub decreases-block : goal.decreases-block
decreases-block l = (65 - l.nesting) * 8 + 1

abbrev pub decreases-block_with_row : goal.decreases-block_with_row
decreases-block_with_row l = (65 - l.nesting) * 8 + 1

abbrev pub decreases-otherwise : goal.decreases-otherwise
decreases-otherwise l = (65 - l.nesting) * 8 + 2

abbrev pub decreases-if_form : goal.decreases-if_form
decreases-if_form l = (65 - l.nesting) * 8 + 3

abbrev pub decreases-for_form : goal.decreases-for_form
decreases-for_form l = (65 - l.nesting) * 8 + 3

abbrev pub decreases-while_form : goal.decreases-while_form
decreases-while_form l = (65 - l.nesting) * 8 + 3

abbrev pub decreases-fold_form : goal.decreases-fold_form
decreases-fold_form l = (65 - l.nesting) * 8 + 3

abbrev pub decreases-pair_form : goal.decreases-pair_form
decreases-pair_form l = (65 - l.nesting) * 8 + 3

abbrev pub decreases-form : goal.decreases-form
decreases-form l = (65 - l.nesting) * 8 + 4

-- what is left of the statements, after these
abbrev pub invariant-open_block-inside : goal.invariant-open_block-inside
invariant-open_block-inside l = record {
  leads : Leads 12 (opened_statements l.breaks l.nesting) (lexemes l.tokens) (part (many (statement l.breaks (l.nesting + 1))) (last_statements (map stated l.inside.items))) (lexemes l.rest);
  below : l.nesting + 1 ≤ 64;
}

abbrev pub decreases-open_block-inside : goal.decreases-open_block-inside
decreases-open_block-inside l = length l.rest

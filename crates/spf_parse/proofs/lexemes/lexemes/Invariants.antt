use Rattle.std.proofs.Common.{◌≡◌, ◌≤◌, length, drop}
use Rattle.std.specs.Prelude.{take, map}
use Rattle.spf_text.specs.Tokens.{AreInOrder}
use Rattle.spf_parse_grammar.specs.Lexemes.{line_at, lexeme_of, lexeme}
use Rattle.spf_parse.proofs.lexemes.lexemes.Given as goal

-- the line is that of the offset so far, and the tokens so far are lexemes
abbrev pub invariant-loop-token : goal.invariant-loop-token
invariant-loop-token l = record {
  line : l.line ≡ line_at l.text l.up_to;
  within : l.up_to ≤ length l.text;
  order : AreInOrder l.up_to (length l.text) (drop l.token-index l.tokens);
  items : map lexeme l.out.items ≡ map (lexeme_of l.text) (take l.token-index l.tokens);
}

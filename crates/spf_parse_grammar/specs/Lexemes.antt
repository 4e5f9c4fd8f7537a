-- The tokens of a text as the grammar reads them.
use Rattle.std.specs.Prelude.{ℕ, ◌+◌, ◌==◌, List, map, slice_range, take, count_by}
use Rattle.spf_text.specs.declared.token.TokenKind.{TokenKind}
use Rattle.spf_text.specs.declared.token.Token.{Token}
use Rattle.spf_parse_grammar.specs.declared.Lexeme as code

-- a token: what it is, its bytes, the offset of its first byte, and its line
pub record Lexeme : Type 0 where
  pub kind : TokenKind
  pub bytes : List ℕ
  pub from : ℕ
  pub line : ℕ

-- an offset of a text is on the line that as many line feeds stand before, counted from 1
abbrev pub line_at : List ℕ → ℕ → ℕ
line_at text offset = count_by (λ b. b == 10) (take offset text) + 1

-- a token of a text, as a lexeme
abbrev pub lexeme_of : List ℕ → Token → Lexeme
lexeme_of text t = record { kind = t.kind; bytes = slice_range text t.from t.to; from = t.from; line = line_at text t.from }

-- the tokens of a text, as lexemes
abbrev pub lexemes_of : List ℕ → List Token → List Lexeme
lexemes_of text tokens = map (lexeme_of text) tokens

-- what contracts see of the code's lexemes
abbrev pub lexeme : code.Lexeme → Lexeme
lexeme l = record { kind = l.kind; bytes = l.bytes.now; from = l.from; line = l.line }

abbrev pub lexemes : List code.Lexeme → List Lexeme
lexemes ls = map lexeme ls

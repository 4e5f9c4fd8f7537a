-- Which texts say which programs, and where a text goes wrong.
use Rattle.std.specs.Prelude.{◌≡◌, ℕ, ◌+◌, ◌≤◌, List, [], ◌∷◌, ◌++◌, length}
use Rattle.spf_text.specs.declared.token.Token.{Token}
use Rattle.spf_text.specs.Tokens.{AreTokensOf, max_text}
use Rattle.spf_ast.specs.RawSyntax.{RawProgram}
use Rattle.spf_parse_grammar.specs.Lexemes.{Lexeme, lexemes_of}
use Rattle.spf_parse_grammar.specs.Reading.{Reads}

-- the text isn't too long, and its tokens are those of the program
pub record IsProgramOf (text : List ℕ) (p : RawProgram) : Type 0 where
  pub short : length text ≤ max_text
  pub tokens : List Token
  pub are : AreTokensOf text tokens
  pub reads : Reads 0 (lexemes_of text tokens) p

-- some program's tokens begin with these, and these keep the limits, except for the last `free` of them
abbrev pub IsFront : (free : ℕ) → List Lexeme → Type 0
IsFront free ts = (more : List Lexeme) × (p : RawProgram) × Reads (free + length more) (ts ++ more) p

-- where the first of these tokens stands; there is an end to the text
abbrev pub offset : ℕ → List Lexeme → ℕ
offset end [] = end
offset end (t ∷ ts) = t.from

-- with the next token what was read is a prefix of no program, whatever the limits; at the end of the text it is no program
abbrev pub CannotGoOn : List Lexeme → List Lexeme → Type 0
CannotGoOn read [] = (free : ℕ) (p : RawProgram) → Reads free read p → ⊥
CannotGoOn read (t ∷ rest) = (free : ℕ) → IsFront free (read ++ t ∷ []) → ⊥

-- the tokens before this offset are a prefix of a program, and they can't go on
pub record IsUnexpected (ts : List Lexeme) (end at : ℕ) : Type 0 where
  pub read : List Lexeme
  pub rest : List Lexeme
  pub split : ts ≡ read ++ rest
  pub at_is : at ≡ offset end rest
  pub front : IsFront 0 read
  pub stuck : CannotGoOn read rest

-- the token at this offset goes on with a prefix of a program before it, and only the limits forbid it
pub record IsTooDeep (ts : List Lexeme) (at : ℕ) : Type 0 where
  pub read : List Lexeme
  pub next : Lexeme
  pub rest : List Lexeme
  pub split : ts ≡ read ++ next ∷ rest
  pub at_is : at ≡ next.from
  pub allowed : IsFront 1 (read ++ next ∷ [])
  pub forbidden : IsFront 0 (read ++ next ∷ []) → ⊥

-- the text isn't too long, has tokens, and goes wrong at this offset, which is its length at the end
pub record IsUnexpectedAt (text : List ℕ) (at : ℕ) : Type 0 where
  pub short : length text ≤ max_text
  pub tokens : List Token
  pub are : AreTokensOf text tokens
  pub unexpected : IsUnexpected (lexemes_of text tokens) (length text) at

-- the text isn't too long, has tokens, and passes a limit at this offset
pub record IsTooDeepAt (text : List ℕ) (at : ℕ) : Type 0 where
  pub short : length text ≤ max_text
  pub tokens : List Token
  pub are : AreTokensOf text tokens
  pub too_deep : IsTooDeep (lexemes_of text tokens) at

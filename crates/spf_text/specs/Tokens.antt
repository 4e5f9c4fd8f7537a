-- The tokens of a text, and where a text has none.
use Rattle.std.specs.Prelude.{◌≡◌, ◌⊎◌, ℕ, ◌+◌, ◌-◌, ◌*◌, ◌<◌, ◌≤◌, List, [], ◌∷◌, ◌++◌, length, drop, slice_range, pos, codes}
use Rattle.std.specs.List.{All}
use Rattle.spf_text.specs.declared.token.Keyword.{Keyword}
use Rattle.spf_text.specs.declared.token.Keyword.TheVariants as word
use Rattle.spf_text.specs.declared.token.Sign.{Sign}
use Rattle.spf_text.specs.declared.token.Sign.TheVariants as sign
use Rattle.spf_text.specs.declared.token.TokenKind.{TokenKind}
use Rattle.spf_text.specs.declared.token.TokenKind.TheVariants as kind
use Rattle.spf_text.specs.declared.token.Token.{Token}

-- ---- bytes

-- space, tab, line feed and carriage return
abbrev pub IsBlank : ℕ → Type 0
IsBlank b = (b ≡ 32) ⊎ (b ≡ 9) ⊎ (b ≡ 10) ⊎ (b ≡ 13)

-- `0` to `9`
abbrev pub IsDigit : ℕ → Type 0
IsDigit b = (48 ≤ b) × (b ≤ 57)

-- `A` to `Z`, `a` to `z` and `_`
abbrev pub IsLetter : ℕ → Type 0
IsLetter b = ((65 ≤ b) × (b ≤ 90)) ⊎ ((97 ≤ b) × (b ≤ 122)) ⊎ (b ≡ 95)

-- what a name goes on with
abbrev pub IsWordByte : ℕ → Type 0
IsWordByte b = IsLetter b ⊎ IsDigit b

-- the text ends here, or goes on with a byte that isn't of this kind
abbrev pub EndsBefore : (ℕ → Type 0) → List ℕ → Type 0
EndsBefore P [] = Unit {0}
EndsBefore P (b ∷ rest) = P b → ⊥

-- the text ends here, or its line does
abbrev pub EndsLine : List ℕ → Type 0
EndsLine [] = Unit {0}
EndsLine (b ∷ rest) = b ≡ 10

-- a first byte of the one kind, and then bytes of the other
abbrev pub Begins : (ℕ → Type 0) → (ℕ → Type 0) → List ℕ → Type 0
Begins First Rest [] = ⊥
Begins First Rest (b ∷ bytes) = First b × All Rest bytes

-- the number that digits spell, after the digits that spell `so_far`
abbrev pub number_from : ℕ → List ℕ → ℕ
number_from so_far [] = so_far
number_from so_far (d ∷ ds) = number_from (10 * so_far + (d - 48)) ds

-- ---- spellings

-- how a reserved word is spelled
abbrev pub word_spelling : Keyword → List ℕ
word_spelling word.Array = codes "array"
word_spelling word.Fn = codes "fn"
word_spelling word.Main = codes "main"
word_spelling word.Let = codes "let"
word_spelling word.Fill = codes "fill"
word_spelling word.Emit = codes "emit"
word_spelling word.Fail = codes "fail"
word_spelling word.If = codes "if"
word_spelling word.Else = codes "else"
word_spelling word.For = codes "for"
word_spelling word.In = codes "in"
word_spelling word.While = codes "while"
word_spelling word.Max = codes "max"
word_spelling word.Specfold = codes "specfold"
word_spelling word.Spec = codes "spec"
word_spelling word.Predict = codes "predict"
word_spelling word.Host = codes "host"
word_spelling word.Give = codes "give"
word_spelling word.Next = codes "next"
word_spelling word.Return = codes "return"
word_spelling word.Len = codes "len"
word_spelling word.Input = codes "input"
word_spelling word.Break = codes "break"
word_spelling word.Version = codes "version"

-- how a sign is spelled
abbrev pub sign_spelling : Sign → List ℕ
sign_spelling sign.Plus = codes "+"
sign_spelling sign.Minus = codes "-"
sign_spelling sign.Star = codes "*"
sign_spelling sign.Slash = codes "/"
sign_spelling sign.Percent = codes "%"
sign_spelling sign.And = codes "&"
sign_spelling sign.Or = codes "|"
sign_spelling sign.Xor = codes "^"
sign_spelling sign.ShiftLeft = codes "<<"
sign_spelling sign.ShiftRight = codes ">>"
sign_spelling sign.Equal = codes "=="
sign_spelling sign.NotEqual = codes "!="
sign_spelling sign.Less = codes "<"
sign_spelling sign.LessEqual = codes "<="
sign_spelling sign.Greater = codes ">"
sign_spelling sign.GreaterEqual = codes ">="
sign_spelling sign.AndAnd = codes "&&"
sign_spelling sign.OrOr = codes "||"
sign_spelling sign.Not = codes "!"
sign_spelling sign.Assign = codes "="
sign_spelling sign.OpenParen = codes "("
sign_spelling sign.CloseParen = codes ")"
sign_spelling sign.OpenBracket = codes "["
sign_spelling sign.CloseBracket = codes "]"
sign_spelling sign.OpenBrace = codes "{"
sign_spelling sign.CloseBrace = codes "}"
sign_spelling sign.Comma = codes ","
sign_spelling sign.Semicolon = codes ";"
sign_spelling sign.DotDot = codes ".."

-- the bytes begin with this spelling
abbrev pub BeginsWith : List ℕ → List ℕ → Type 0
BeginsWith spelling bytes = (rest : List ℕ) × (bytes ≡ spelling ++ rest)

-- ---- pieces

-- the largest number that a text may hold
abbrev pub max_number : ℕ
max_number = 9223372036854775807

-- The bytes spell this token, and nothing of what comes after belongs to it: words and numbers go on as long as they can, and no longer sign stands there.
abbrev pub Spells : TokenKind → List ℕ → List ℕ → Type 0
Spells kind.Name bytes after =
    Begins IsLetter IsWordByte bytes × EndsBefore IsWordByte after × ((w : Keyword) → bytes ≡ word_spelling w → ⊥)
Spells (kind.Keyword w) bytes after = (bytes ≡ word_spelling w) × EndsBefore IsWordByte after
Spells (kind.Number n) bytes after =
    Begins IsDigit IsDigit bytes × EndsBefore IsDigit after × (n ≡ pos (number_from 0 bytes)) × (number_from 0 bytes ≤ max_number)
Spells (kind.Sign s) bytes after =
    (bytes ≡ sign_spelling s) × ((other : Sign) → BeginsWith (sign_spelling other) (bytes ++ after) → length (sign_spelling other) ≤ length bytes)

-- a piece of a text: a blank, a comment, or a token
pub data Piece : Type 0 where
  Blank : ℕ → Piece
  Comment : List ℕ → Piece
  Lexeme : TokenKind → List ℕ → Piece

-- the bytes of a piece
abbrev pub bytes_of : Piece → List ℕ
bytes_of (Blank b) = b ∷ []
bytes_of (Comment bytes) = bytes
bytes_of (Lexeme kind bytes) = bytes

-- A whole piece before these bytes. A comment goes from `#` up to the end of its line, which it leaves out.
abbrev pub IsPiece : Piece → List ℕ → Type 0
IsPiece (Blank b) after = IsBlank b
IsPiece (Comment bytes) after = Begins (λ b. b ≡ 35) (λ b. b ≡ 10 → ⊥) bytes × EndsLine after
IsPiece (Lexeme kind bytes) after = Spells kind bytes after

-- the text is these pieces, one after another, and then the rest
abbrev pub IsCut : List ℕ → List Piece → List ℕ → Type 0
IsCut text [] rest = text ≡ rest
IsCut text (p ∷ ps) rest = (after : List ℕ) × (text ≡ bytes_of p ++ after) × IsPiece p after × IsCut after ps rest

-- the tokens among the pieces, each with its slice of the text, where the first piece begins at this offset
abbrev pub tokens_at : ℕ → List Piece → List Token
tokens_at offset [] = []
tokens_at offset (Blank b ∷ ps) = tokens_at (offset + 1) ps
tokens_at offset (Comment bytes ∷ ps) = tokens_at (offset + length bytes) ps
tokens_at offset (Lexeme kind bytes ∷ ps) =
    record { kind = kind; from = offset; to = offset + length bytes } ∷ tokens_at (offset + length bytes) ps

-- ---- texts

-- how many bytes a text may have
abbrev pub max_text : ℕ
max_text = 1048576

-- the text is cut into pieces, and these are its tokens
pub record AreTokensOf (text : List ℕ) (tokens : List Token) : Type 0 where
  pub pieces : List Piece
  pub cut : IsCut text pieces []
  pub are : tokens ≡ tokens_at 0 pieces

-- no blank, no comment, no word, no number and no sign begins here
abbrev pub BeginsNothing : List ℕ → Type 0
BeginsNothing [] = ⊥
BeginsNothing (b ∷ rest) =
    (IsBlank b → ⊥) × (b ≡ 35 → ⊥) × (IsWordByte b → ⊥) × ((s : Sign) → BeginsWith (sign_spelling s) (b ∷ rest) → ⊥)

-- a number begins here that is too large
abbrev pub BeginsTooLarge : List ℕ → Type 0
BeginsTooLarge bytes = (digits : List ℕ) × (after : List ℕ) × (bytes ≡ digits ++ after)
    × Begins IsDigit IsDigit digits × EndsBefore IsDigit after × (max_number < number_from 0 digits)

-- the text is cut into pieces up to this offset, at which the rest is as told
pub record IsFaultyAt (Fault : List ℕ → Type 0) (text : List ℕ) (at : ℕ) : Type 0 where
  pub pieces : List Piece
  pub rest : List ℕ
  pub cut : IsCut text pieces rest
  pub offset : at + length rest ≡ length text
  pub fault : Fault rest

-- the tokens stand between these offsets, each whole before the next begins
abbrev pub AreInOrder : ℕ → ℕ → List Token → Type 0
AreInOrder offset end [] = offset ≤ end
AreInOrder offset end (t ∷ ts) = (offset ≤ t.from) × (t.from < t.to) × AreInOrder t.to end ts

-- the token's slice of the text spells it, and nothing of what comes after belongs to it
abbrev pub IsSpelledIn : List ℕ → Token → Type 0
IsSpelledIn text t = Spells t.kind (slice_range text t.from t.to) (drop t.to text)

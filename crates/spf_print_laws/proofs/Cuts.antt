-- The pieces are whole: nothing of what comes after one belongs to it.
use Rattle.std.proofs.Common.{◌≡◌, ◌⊎◌, ℕ, ◌<◌, ◌≤◌, ◌^◌, Bool, true, false, ◌||◌, eqb, List, [], ◌∷◌, ◌++◌, length, refl, sym, ap, ◌∙◌, append_assoc, subst, arith, inl, inr, rules, ℤ, pos, negsuc}
use Rattle.std.specs.List.{AllByRecursion, Contains}
use Rattle.std.proofs.lemmas.List.Elements.{All-from_recursion}
use Rattle.std.proofs.lemmas.Int.{ints}
use Rattle.std.proofs.Common.{lit<}
use Rattle.std.specs.Fmt.{decimal, signed_decimal}
use Rattle.std.proofs.lemmas.Fmt.{digits_decimal, digits_value-decimal, decimal_nonempty}
use Rattle.std.proofs.lemmas.Str.Parse.{IsNumeralModel, numerals_by_fold}
use Rattle.spf_text.specs.declared.token.Keyword.{Keyword}
use Rattle.spf_text.specs.declared.token.Keyword.TheVariants as word
use Rattle.spf_text.specs.declared.token.Sign.{Sign}
use Rattle.spf_text.specs.declared.token.Sign.TheVariants as sign
use Rattle.spf_text.specs.declared.token.TokenKind.TheVariants as kind
use Rattle.spf_text.specs.Tokens.{Piece, bytes_of, IsPiece, IsCut, Spells, EndsBefore, Begins, BeginsWith, IsLetter, IsDigit, IsWordByte, word_spelling, sign_spelling, number_from}
use Rattle.spf_ast.specs.Lawful.{IsName, IsWord, IsNumber, reserved_words}
use Rattle.spf_print_laws.proofs.Pieces.{bytes}
use Rattle.spf_print_laws.proofs.Bytes.{bytes-append}

-- ---- whole pieces

abbrev pub AreWhole : List Piece → List ℕ → Type 0
AreWhole [] after = Unit {0}
AreWhole (p ∷ ps) after = IsPiece p (bytes ps ++ after) × AreWhole ps after

pub whole-append : (ps qs : List Piece) (after : List ℕ) → AreWhole ps (bytes qs ++ after) → AreWhole qs after → AreWhole (ps ++ qs) after
whole-append [] qs after a b = b
whole-append (p ∷ ps) qs after a b =
    (subst (IsPiece p) (sym (append_assoc (bytes ps) (bytes qs) after) ∙ ap (λ l. l ++ after) (sym (bytes-append ps qs))) a.0, whole-append ps qs after a.1 b)

pub cut_of : (ps : List Piece) (after : List ℕ) → AreWhole ps after → IsCut (bytes ps ++ after) ps after
cut_of [] after a = refl
cut_of (p ∷ ps) after a = (bytes ps ++ after, append_assoc (bytes_of p) (bytes ps) after, a.0, cut_of ps after a.1)

-- ---- what comes after

-- a byte that is the second of a sign
abbrev pub is_second : ℕ → Bool
is_second b = eqb b 60 || (eqb b 62 || (eqb b 61 || (eqb b 38 || (eqb b 124 || eqb b 46))))

-- no sign is made longer by these bytes
abbrev pub NoSecond : List ℕ → Type 0
NoSecond [] = Unit {0}
NoSecond (b ∷ rest) = is_second b ≡ false

abbrev pub NoWord : List ℕ → Type 0
NoWord after = EndsBefore IsWordByte after

pub no_word : (b : ℕ) → b < 48 → IsWordByte b → ⊥
no_word b l (inl (inl h)) = omega (arith, l, h.0)
no_word b l (inl (inr (inl h))) = omega (arith, l, h.0)
no_word b l (inl (inr (inr h))) = omega (arith, l, h)
no_word b l (inr h) = omega (arith, l, h.0)

pub no_word-semicolon : IsWordByte 59 → ⊥
no_word-semicolon (inl (inl h)) = omega (arith, h.0)
no_word-semicolon (inl (inr (inl h))) = omega (arith, h.0)
no_word-semicolon (inl (inr (inr h))) = omega (arith, h)
no_word-semicolon (inr h) = omega (arith, h.1)

pub no_word-open : IsWordByte 91 → ⊥
no_word-open (inl (inl h)) = omega (arith, h.1)
no_word-open (inl (inr (inl h))) = omega (arith, h.0)
no_word-open (inl (inr (inr h))) = omega (arith, h)
no_word-open (inr h) = omega (arith, h.1)

pub no_word-close : IsWordByte 93 → ⊥
no_word-close (inl (inl h)) = omega (arith, h.1)
no_word-close (inl (inr (inl h))) = omega (arith, h.0)
no_word-close (inl (inr (inr h))) = omega (arith, h)
no_word-close (inr h) = omega (arith, h.1)

-- ---- signs

-- a sign of one byte
pub record IsShort (t : List ℕ) : Type 0 where
  pub byte : ℕ
  pub is : t ≡ byte ∷ []

-- a sign of two bytes, the second of which may be second, and the first of which isn't a closing bracket
pub record IsLong (t : List ℕ) : Type 0 where
  pub byte : ℕ
  pub other : ℕ
  pub is : t ≡ byte ∷ other ∷ []
  pub second : is_second other ≡ true
  pub first : eqb byte 41 || eqb byte 93 ≡ false

length_of : (x : Sign) → IsShort (sign_spelling x) ⊎ IsLong (sign_spelling x)
length_of sign.Plus = inl (record { byte = 43; is = refl })
length_of sign.Minus = inl (record { byte = 45; is = refl })
length_of sign.Star = inl (record { byte = 42; is = refl })
length_of sign.Slash = inl (record { byte = 47; is = refl })
length_of sign.Percent = inl (record { byte = 37; is = refl })
length_of sign.And = inl (record { byte = 38; is = refl })
length_of sign.Or = inl (record { byte = 124; is = refl })
length_of sign.Xor = inl (record { byte = 94; is = refl })
length_of sign.ShiftLeft = inr (record { byte = 60; other = 60; is = refl; second = refl; first = refl })
length_of sign.ShiftRight = inr (record { byte = 62; other = 62; is = refl; second = refl; first = refl })
length_of sign.Equal = inr (record { byte = 61; other = 61; is = refl; second = refl; first = refl })
length_of sign.NotEqual = inr (record { byte = 33; other = 61; is = refl; second = refl; first = refl })
length_of sign.Less = inl (record { byte = 60; is = refl })
length_of sign.LessEqual = inr (record { byte = 60; other = 61; is = refl; second = refl; first = refl })
length_of sign.Greater = inl (record { byte = 62; is = refl })
length_of sign.GreaterEqual = inr (record { byte = 62; other = 61; is = refl; second = refl; first = refl })
length_of sign.AndAnd = inr (record { byte = 38; other = 38; is = refl; second = refl; first = refl })
length_of sign.OrOr = inr (record { byte = 124; other = 124; is = refl; second = refl; first = refl })
length_of sign.Not = inl (record { byte = 33; is = refl })
length_of sign.Assign = inl (record { byte = 61; is = refl })
length_of sign.OpenParen = inl (record { byte = 40; is = refl })
length_of sign.CloseParen = inl (record { byte = 41; is = refl })
length_of sign.OpenBracket = inl (record { byte = 91; is = refl })
length_of sign.CloseBracket = inl (record { byte = 93; is = refl })
length_of sign.OpenBrace = inl (record { byte = 123; is = refl })
length_of sign.CloseBrace = inl (record { byte = 125; is = refl })
length_of sign.Comma = inl (record { byte = 44; is = refl })
length_of sign.Semicolon = inl (record { byte = 59; is = refl })
length_of sign.DotDot = inr (record { byte = 46; other = 46; is = refl; second = refl; first = refl })

-- a sign of two bytes doesn't begin in one of one byte before these
no_longer : (t o after : List ℕ) → IsShort t → NoSecond after → IsLong o → BeginsWith o (t ++ after) → ⊥
no_longer t o [] short no_ long h =
    let e : short.byte ∷ [] ≡ long.byte ∷ long.other ∷ h.0 = sym (ap (λ x. x ++ []) short.is) ∙ h.1 ∙ ap (λ x. x ++ h.0) long.is in cc
no_longer t o (b ∷ rest) short no_ long h =
    let e : short.byte ∷ b ∷ rest ≡ long.byte ∷ long.other ∷ h.0 = sym (ap (λ x. x ++ b ∷ rest) short.is) ∙ h.1 ∙ ap (λ x. x ++ h.0) long.is in
    let same : b ≡ long.other = cc in
    let f : true ≡ false = sym long.second ∙ ap is_second (sym same) ∙ no_ in cc

-- nor in a closing bracket
no_longer_closing : (t o after : List ℕ) (short : IsShort t) → eqb short.byte 41 || eqb short.byte 93 ≡ true → IsLong o → BeginsWith o (t ++ after) → ⊥
no_longer_closing t o after short closing long h =
    let e : short.byte ∷ after ≡ long.byte ∷ long.other ∷ h.0 = sym (ap (λ x. x ++ after) short.is) ∙ h.1 ∙ ap (λ x. x ++ h.0) long.is in
    let same : short.byte ≡ long.byte = cc in
    let f : true ≡ false = sym closing ∙ ap (λ b. eqb b 41 || eqb b 93) same ∙ long.first in cc

size_of_short : (t : List ℕ) → IsShort t → length t ≡ 1
size_of_short t h = ap length h.is

size_of_long : (t : List ℕ) → IsLong t → length t ≡ 2
size_of_long t h = ap length h.is

-- no longer sign stands where this one does
pub sign_spells : (x : Sign) (after : List ℕ) → NoSecond after → Spells (kind.Sign x) (sign_spelling x) after
sign_spells x after no_ = (refl, λ other h. longest other h)
  where
    longest : (other : Sign) → BeginsWith (sign_spelling other) (sign_spelling x ++ after) → length (sign_spelling other) ≤ length (sign_spelling x)
    longest other h = elim (length_of other) [
      | inl o ↦ elim (length_of x) [
        | inl y ↦ omega (arith, size_of_short (sign_spelling other) o, size_of_short (sign_spelling x) y)
        | inr y ↦ omega (arith, size_of_short (sign_spelling other) o, size_of_long (sign_spelling x) y)
      ]
      | inr o ↦ elim (length_of x) [
        | inl y ↦ absurd (no_longer (sign_spelling x) (sign_spelling other) after y no_ o h)
        | inr y ↦ omega (arith, size_of_long (sign_spelling other) o, size_of_long (sign_spelling x) y)
      ]
    ]

-- so it is after a closing bracket, whatever comes after
closing_spells : (x : Sign) (after : List ℕ) (short : IsShort (sign_spelling x)) → eqb short.byte 41 || eqb short.byte 93 ≡ true → Spells (kind.Sign x) (sign_spelling x) after
closing_spells x after short closing = (refl, λ other h. longest other h)
  where
    longest : (other : Sign) → BeginsWith (sign_spelling other) (sign_spelling x ++ after) → length (sign_spelling other) ≤ length (sign_spelling x)
    longest other h = elim (length_of other) [
      | inl o ↦ omega (arith, size_of_short (sign_spelling other) o, size_of_short (sign_spelling x) short)
      | inr o ↦ absurd (no_longer_closing (sign_spelling x) (sign_spelling other) after short closing o h)
    ]

pub paren_spells : (after : List ℕ) → Spells (kind.Sign sign.CloseParen) (sign_spelling sign.CloseParen) after
paren_spells after = closing_spells sign.CloseParen after (record { byte = 41; is = refl }) refl

pub bracket_spells : (after : List ℕ) → Spells (kind.Sign sign.CloseBracket) (sign_spelling sign.CloseBracket) after
bracket_spells after = closing_spells sign.CloseBracket after (record { byte = 93; is = refl }) refl

-- ---- words, names and numbers

pub word_spells : (k : Keyword) (after : List ℕ) → NoWord after → Spells (kind.Keyword k) (word_spelling k) after
word_spells k after no_ = (refl, no_)

-- each keyword is a reserved word
reserved : (k : Keyword) → Contains reserved_words (word_spelling k)
reserved word.Array = (0, lit< tt, refl)
reserved word.Fn = (1, lit< tt, refl)
reserved word.Main = (2, lit< tt, refl)
reserved word.Let = (3, lit< tt, refl)
reserved word.Fill = (4, lit< tt, refl)
reserved word.Emit = (5, lit< tt, refl)
reserved word.Fail = (6, lit< tt, refl)
reserved word.If = (7, lit< tt, refl)
reserved word.Else = (8, lit< tt, refl)
reserved word.For = (9, lit< tt, refl)
reserved word.In = (10, lit< tt, refl)
reserved word.While = (11, lit< tt, refl)
reserved word.Max = (12, lit< tt, refl)
reserved word.Specfold = (13, lit< tt, refl)
reserved word.Spec = (14, lit< tt, refl)
reserved word.Predict = (15, lit< tt, refl)
reserved word.Host = (16, lit< tt, refl)
reserved word.Give = (17, lit< tt, refl)
reserved word.Next = (18, lit< tt, refl)
reserved word.Return = (19, lit< tt, refl)
reserved word.Len = (20, lit< tt, refl)
reserved word.Input = (21, lit< tt, refl)
reserved word.Break = (22, lit< tt, refl)
reserved word.Version = (23, lit< tt, refl)

begins_of : (x : List ℕ) → IsWord x → Begins IsLetter IsWordByte x
begins_of [] h = absurd h
begins_of (b ∷ rest) h = h

pub name_spells : (x after : List ℕ) → IsName x → NoWord after → Spells kind.Name x after
name_spells x after h no_ = (begins_of x h.0, no_, λ k e. h.1 (subst (Contains reserved_words) (sym e) (reserved k)))

pub numeral_model : IsNumeralModel (AllByRecursion IsDigit) (number_from 0)
numeral_model = numerals_by_fold (AllByRecursion IsDigit) (search rules) number_from (search rules)

digits_begin : (ds : List ℕ) → 0 < length ds → AllByRecursion IsDigit ds → Begins IsDigit IsDigit ds
digits_begin [] some h = absurd (omega (arith, some))
digits_begin (d ∷ ds) some h = (h.0, All-from_recursion IsDigit ds h.1)

no_digit : (after : List ℕ) → NoWord after → EndsBefore IsDigit after
no_digit [] h = tt
no_digit (b ∷ rest) h = λ d. h (inr d)

pub count_spells : (n : ℕ) (after : List ℕ) → n < 2 ^ 63 → NoWord after → Spells (kind.Number (pos n)) (decimal n) after
count_spells n after l no_ =
    let small : n < 2 ^ 64 = omega (arith, l) in
    let value : number_from 0 (decimal n) ≡ n = digits_value-decimal numeral_model n small in
    (digits_begin (decimal n) (decimal_nonempty n small) (digits_decimal numeral_model n small), no_digit after no_, ap pos (sym value), omega (arith, l, value))

pub number_spells : (n : ℤ) (after : List ℕ) → IsNumber n → NoWord after → Spells (kind.Number n) (signed_decimal n) after
number_spells (pos n) after h no_ = count_spells n after (omega (arith, ints, h)) no_
number_spells (negsuc n) after h no_ = absurd (omega (arith, ints, h))

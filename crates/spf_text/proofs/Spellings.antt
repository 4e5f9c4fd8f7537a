-- How words and signs are spelled: each in a way of its own, and each beginning with a byte of its own kind.
use Rattle.std.proofs.Common.{◌≡◌, ℕ, ◌≤◌, Bool, true, false, cond, ◌||◌, eqb, leb, bytes_eq, List, [], ◌∷◌, refl, sym, ap, ◌∙◌, inl, inr, arith}
use Rattle.std.specs.List.{AllByRecursion}
use Rattle.std.proofs.lemmas.List.Elements.{All-from_recursion}
use Rattle.std.proofs.lemmas.Bool.Decides.{nat_tests}
use Rattle.spf_text.specs.declared.token.Keyword.{Keyword}
use Rattle.spf_text.specs.declared.token.Keyword.TheVariants as word
use Rattle.spf_text.specs.declared.token.Sign.{Sign}
use Rattle.spf_text.specs.declared.token.Sign.TheVariants as sign
use Rattle.spf_text.specs.Tokens.{IsLetter, IsWordByte, Begins, word_spelling, sign_spelling}

-- ---- each spelling belongs to one

-- the first of these whose spelling this is
abbrev pub spelled_so : {A : Type 0} → (A → List ℕ) → A → List A → List ℕ → A
spelled_so spelling d [] xs = d
spelled_so spelling d (w ∷ ws) xs = cond (bytes_eq (spelling w) xs) w (spelled_so spelling d ws xs)

-- all reserved words
abbrev pub words : List Keyword
words =
    word.Array ∷ word.Fn ∷ word.Main ∷ word.Let ∷ word.Fill ∷ word.Emit ∷ word.Fail ∷ word.If ∷ word.Else ∷ word.For ∷ word.In ∷ word.While ∷ word.Max ∷ word.Specfold ∷ word.Spec ∷ word.Predict ∷ word.Host ∷ word.Give ∷ word.Next ∷ word.Return ∷ word.Len ∷ word.Input ∷ word.Break ∷ word.Version ∷ []

-- all signs
abbrev pub signs : List Sign
signs =
    sign.Plus ∷ sign.Minus ∷ sign.Star ∷ sign.Slash ∷ sign.Percent ∷ sign.And ∷ sign.Or ∷ sign.Xor ∷ sign.ShiftLeft ∷ sign.ShiftRight ∷ sign.Equal ∷ sign.NotEqual ∷ sign.Less ∷ sign.LessEqual ∷ sign.Greater ∷ sign.GreaterEqual ∷ sign.AndAnd ∷ sign.OrOr ∷ sign.Not ∷ sign.Assign ∷ sign.OpenParen ∷ sign.CloseParen ∷ sign.OpenBracket ∷ sign.CloseBracket ∷ sign.OpenBrace ∷ sign.CloseBrace ∷ sign.Comma ∷ sign.Semicolon ∷ sign.DotDot ∷ []

-- a reserved word is found by its spelling
pub word_again : (w : Keyword) → spelled_so word_spelling word.Array words (word_spelling w) ≡ w
word_again word.Array = refl
word_again _ = refl

-- a sign is found by its spelling
pub sign_again : (s : Sign) → spelled_so sign_spelling sign.Plus signs (sign_spelling s) ≡ s
sign_again sign.Plus = refl
sign_again _ = refl

-- reserved words that are spelled alike are the same
pub word_spelling-injective : (v w : Keyword) → word_spelling v ≡ word_spelling w → v ≡ w
word_spelling-injective v w e = sym (word_again v) ∙ ap (spelled_so word_spelling word.Array words) e ∙ word_again w

-- signs that are spelled alike are the same
pub sign_spelling-injective : (s t : Sign) → sign_spelling s ≡ sign_spelling t → s ≡ t
sign_spelling-injective s t e = sym (sign_again s) ∙ ap (spelled_so sign_spelling sign.Plus signs) e ∙ sign_again t

-- ---- words are made of letters

-- whether each byte is `a` to `z`
abbrev all_lower : List ℕ → Bool
all_lower [] = true
all_lower (x ∷ xs) = cond (leb 97 x) (cond (leb x 122) (all_lower xs) false) false

-- the same, of at least one byte
abbrev is_lower : List ℕ → Bool
is_lower [] = false
is_lower (x ∷ xs) = all_lower (x ∷ xs)

-- reserved words are spelled with `a` to `z`
word-is_lower : (w : Keyword) → is_lower (word_spelling w) ≡ true
word-is_lower word.Array = refl
word-is_lower _ = refl

-- what the test of one byte tells
lower_head : (x : ℕ) (b : Bool) → cond (leb 97 x) (cond (leb x 122) b false) false ≡ true → (97 ≤ x) × (x ≤ 122) × (b ≡ true)
lower_head x b h = (grind (arith, nat_tests), grind (arith, nat_tests), grind (arith, nat_tests))

-- letters from `a` to `z` may stand in a name
lower_run : (xs : List ℕ) → all_lower xs ≡ true → AllByRecursion IsWordByte xs
lower_run [] h = tt
lower_run (x ∷ xs) h = let t = lower_head x (all_lower xs) h in (inl (inr (inl (t.0, t.1))), lower_run xs t.2)

-- letters from `a` to `z` may be a name
begins_from_lower : (xs : List ℕ) → is_lower xs ≡ true → Begins IsLetter IsWordByte xs
begins_from_lower [] h = absurd (cc)
begins_from_lower (x ∷ xs) h =
    let t = lower_head x (all_lower xs) h in
    (inr (inl (t.0, t.1)), All-from_recursion IsWordByte xs (lower_run xs t.2))

-- a reserved word could be a name
pub word-Begins : (w : Keyword) → Begins IsLetter IsWordByte (word_spelling w)
word-Begins w = begins_from_lower (word_spelling w) (word-is_lower w)

-- ---- signs begin with bytes of their own

-- whether a number is from `low` to `high`
abbrev within : ℕ → ℕ → ℕ → Bool
within low high b = cond (leb low b) (leb b high) false

-- whether a sign may begin with this byte
abbrev pub is_sign_byte : ℕ → Bool
is_sign_byte b = eqb b 33 || (within 36 47 b || (within 58 64 b || (within 91 94 b || within 123 126 b)))

-- whether the first byte is one of a sign
abbrev begins_sign : List ℕ → Bool
begins_sign [] = false
begins_sign (b ∷ rest) = is_sign_byte b

-- each sign begins with such a byte
sign-begins : (s : Sign) → begins_sign (sign_spelling s) ≡ true
sign-begins sign.Plus = refl
sign-begins _ = refl

-- that first byte, and the rest
first_of_sign : (xs : List ℕ) → begins_sign xs ≡ true → (b : ℕ) × (rest : List ℕ) × (xs ≡ b ∷ rest) × (is_sign_byte b ≡ true)
first_of_sign [] h = absurd (cc)
first_of_sign (b ∷ rest) h = (b, rest, refl, h)

-- a sign begins with a byte of a sign
pub sign-first : (s : Sign) → (b : ℕ) × (rest : List ℕ) × (sign_spelling s ≡ b ∷ rest) × (is_sign_byte b ≡ true)
sign-first s = first_of_sign (sign_spelling s) (sign-begins s)

-- Which tokens a part may begin with, by computation.
use Rattle.std.proofs.Common.{◌≡◌, ℕ, zero, suc, ◌<◌, Bool, true, false, List, [], ◌∷◌, refl, sym, subst, arith, inl, inr, Option, Some, None, nat_eq, pos}
use Rattle.std.specs.Prelude.{nat_lt, ◌||◌}
use Rattle.std.proofs.lemmas.Bool.Decides.{nat_tests}
use Rattle.spf_text.specs.declared.token.Keyword.{Keyword}
use Rattle.spf_text.specs.declared.token.Keyword.TheVariants as word
use Rattle.spf_text.specs.declared.token.Sign.{Sign}
use Rattle.spf_text.specs.declared.token.Sign.TheVariants as sign
use Rattle.spf_text.specs.declared.token.TokenKind.{TokenKind}
use Rattle.spf_text.specs.declared.token.TokenKind.TheVariants as kind
use Rattle.spf_parse_grammar.specs.Lexemes.{Lexeme}
use Rattle.spf_parse_grammar.specs.Parts.{Part, token, opens, operator, name, number, count, lined, Value, Rule, give, part, either}
use Rattle.spf_parse_grammar.specs.Rules.{rule, rank_of}
use Rattle.spf_parse_grammar.specs.Derivations.{Says, Reading}
use Rattle.spf_parse_parts.specs.Answers.{ahead, reach, Stops}
use Rattle.spf_parse_grammar.proofs.Derivations.{to_rule}

-- a number for each kind of token
abbrev pub word_tag : Keyword → ℕ
word_tag word.Array = 2
word_tag word.Fn = 3
word_tag word.Main = 4
word_tag word.Let = 5
word_tag word.Fill = 6
word_tag word.Emit = 7
word_tag word.Fail = 8
word_tag word.If = 9
word_tag word.Else = 10
word_tag word.For = 11
word_tag word.In = 12
word_tag word.While = 13
word_tag word.Max = 14
word_tag word.Specfold = 15
word_tag word.Spec = 16
word_tag word.Predict = 17
word_tag word.Host = 18
word_tag word.Give = 19
word_tag word.Next = 20
word_tag word.Return = 21
word_tag word.Len = 22
word_tag word.Input = 23
word_tag word.Break = 24
word_tag word.Version = 25

abbrev pub sign_tag : Sign → ℕ
sign_tag sign.Plus = 30
sign_tag sign.Minus = 31
sign_tag sign.Star = 32
sign_tag sign.Slash = 33
sign_tag sign.Percent = 34
sign_tag sign.And = 35
sign_tag sign.Or = 36
sign_tag sign.Xor = 37
sign_tag sign.ShiftLeft = 38
sign_tag sign.ShiftRight = 39
sign_tag sign.Equal = 40
sign_tag sign.NotEqual = 41
sign_tag sign.Less = 42
sign_tag sign.LessEqual = 43
sign_tag sign.Greater = 44
sign_tag sign.GreaterEqual = 45
sign_tag sign.AndAnd = 46
sign_tag sign.OrOr = 47
sign_tag sign.Not = 48
sign_tag sign.Assign = 49
sign_tag sign.OpenParen = 50
sign_tag sign.CloseParen = 51
sign_tag sign.OpenBracket = 52
sign_tag sign.CloseBracket = 53
sign_tag sign.OpenBrace = 54
sign_tag sign.CloseBrace = 55
sign_tag sign.Comma = 56
sign_tag sign.Semicolon = 57
sign_tag sign.DotDot = 58

abbrev pub tag : TokenKind → ℕ
tag kind.Name = 0
tag (kind.Number n) = 1
tag (kind.Keyword w) = word_tag w
tag (kind.Sign s) = sign_tag s

-- the next token has this tag, or this rank
abbrev pub tagged : ℕ → Option TokenKind → Bool
tagged n None = false
tagged n (Some k) = nat_eq n (tag k)

abbrev pub ranked : ℕ → Option TokenKind → Bool
ranked rank (Some (kind.Sign s)) = nat_eq (rank_of s) rank
ranked rank w = false

-- this level stops at the next token
abbrev pub stops_at : ℕ → Option TokenKind → Bool
stops_at n None = true
stops_at n (Some k) = nat_lt n (reach k)

-- a rule may begin with this token, or be empty before it, where this level stops at what comes after it
abbrev pub may : (Part → Option TokenKind → Bool) → ℕ → {A : Type 0} → Rule A → Option TokenKind → Bool
may parts n (give a) w = stops_at n w
may parts n (part p r) w = parts p w
may parts n (either r s) w = may parts n r w || may parts n s w

abbrev pub begins : ℕ → Part → Option TokenKind → Bool
begins fuel (token k) w = tagged (tag k) w
begins fuel (opens n s) w = tagged (sign_tag s) w
begins fuel (operator rank used) w = ranked rank w
begins fuel name w = tagged 0 w
begins fuel number w = tagged 1 w
begins fuel count w = tagged 1 w
begins zero p w = true
begins (suc fuel) (lined p) w = begins fuel p w
begins (suc fuel) p w = may (begins fuel) 0 (rule p) w

-- ---- and they begin with no others

or_left : (a b : Bool) → a ≡ true → (a || b) ≡ true
or_left true b h = refl
or_left false b h = let f : false ≡ true = h in absurd cc

or_right : (a b : Bool) → b ≡ true → (a || b) ≡ true
or_right true b h = refl
or_right false b h = h

pub same_tag : (n : ℕ) → nat_eq n n ≡ true
same_tag n = grind (arith, nat_tests)

tagged_is : (k : TokenKind) (t : Lexeme) → t.kind ≡ k → tagged (tag k) (Some t.kind) ≡ true
tagged_is k t is = subst (λ m. nat_eq (tag k) (tag m) ≡ true) (sym is) (same_tag (tag k))

ranked_is : (rank : ℕ) (t : Lexeme) (s : Sign) → t.kind ≡ kind.Sign s → rank_of s ≡ rank → ranked rank (Some t.kind) ≡ true
ranked_is rank t s is r = subst (λ m. ranked rank (Some m) ≡ true) (sym is) (subst (λ n. nat_eq (rank_of s) n ≡ true) r (same_tag (rank_of s)))

pub stops_is : (n : ℕ) (vs : List Lexeme) → Stops n vs → stops_at n (ahead vs) ≡ true
stops_is n [] s = refl
stops_is n (t ∷ vs) s = grind (arith, nat_tests)

pub may_is : (parts : Part → Option TokenKind → Bool) (free n : ℕ) →
    ((p : Part) (k : List Lexeme) (x : Value p) (us : List Lexeme) → Says free p k x us → parts p (ahead k) ≡ true) →
    {A : Type 0} (r : Rule A) (k : List Lexeme) (b : A) (vs : List Lexeme) → Reading free r k b vs → Stops n vs → may parts n r (ahead k) ≡ true
may_is parts free n h (give a) k b vs d s = subst (λ l. stops_at n (ahead l) ≡ true) d.1 (stops_is n vs s)
may_is parts free n h (part p r) k b vs d s = h p k d.0 d.1 d.2
may_is parts free n h (either r t) k b vs (inl d) s = or_left (may parts n r (ahead k)) (may parts n t (ahead k)) (may_is parts free n h r k b vs d s)
may_is parts free n h (either r t) k b vs (inr d) s = or_right (may parts n r (ahead k)) (may parts n t (ahead k)) (may_is parts free n h t k b vs d s)

pub some_reach : (k : TokenKind) → 0 < reach k
some_reach kind.Name = omega arith
some_reach (kind.Number n) = omega arith
some_reach (kind.Keyword w) = word_reach w
  where
    word_reach : (w : Keyword) → 0 < reach (kind.Keyword w)
    word_reach word.Let = omega arith
    word_reach w = omega arith
some_reach (kind.Sign s) = sign_reach s
  where
    sign_reach : (s : Sign) → 0 < reach (kind.Sign s)
    sign_reach sign.OpenParen = omega arith
    sign_reach s = omega arith

pub stops_all : (ts : List Lexeme) → Stops 0 ts
stops_all [] = tt
stops_all (t ∷ ts) = some_reach t.kind

pub begins_is : (fuel free : ℕ) (p : Part) (k : List Lexeme) (x : Value p) (us : List Lexeme) → Says free p k x us → begins fuel p (ahead k) ≡ true
begins_is fuel free (token w) [] x us d = elim d.1 [ ]
begins_is fuel free (token w) (t ∷ k) x us d = tagged_is w t d.1.0.0
begins_is fuel free (opens n s) [] x us d = elim d.1.1 [ ]
begins_is fuel free (opens n s) (t ∷ k) x us d = tagged_is (kind.Sign s) t d.1.1.0
begins_is fuel free (operator rank used) [] x us d = elim d.1.1 [ ]
begins_is fuel free (operator rank used) (t ∷ k) x us d = ranked_is rank t x d.1.1.0.0 d.1.1.0.1
begins_is fuel free name [] x us d = elim d.1 [ ]
begins_is fuel free name (t ∷ k) x us d = tagged_is kind.Name t d.1.0.0
begins_is fuel free number [] x us d = elim d.1 [ ]
begins_is fuel free number (t ∷ k) x us d = tagged_is (kind.Number x) t d.1.0
begins_is fuel free count [] x us d = elim d.1 [ ]
begins_is fuel free count (t ∷ k) x us d = tagged_is (kind.Number (pos x)) t d.1.0
begins_is zero free p k x us d = refl
begins_is (suc fuel) free (lined p) k x us (zero, d) = elim d [ ]
begins_is (suc fuel) free (lined p) k x us (suc depth, d) = begins_is fuel free p k x.1 us (depth, d.1)
begins_is (suc fuel) free p k x us d = may_is (begins fuel) free 0 (λ q k x us. begins_is fuel free q k x us) (rule p) k x us (to_rule free p k x us d) (stops_all us)

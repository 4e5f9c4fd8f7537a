-- The grammar is unambiguous: no two alternatives begin with the same token.
use Rattle.std.proofs.Common.{◌≡◌, ℕ, ◌+◌, ◌<◌, zero, suc, Bool, true, false, not, List, [], ◌∷◌, length, Option, Some, None, ℤ, refl, arith, get_or, nat_eq}
use Rattle.std.specs.Prelude.{◌&&◌, IsTrue, if◌then◌else◌, nat_lt}
use Rattle.std.proofs.lemmas.Bool.Decides.{nat_tests}
use Rattle.spf_text.specs.declared.token.Keyword.{Keyword}
use Rattle.spf_text.specs.declared.token.Keyword.TheVariants as word
use Rattle.spf_text.specs.declared.token.Sign.{Sign}
use Rattle.spf_text.specs.declared.token.Sign.TheVariants as sign
use Rattle.spf_text.specs.declared.token.TokenKind.{TokenKind}
use Rattle.spf_text.specs.declared.token.TokenKind.TheVariants as kind
use Rattle.spf_ast.specs.RawSyntax.{RawExpression, RawPredictor}
use Rattle.spf_parse_grammar.specs.Lexemes.{Lexeme}
use Rattle.spf_parse_grammar.specs.Parts.{Part, token, opens, many, few, lined, expression, next_argument, predictor, next_predictor, form, array, next_parameter, function, statement, keyword, Value, Rule, give, part, either}
use Rattle.spf_parse_grammar.specs.Rules.{rank_of, expression_rule, level_rule, further_rule, compared_rule, operand_rule, arguments_rule, next_argument_rule, names_rule, predictor_rule, next_predictor_rule, plain_form, break_form, form_rule, block_rule, otherwise_rule, version_rule, size_rule, array_rule, parameters_rule, next_parameter_rule, function_rule, program_rule, many_rule}
use Rattle.spf_parse_parts.specs.Answers.{reach, Stops, stop}
use Rattle.spf_parse_parts.proofs.Beginnings.{stops_at, ranked, may, begins}
use Rattle.spf_parse_parts.proofs.Follows.{Follows, operator_reach}

-- ---- tests of every token

abbrev words : List Keyword
words =
    word.Array ∷ word.Fn ∷ word.Main ∷ word.Let ∷ word.Fill ∷ word.Emit ∷ word.Fail ∷ word.If ∷ word.Else ∷ word.For ∷ word.In ∷ word.While ∷ word.Max ∷ word.Specfold ∷ word.Spec ∷ word.Predict ∷ word.Host ∷ word.Give ∷ word.Next ∷ word.Return ∷ word.Len ∷ word.Input ∷ word.Break ∷ word.Version ∷ []

abbrev signs : List Sign
signs =
    sign.Plus ∷ sign.Minus ∷ sign.Star ∷ sign.Slash ∷ sign.Percent ∷ sign.And ∷ sign.Or ∷ sign.Xor ∷ sign.ShiftLeft ∷ sign.ShiftRight ∷ sign.Equal ∷ sign.NotEqual ∷ sign.Less ∷ sign.LessEqual ∷ sign.Greater ∷ sign.GreaterEqual ∷ sign.AndAnd ∷ sign.OrOr ∷ sign.Not ∷ sign.Assign ∷ sign.OpenParen ∷ sign.CloseParen ∷ sign.OpenBracket ∷ sign.CloseBracket ∷ sign.OpenBrace ∷ sign.CloseBrace ∷ sign.Comma ∷ sign.Semicolon ∷ sign.DotDot ∷ []

abbrev every : {A : Type 0} → (A → Bool) → List A → Bool
every P [] = true
every P (x ∷ xs) = P x && every P xs

both : (a b : Bool) → (a && b) ≡ true → (a ≡ true) × (b ≡ true)
both true b e = (refl, e)
both false b e = cc

every_at : {A : Type 0} (P : A → Bool) (xs : List A) (k : ℕ) (d : A) → every P xs ≡ true → k < length xs → P (get_or xs k d) ≡ true
every_at P [] k d e h = absurd (omega (arith, h))
every_at P (x ∷ xs) zero d e h = (both (P x) (every P xs) e).0
every_at P (x ∷ xs) (suc k) d e h = every_at P xs k d (both (P x) (every P xs) e).1 (omega (arith, h))

every_word : (P : Keyword → Bool) → every P words ≡ true → (w : Keyword) → P w ≡ true
every_word P e word.Array = every_at P words 0 word.Array e (omega arith)
every_word P e word.Fn = every_at P words 1 word.Fn e (omega arith)
every_word P e word.Main = every_at P words 2 word.Main e (omega arith)
every_word P e word.Let = every_at P words 3 word.Let e (omega arith)
every_word P e word.Fill = every_at P words 4 word.Fill e (omega arith)
every_word P e word.Emit = every_at P words 5 word.Emit e (omega arith)
every_word P e word.Fail = every_at P words 6 word.Fail e (omega arith)
every_word P e word.If = every_at P words 7 word.If e (omega arith)
every_word P e word.Else = every_at P words 8 word.Else e (omega arith)
every_word P e word.For = every_at P words 9 word.For e (omega arith)
every_word P e word.In = every_at P words 10 word.In e (omega arith)
every_word P e word.While = every_at P words 11 word.While e (omega arith)
every_word P e word.Max = every_at P words 12 word.Max e (omega arith)
every_word P e word.Specfold = every_at P words 13 word.Specfold e (omega arith)
every_word P e word.Spec = every_at P words 14 word.Spec e (omega arith)
every_word P e word.Predict = every_at P words 15 word.Predict e (omega arith)
every_word P e word.Host = every_at P words 16 word.Host e (omega arith)
every_word P e word.Give = every_at P words 17 word.Give e (omega arith)
every_word P e word.Next = every_at P words 18 word.Next e (omega arith)
every_word P e word.Return = every_at P words 19 word.Return e (omega arith)
every_word P e word.Len = every_at P words 20 word.Len e (omega arith)
every_word P e word.Input = every_at P words 21 word.Input e (omega arith)
every_word P e word.Break = every_at P words 22 word.Break e (omega arith)
every_word P e word.Version = every_at P words 23 word.Version e (omega arith)

every_sign : (P : Sign → Bool) → every P signs ≡ true → (s : Sign) → P s ≡ true
every_sign P e sign.Plus = every_at P signs 0 sign.Plus e (omega arith)
every_sign P e sign.Minus = every_at P signs 1 sign.Minus e (omega arith)
every_sign P e sign.Star = every_at P signs 2 sign.Star e (omega arith)
every_sign P e sign.Slash = every_at P signs 3 sign.Slash e (omega arith)
every_sign P e sign.Percent = every_at P signs 4 sign.Percent e (omega arith)
every_sign P e sign.And = every_at P signs 5 sign.And e (omega arith)
every_sign P e sign.Or = every_at P signs 6 sign.Or e (omega arith)
every_sign P e sign.Xor = every_at P signs 7 sign.Xor e (omega arith)
every_sign P e sign.ShiftLeft = every_at P signs 8 sign.ShiftLeft e (omega arith)
every_sign P e sign.ShiftRight = every_at P signs 9 sign.ShiftRight e (omega arith)
every_sign P e sign.Equal = every_at P signs 10 sign.Equal e (omega arith)
every_sign P e sign.NotEqual = every_at P signs 11 sign.NotEqual e (omega arith)
every_sign P e sign.Less = every_at P signs 12 sign.Less e (omega arith)
every_sign P e sign.LessEqual = every_at P signs 13 sign.LessEqual e (omega arith)
every_sign P e sign.Greater = every_at P signs 14 sign.Greater e (omega arith)
every_sign P e sign.GreaterEqual = every_at P signs 15 sign.GreaterEqual e (omega arith)
every_sign P e sign.AndAnd = every_at P signs 16 sign.AndAnd e (omega arith)
every_sign P e sign.OrOr = every_at P signs 17 sign.OrOr e (omega arith)
every_sign P e sign.Not = every_at P signs 18 sign.Not e (omega arith)
every_sign P e sign.Assign = every_at P signs 19 sign.Assign e (omega arith)
every_sign P e sign.OpenParen = every_at P signs 20 sign.OpenParen e (omega arith)
every_sign P e sign.CloseParen = every_at P signs 21 sign.CloseParen e (omega arith)
every_sign P e sign.OpenBracket = every_at P signs 22 sign.OpenBracket e (omega arith)
every_sign P e sign.CloseBracket = every_at P signs 23 sign.CloseBracket e (omega arith)
every_sign P e sign.OpenBrace = every_at P signs 24 sign.OpenBrace e (omega arith)
every_sign P e sign.CloseBrace = every_at P signs 25 sign.CloseBrace e (omega arith)
every_sign P e sign.Comma = every_at P signs 26 sign.Comma e (omega arith)
every_sign P e sign.Semicolon = every_at P signs 27 sign.Semicolon e (omega arith)
every_sign P e sign.DotDot = every_at P signs 28 sign.DotDot e (omega arith)

-- no token passes both tests
record IsNowhere (f g : Option TokenKind → Bool) : Type 0 where
  pub none : (f None && g None) ≡ false
  pub name : (f (Some kind.Name) && g (Some kind.Name)) ≡ false
  pub number : (n : ℤ) → (f (Some (kind.Number n)) && g (Some (kind.Number n))) ≡ false
  pub words : every (λ w. not (f (Some (kind.Keyword w)) && g (Some (kind.Keyword w)))) words ≡ true
  pub signs : every (λ s. not (f (Some (kind.Sign s)) && g (Some (kind.Sign s)))) signs ≡ true

not_both : (a b : Bool) → (a && b) ≡ false → a ≡ true → b ≡ true → ⊥
not_both true b e f g = cc
not_both false b e f g = cc

negated : (a : Bool) → not a ≡ true → a ≡ false
negated true e = cc
negated false e = refl

nowhere : {f g : Option TokenKind → Bool} → IsNowhere f g → (w : Option TokenKind) → f w ≡ true → g w ≡ true → ⊥
nowhere {f} {g} h None = not_both (f None) (g None) h.none
nowhere {f} {g} h (Some kind.Name) = not_both (f (Some kind.Name)) (g (Some kind.Name)) h.name
nowhere {f} {g} h (Some (kind.Number n)) = not_both (f (Some (kind.Number n))) (g (Some (kind.Number n))) (h.number n)
nowhere {f} {g} h (Some (kind.Keyword w)) = not_both (f (Some (kind.Keyword w))) (g (Some (kind.Keyword w))) (negated _ (every_word (λ w. not (f (Some (kind.Keyword w)) && g (Some (kind.Keyword w)))) h.words w))
nowhere {f} {g} h (Some (kind.Sign s)) = not_both (f (Some (kind.Sign s))) (g (Some (kind.Sign s))) (negated _ (every_sign (λ s. not (f (Some (kind.Sign s)) && g (Some (kind.Sign s)))) h.signs s))

-- ---- what makes a rule clear

-- how many steps lead from a part to the tokens that it may begin with
abbrev pub fuel : ℕ
fuel = 14

-- lists of these parts occur, and lines of statements
abbrev pub is_listed : Part → Bool
is_listed (next_argument n) = true
is_listed next_parameter = true
is_listed array = true
is_listed (function breaks) = true
is_listed (lined (form breaks n)) = true
is_listed p = false

-- short lists of these parts occur
abbrev pub is_row_part : Part → Bool
is_row_part (next_argument n) = true
is_row_part (next_predictor n) = true
is_row_part next_parameter = true
is_row_part p = false

abbrev pub is_used : Part → Bool
is_used (many p) = is_listed p
is_used (few most p) = is_row_part p
is_used (lined (form breaks n)) = true
is_used (lined p) = false
is_used p = true

-- the level up to which a part is read
abbrev pub level_of : Part → ℕ
level_of (next_argument n) = 10
level_of (next_predictor n) = 10
level_of p = stop p

-- a closing parenthesis comes next
abbrev pub IsClosed : List Lexeme → Type 0
IsClosed [] = ⊥
IsClosed (t ∷ ts) = t.kind ≡ kind.Sign sign.CloseParen

-- what comes next belongs no more to the part
abbrev pub Ends : Part → List Lexeme → Type 0
Ends (many (next_argument n)) ts = IsClosed ts
Ends (many next_parameter) ts = IsClosed ts
Ends (few most p) ts = IsClosed ts
Ends p ts = Stops (level_of p) ts

abbrev pub Closes : {A : Type 0} → Rule A → Type 0
Closes (part (token k) r) = k ≡ kind.Sign sign.CloseParen
Closes r = ⊥

-- what this rule says ends the part, where what comes after it stops the level
abbrev pub Precedes : Part → ℕ → {A : Type 0} → Rule A → Type 0
Precedes (many (next_argument k)) n r = Closes r
Precedes (many next_parameter) n r = Closes r
Precedes (few most p) n r = Closes r
Precedes p n r = Follows (level_of p) n r

-- two rules begin with different tokens
abbrev pub Differ : ℕ → {A : Type 0} → Rule A → Rule A → Type 0
Differ n r s = (w : Option TokenKind) → may (begins fuel) n r w ≡ true → may (begins fuel) n s w ≡ true → ⊥

-- alternatives begin with different tokens, and after each part comes what ends it
abbrev pub IsClear : ℕ → {A : Type 0} → Rule A → Type 0
IsClear n (give a) = Unit {0}
IsClear n (part p r) = IsTrue (is_used p) × ((x : Value p) → Precedes p n (r x)) × ((x : Value p) → IsClear n (r x))
IsClear n (either r s) = Differ n r s × IsClear n r × IsClear n s

-- ---- each production is clear

-- an expression as a row, and several in parentheses
abbrev pub one_row : ℕ → Rule (List RawExpression)
one_row n = part (expression n) (λ a. give (a ∷ []))

abbrev pub row_rest : ℕ → RawExpression → Rule (List RawExpression)
row_rest n a =
    part (next_argument (n + 1))
    (λ b. part (few 2 (next_argument (n + 1)))
    (λ more. part (token (kind.Sign sign.CloseParen))
    (λ l. give (a ∷ b ∷ more))))

abbrev pub some_row : ℕ → Rule (List RawExpression)
some_row n = part (opens n sign.OpenParen) (λ o. part (expression (n + 1)) (row_rest n))

-- the same of predictors
abbrev pub one_guess : ℕ → Rule (List RawPredictor)
one_guess n = part (predictor n) (λ g. give (g ∷ []))

abbrev pub guess_rest : ℕ → RawPredictor → Rule (List RawPredictor)
guess_rest n g =
    part (next_predictor (n + 1))
    (λ h. part (few 2 (next_predictor (n + 1)))
    (λ more. part (token (kind.Sign sign.CloseParen))
    (λ l. give (g ∷ h ∷ more))))

abbrev pub some_guess : ℕ → Rule (List RawPredictor)
some_guess n = part (opens n sign.OpenParen) (λ o. part (predictor (n + 1)) (guess_rest n))

-- a header with this version
abbrev pub written_version : ℕ → Rule ℕ
written_version v = part (keyword word.Version) (λ l. version_rule v)

pub operand_clear : (n : ℕ) → IsClear 1 (operand_rule n)
operand_clear n = (nowhere (record { none = refl; name = refl; number = λ n. refl; words = refl; signs = refl }), (refl, λ x. omega arith, λ x. tt), (nowhere (record { none = refl; name = refl; number = λ n. refl; words = refl; signs = refl }), (refl, λ x. (omega arith, (omega arith, omega arith)), λ x. (nowhere (record { none = refl; name = refl; number = λ n. refl; words = refl; signs = refl }), tt, (nowhere (record { none = refl; name = refl; number = λ n. refl; words = refl; signs = refl }), (refl, λ x. omega arith, λ x. (refl, λ x. omega arith, λ x. (refl, λ x. omega arith, λ x. tt))), (refl, λ x. omega arith, λ x. (refl, λ x. omega arith, λ x. tt))))), (nowhere (record { none = refl; name = refl; number = λ n. refl; words = refl; signs = refl }), (refl, λ x. omega arith, λ x. tt), (nowhere (record { none = refl; name = refl; number = λ n. refl; words = refl; signs = refl }), (refl, λ x. omega arith, λ x. (refl, λ x. omega arith, λ x. (refl, λ x. omega arith, λ x. (refl, λ x. omega arith, λ x. tt)))), (nowhere (record { none = refl; name = refl; number = λ n. refl; words = refl; signs = refl }), (refl, λ x. omega arith, λ x. (refl, λ x. omega arith, λ x. tt)), (nowhere (record { none = refl; name = refl; number = λ n. refl; words = refl; signs = refl }), (refl, λ x. omega arith, λ x. (refl, λ x. omega arith, λ x. tt)), (refl, λ x. omega arith, λ x. (refl, λ x. omega arith, λ x. (refl, λ x. omega arith, λ x. tt)))))))))

pub expression_clear : (n : ℕ) → IsClear 10 (expression_rule n)
expression_clear n = (refl, λ x. omega arith, λ x. tt)

pub arguments_clear : (n : ℕ) → IsClear 0 (arguments_rule n)
arguments_clear n = (nowhere (record { none = refl; name = refl; number = λ n. refl; words = refl; signs = refl }), (refl, λ x. omega arith, λ x. tt), (refl, λ x. (omega arith, λ y. omega arith), λ x. (refl, λ x. refl, λ x. (refl, λ x. omega arith, λ x. tt))))

pub next_argument_clear : (n : ℕ) → IsClear 10 (next_argument_rule n)
next_argument_clear n = (refl, λ x. omega arith, λ x. (refl, λ x. omega arith, λ x. tt))

plain_clear : (breaks : Bool) (n : ℕ) → IsClear 11 (plain_form breaks n)
plain_clear breaks n = (nowhere (record { none = refl; name = refl; number = λ n. refl; words = refl; signs = refl }), (refl, λ x. omega arith, λ x. (refl, λ x. omega arith, λ x. (refl, λ x. omega arith, λ x. (refl, λ x. omega arith, λ x. (refl, λ x. omega arith, λ x. tt))))), (nowhere (record { none = refl; name = refl; number = λ n. refl; words = refl; signs = refl }), (refl, λ x. (omega arith, (omega arith, omega arith)), λ x. (nowhere (record { none = refl; name = refl; number = λ n. refl; words = refl; signs = refl }), (refl, λ x. omega arith, λ x. (refl, λ x. omega arith, λ x. (refl, λ x. omega arith, λ x. tt))), (nowhere (record { none = refl; name = refl; number = λ n. refl; words = refl; signs = refl }), (refl, λ x. omega arith, λ x. (refl, λ x. omega arith, λ x. (refl, λ x. omega arith, λ x. (refl, λ x. omega arith, λ x. (refl, λ x. omega arith, λ x. (refl, λ x. omega arith, λ x. tt)))))), (refl, λ x. omega arith, λ x. (refl, λ x. omega arith, λ x. (refl, λ x. omega arith, λ x. tt)))))), (nowhere (record { none = refl; name = refl; number = λ n. refl; words = refl; signs = refl }), (refl, λ x. omega arith, λ x. (refl, λ x. omega arith, λ x. (refl, λ x. omega arith, λ x. (refl, λ x. omega arith, λ x. (refl, λ x. omega arith, λ x. (refl, λ x. omega arith, λ x. (refl, λ x. omega arith, λ x. (refl, λ x. omega arith, λ x. (refl, λ x. omega arith, λ x. (refl, λ x. omega arith, λ x. tt)))))))))), (nowhere (record { none = refl; name = refl; number = λ n. refl; words = refl; signs = refl }), (refl, λ x. omega arith, λ x. (refl, λ x. omega arith, λ x. (refl, λ x. omega arith, λ x. tt))), (nowhere (record { none = refl; name = refl; number = λ n. refl; words = refl; signs = refl }), (refl, λ x. omega arith, λ x. (refl, λ x. omega arith, λ x. (refl, λ x. omega arith, λ x. tt))), (nowhere (record { none = refl; name = refl; number = λ n. refl; words = refl; signs = refl }), (refl, λ x. omega arith, λ x. (refl, λ x. omega arith, λ x. (refl, λ x. omega arith, λ x. (refl, λ x. omega arith, λ x. tt)))), (nowhere (record { none = refl; name = refl; number = λ n. refl; words = refl; signs = refl }), (refl, λ x. omega arith, λ x. (refl, λ x. omega arith, λ x. (refl, λ x. omega arith, λ x. (refl, λ x. omega arith, λ x. (refl, λ x. omega arith, λ x. (refl, λ x. omega arith, λ x. (refl, λ x. omega arith, λ x. tt))))))), (nowhere (record { none = refl; name = refl; number = λ n. refl; words = refl; signs = refl }), (refl, λ x. omega arith, λ x. (refl, λ x. omega arith, λ x. (refl, λ x. omega arith, λ x. (refl, λ x. omega arith, λ x. (refl, λ x. omega arith, λ x. tt))))), (nowhere (record { none = refl; name = refl; number = λ n. refl; words = refl; signs = refl }), (refl, λ x. omega arith, λ x. (refl, λ x. omega arith, λ x. (refl, λ x. omega arith, λ x. (refl, λ x. omega arith, λ x. (refl, λ x. omega arith, λ x. (refl, λ x. omega arith, λ x. (refl, λ x. omega arith, λ x. (refl, λ x. omega arith, λ x. (refl, λ x. omega arith, λ x. (refl, λ x. omega arith, λ x. (refl, λ x. omega arith, λ x. (refl, λ x. omega arith, λ x. (refl, λ x. (omega arith, λ y. omega arith), λ x. (refl, λ x. omega arith, λ x. (refl, λ x. omega arith, λ x. (refl, λ x. omega arith, λ x. (refl, λ x. omega arith, λ x. (refl, λ x. omega arith, λ x. tt)))))))))))))))))), (refl, λ x. omega arith, λ x. (refl, λ x. omega arith, λ x. (refl, λ x. omega arith, λ x. (refl, λ x. (omega arith, λ y. omega arith), λ x. (refl, λ x. omega arith, λ x. (refl, λ x. omega arith, λ x. (refl, λ x. omega arith, λ x. (refl, λ x. omega arith, λ x. (refl, λ x. omega arith, λ x. (refl, λ x. omega arith, λ x. (refl, λ x. omega arith, λ x. (refl, λ x. omega arith, λ x. tt)))))))))))))))))))))

pub form_clear : (breaks : Bool) (n : ℕ) → IsClear 11 (form_rule breaks n)
form_clear true n = (nowhere (record { none = refl; name = refl; number = λ n. refl; words = refl; signs = refl }), plain_clear true n, (refl, λ x. omega arith, λ x. (refl, λ x. omega arith, λ x. tt)))
form_clear false n = plain_clear false n

pub block_clear : (breaks : Bool) (n : ℕ) → IsClear 0 (block_rule breaks n)
block_clear breaks n = (refl, λ x. (omega arith, λ y. omega arith), λ x. (refl, λ x. omega arith, λ x. (refl, λ x. omega arith, λ x. tt)))

pub otherwise_clear : (breaks : Bool) (n : ℕ) → IsClear 11 (otherwise_rule breaks n)
otherwise_clear breaks n = (nowhere (record { none = refl; name = refl; number = λ n. refl; words = refl; signs = refl }), tt, (refl, λ x. omega arith, λ x. (refl, λ x. omega arith, λ x. tt)))

pub predictor_clear : (n : ℕ) → IsClear 10 (predictor_rule n)
predictor_clear n = (nowhere (record { none = refl; name = refl; number = λ n. refl; words = refl; signs = refl }), (refl, λ x. omega arith, λ x. (refl, λ x. omega arith, λ x. tt)), (refl, λ x. omega arith, λ x. tt))

pub next_predictor_clear : (n : ℕ) → IsClear 10 (next_predictor_rule n)
next_predictor_clear n = (refl, λ x. omega arith, λ x. (refl, λ x. omega arith, λ x. tt))

pub names_clear : (n : ℕ) → IsClear 0 (names_rule n)
names_clear n = (nowhere (record { none = refl; name = refl; number = λ n. refl; words = refl; signs = refl }), (refl, λ x. omega arith, λ x. tt), (refl, λ x. omega arith, λ x. (refl, λ x. omega arith, λ x. (refl, λ x. (omega arith, λ y. omega arith), λ x. (refl, λ x. refl, λ x. (refl, λ x. omega arith, λ x. tt))))))

-- one alternative of rows, guesses and headers, whose alternatives begin alike
pub one_row_clear : (n : ℕ) → IsClear 10 (one_row n)
one_row_clear n = (refl, λ x. omega arith, λ x. tt)

pub some_row_clear : (n : ℕ) → IsClear 10 (some_row n)
some_row_clear n = (refl, λ x. omega arith, λ x. (refl, λ x. omega arith, λ x. (refl, λ x. (omega arith, λ y. omega arith), λ x. (refl, λ x. refl, λ x. (refl, λ x. omega arith, λ x. tt)))))

pub one_guess_clear : (n : ℕ) → IsClear 10 (one_guess n)
one_guess_clear n = (refl, λ x. omega arith, λ x. tt)

pub some_guess_clear : (n : ℕ) → IsClear 10 (some_guess n)
some_guess_clear n = (refl, λ x. omega arith, λ x. (refl, λ x. omega arith, λ x. (refl, λ x. (omega arith, λ y. omega arith), λ x. (refl, λ x. refl, λ x. (refl, λ x. omega arith, λ x. tt)))))

pub version_clear : (v : ℕ) → IsClear 11 (written_version v)
version_clear v = (refl, λ x. omega arith, λ x. (refl, λ x. omega arith, λ x. (refl, λ x. omega arith, λ x. tt)))

pub size_clear : IsClear 3 size_rule
size_clear = (refl, λ x. (omega arith, omega arith), λ x. (nowhere (record { none = refl; name = refl; number = λ n. refl; words = refl; signs = refl }), tt, (refl, λ x. omega arith, λ x. (refl, λ x. (omega arith, omega arith), λ x. (nowhere (record { none = refl; name = refl; number = λ n. refl; words = refl; signs = refl }), tt, (refl, λ x. omega arith, λ x. (refl, λ x. omega arith, λ x. tt)))))))

pub array_clear : IsClear 0 array_rule
array_clear = (refl, λ x. omega arith, λ x. (refl, λ x. omega arith, λ x. (refl, λ x. omega arith, λ x. (refl, λ x. omega arith, λ x. (refl, λ x. omega arith, λ x. (refl, λ x. omega arith, λ x. tt))))))

pub parameters_clear : IsClear 0 parameters_rule
parameters_clear = (nowhere (record { none = refl; name = refl; number = λ n. refl; words = refl; signs = refl }), (refl, λ x. omega arith, λ x. tt), (refl, λ x. (omega arith, λ y. omega arith), λ x. (refl, λ x. refl, λ x. (refl, λ x. omega arith, λ x. tt))))

pub next_parameter_clear : IsClear 0 next_parameter_rule
next_parameter_clear = (refl, λ x. omega arith, λ x. (refl, λ x. omega arith, λ x. tt))

pub function_clear : (breaks : Bool) → IsClear 0 (function_rule breaks)
function_clear breaks = (refl, λ x. omega arith, λ x. (refl, λ x. omega arith, λ x. (refl, λ x. omega arith, λ x. (refl, λ x. omega arith, λ x. (refl, λ x. (omega arith, λ y. omega arith), λ x. (refl, λ x. omega arith, λ x. (refl, λ x. omega arith, λ x. (refl, λ x. omega arith, λ x. (refl, λ x. omega arith, λ x. (refl, λ x. omega arith, λ x. tt))))))))))

pub program_clear : IsClear 0 program_rule
program_clear = (refl, λ v. (omega arith, λ x. (omega arith, λ y. omega arith)), λ v. (refl, λ x. (omega arith, λ y. omega arith), λ x. (refl, λ x. omega arith, λ x. (refl, λ x. omega arith, λ x. (refl, λ x. omega arith, λ x. tt)))))

pub statements_clear : (breaks : Bool) (n : ℕ) → IsClear 12 (many_rule (statement breaks n))
statements_clear true n = (nowhere (record { none = refl; name = refl; number = λ n. refl; words = refl; signs = refl }), tt, (refl, λ x. (omega arith, λ y. omega arith), λ x. (refl, λ x. omega arith, λ x. tt)))
statements_clear false n = (nowhere (record { none = refl; name = refl; number = λ n. refl; words = refl; signs = refl }), tt, (refl, λ x. (omega arith, λ y. omega arith), λ x. (refl, λ x. omega arith, λ x. tt)))

pub arrays_clear : IsClear 12 (many_rule array)
arrays_clear = (nowhere (record { none = refl; name = refl; number = λ n. refl; words = refl; signs = refl }), tt, (refl, λ x. (omega arith, λ y. omega arith), λ x. (refl, λ x. omega arith, λ x. tt)))

pub functions_clear : (breaks : Bool) → IsClear 13 (many_rule (function breaks))
functions_clear breaks = (nowhere (record { none = refl; name = refl; number = λ n. refl; words = refl; signs = refl }), tt, (refl, λ x. (omega arith, λ y. omega arith), λ x. (refl, λ x. omega arith, λ x. tt)))

-- a comparison, or operators of one rank
operator_differs : (rank : ℕ) (w : Option TokenKind) → stops_at (suc (suc rank)) w ≡ true → ranked (suc rank) w ≡ true → ⊥
operator_differs rank None h k = cc
operator_differs rank (Some kind.Name) h k = cc
operator_differs rank (Some (kind.Number n)) h k = cc
operator_differs rank (Some (kind.Keyword w)) h k = cc
operator_differs rank (Some (kind.Sign s)) h k =
    let r : rank_of s ≡ suc rank = grind (arith, nat_tests) in
    let e = operator_reach s rank r in
    let l : suc (suc rank) < reach (kind.Sign s) = below (suc (suc rank)) (reach (kind.Sign s)) h in
    omega (arith, e, l)
  where
    below : (a b : ℕ) → nat_lt a b ≡ true → a < b
    below a b e = grind (arith, nat_tests)

pub further_clear : (n rank : ℕ) (a : RawExpression) (used : ℕ) → IsClear (suc (suc rank)) (further_rule n rank a used)
further_clear n rank a used = (operator_differs rank, tt, (refl, λ o. omega arith, λ o. (refl, λ x. (omega arith, λ y. omega arith), λ x. (refl, λ y. omega arith, λ y. tt))))

pub compared_clear : (n rank : ℕ) (a : RawExpression) (used : ℕ) → IsClear (suc (suc rank)) (compared_rule n rank a used)
compared_clear n rank a used = (operator_differs rank, tt, (refl, λ o. omega arith, λ o. (refl, λ x. omega arith, λ x. tt)))

either_clear : (n : ℕ) {A : Type 0} (b : Bool) (r s : Rule A) → IsClear n r → IsClear n s → IsClear n (if b then r else s)
either_clear n true r s c d = c
either_clear n false r s c d = d

pub level_clear : (n rank used : ℕ) → IsClear (suc rank) (level_rule n rank used)
level_clear n zero used = (refl, λ x. omega arith, λ x. tt)
level_clear n (suc rank) used = either_clear (suc (suc rank)) (nat_eq rank 6) _ _ (refl, λ x. (omega arith, λ y. omega arith), λ x. (refl, λ y. omega arith, λ y. tt)) (refl, λ x. (omega arith, λ y. omega arith), λ x. (refl, λ y. omega arith, λ y. tt))

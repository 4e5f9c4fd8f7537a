-- What a rule begins with stops what is read before it.
use Rattle.std.proofs.Common.{◌≡◌, ℕ, zero, suc, ◌<◌, ◌≤◌, Bool, true, false, List, [], ◌∷◌, sym, ap, subst, arith, inl, inr, pos}
use Rattle.spf_text.specs.declared.token.Keyword.TheVariants as word
use Rattle.spf_text.specs.declared.token.Sign.{Sign}
use Rattle.spf_text.specs.declared.token.Sign.TheVariants as sign
use Rattle.spf_text.specs.declared.token.TokenKind.{TokenKind}
use Rattle.spf_text.specs.declared.token.TokenKind.TheVariants as kind
use Rattle.spf_ast.specs.RawSyntax.{RawExpression, RawStatement}
use Rattle.spf_parse_grammar.specs.Lexemes.{Lexeme}
use Rattle.spf_parse_grammar.specs.Parts.{Part, token, opens, operator, name, number, count, many, few, lined, further, compared, next_argument, next_predictor, next_parameter, form, block, array, function, Value, Rule, give, part, either}
use Rattle.spf_parse_grammar.specs.Rules.{rank_of, plain_form}
use Rattle.spf_parse_grammar.specs.Reading.{reads, says}
use Rattle.spf_parse_grammar.specs.Derivations.{Reading}
use Rattle.spf_parse_parts.specs.Answers.{reach, reach_of_rank, Stops}
use Rattle.spf_parse_parts.proofs.Beginnings.{some_reach, stops_all}

-- how far the first token of a part reaches back at least
abbrev pub least : Part → ℕ
least (token k) = reach k
least (opens n s) = reach (kind.Sign s)
least name = 12
least number = 14
least count = 14
least (lined p) = least p
least (next_argument n) = 14
least (next_predictor n) = 14
least next_parameter = 14
least (block breaks n) = 14
least (form breaks n) = 12
least array = 12
least (function breaks) = 13
least p = 1

-- what this rule says stops the first level, where what comes after it stops the second
abbrev pub Follows : ℕ → ℕ → {A : Type 0} → Rule A → Type 0
Follows m n (give a) = m ≤ n
Follows m n (part (many p) r) = (m < least p) × ((x : List (Value p)) → Follows m n (r x))
Follows m n (part (few most p) r) = (m < least p) × ((x : List (Value p)) → Follows m n (r x))
Follows m n (part (further e rank a used) r) = (m < suc (suc rank)) × ((x : RawExpression × ℕ) → Follows m n (r x))
Follows m n (part (compared e rank a used) r) = (m < suc (suc rank)) × ((x : RawExpression × ℕ) → Follows m n (r x))
Follows m n (part p r) = m < least p
Follows m n (either r s) = Follows m n r × Follows m n s

pub stops_less : (m n : ℕ) (k : List Lexeme) → m ≤ n → Stops n k → Stops m k
stops_less m n [] h s = tt
stops_less m n (t ∷ k) h s = omega (arith, h, s)

stops_token : (m : ℕ) (k : TokenKind) (t : Lexeme) → t.kind ≡ k → m < reach k → m < reach t.kind
stops_token m k t is h = subst (λ l. m < reach l) (sym is) h

stops_zero : (m : ℕ) (k : List Lexeme) → m < 1 → Stops m k
stops_zero m k h = let e : 0 ≡ m = omega (arith, h) in subst (λ l. Stops l k) e (stops_all k)

no_rank : (rank : ℕ) → 0 ≡ suc rank → ⊥
no_rank rank h = omega (arith, h)

pub operator_reach : (s : Sign) (rank : ℕ) → rank_of s ≡ suc rank → reach (kind.Sign s) ≡ suc (suc rank)
operator_reach sign.OpenParen rank h = absurd (no_rank rank h)
operator_reach sign.OpenBracket rank h = absurd (no_rank rank h)
operator_reach s rank h = ap reach_of_rank h

stops_operator : (m depth free rank used : ℕ) (k : List Lexeme) (x : Sign) (us : List Lexeme) → m < suc (suc rank) → says depth free (operator (suc rank) used) k x us → Stops m k
stops_operator m depth free rank used [] x us h d = tt
stops_operator m depth free rank used (t ∷ k) x us h d = stops_token m (kind.Sign x) t d.1.0.0 (omega (arith, h, operator_reach x rank d.1.0.1))

stops_word : (m depth free : ℕ) (w : TokenKind) (k : List Lexeme) (x : ℕ) (us : List Lexeme) → m < reach w → says depth free (token w) k x us → Stops m k
stops_word m depth free w [] x us h d = tt
stops_word m depth free w (t ∷ k) x us h d = stops_token m w t d.0.0 h

stops_name : (m depth free : ℕ) (k : List Lexeme) (x : List ℕ) (us : List Lexeme) → m < 12 → says depth free name k x us → Stops m k
stops_name m depth free [] x us h d = tt
stops_name m depth free (t ∷ k) x us h d = stops_token m kind.Name t d.0.0 h

-- a statement of every version
stops_plain : (m depth free : ℕ) (breaks : Bool) (n : ℕ) (k : List Lexeme) (x : RawStatement) (us : List Lexeme) → m < 12 → reads (says depth free) (plain_form breaks n) k x us → Stops m k
stops_plain m depth free breaks n k x us h (inl d) = stops_word m depth free (kind.Keyword word.Let) k d.0 d.1 h d.2
stops_plain m depth free breaks n k x us h (inr (inl d)) = stops_name m depth free k d.0 d.1 h d.2
stops_plain m depth free breaks n k x us h (inr (inr (inl d))) = stops_word m depth free (kind.Keyword word.Fill) k d.0 d.1 h d.2
stops_plain m depth free breaks n k x us h (inr (inr (inr (inl d)))) = stops_word m depth free (kind.Keyword word.Emit) k d.0 d.1 h d.2
stops_plain m depth free breaks n k x us h (inr (inr (inr (inr (inl d))))) = stops_word m depth free (kind.Keyword word.Fail) k d.0 d.1 h d.2
stops_plain m depth free breaks n k x us h (inr (inr (inr (inr (inr (inl d)))))) = stops_word m depth free (kind.Keyword word.If) k d.0 d.1 h d.2
stops_plain m depth free breaks n k x us h (inr (inr (inr (inr (inr (inr (inl d))))))) = stops_word m depth free (kind.Keyword word.For) k d.0 d.1 h d.2
stops_plain m depth free breaks n k x us h (inr (inr (inr (inr (inr (inr (inr (inl d)))))))) = stops_word m depth free (kind.Keyword word.While) k d.0 d.1 h d.2
stops_plain m depth free breaks n k x us h (inr (inr (inr (inr (inr (inr (inr (inr (inl d))))))))) = stops_word m depth free (kind.Keyword word.Specfold) k d.0 d.1 h d.2
stops_plain m depth free breaks n k x us h (inr (inr (inr (inr (inr (inr (inr (inr (inr d))))))))) = stops_word m depth free (kind.Keyword word.Spec) k d.0 d.1 h d.2

stops_first : (m depth free : ℕ) (p : Part) (k : List Lexeme) (x : Value p) (us : List Lexeme) → m < least p → says depth free p k x us → Stops m k
stops_first m depth free (token w) [] x us h d = tt
stops_first m depth free (token w) (t ∷ k) x us h d = stops_token m w t d.0.0 h
stops_first m depth free (opens n s) [] x us h d = tt
stops_first m depth free (opens n s) (t ∷ k) x us h d = stops_token m (kind.Sign s) t d.1.0 h
stops_first m depth free name [] x us h d = tt
stops_first m depth free name (t ∷ k) x us h d = stops_token m kind.Name t d.0.0 h
stops_first m depth free number [] x us h d = tt
stops_first m depth free number (t ∷ k) x us h d = stops_token m (kind.Number x) t d.0 h
stops_first m depth free count [] x us h d = tt
stops_first m depth free count (t ∷ k) x us h d = stops_token m (kind.Number (pos x)) t d.0 h
stops_first m (suc depth) free (lined p) k x us h d = stops_first m depth free p k x.1 us h d.1
stops_first m (suc depth) free (next_argument n) k x us h d = stops_first m depth free (token (kind.Sign sign.Comma)) k d.0 d.1 h d.2
stops_first m (suc depth) free next_parameter k x us h d = stops_first m depth free (token (kind.Sign sign.Comma)) k d.0 d.1 h d.2
stops_first m (suc depth) free (next_predictor n) k x us h d = stops_first m depth free (token (kind.Sign sign.Comma)) k d.0 d.1 h d.2
stops_first m (suc depth) free (block breaks n) k x us h d = stops_first m depth free (opens n sign.OpenBrace) k d.0 d.1 h d.2
stops_first m (suc depth) free array k x us h d = stops_first m depth free (token (kind.Keyword word.Array)) k d.0 d.1 h d.2
stops_first m (suc depth) free (function breaks) k x us h d = stops_first m depth free (token (kind.Keyword word.Fn)) k d.0 d.1 h d.2
stops_first m (suc depth) free (form true n) k x us h (inl d) = stops_plain m depth free true n k x us h d
stops_first m (suc depth) free (form true n) k x us h (inr d) = stops_word m depth free (kind.Keyword word.Break) k d.0 d.1 h d.2
stops_first m (suc depth) free (form false n) k x us h d = stops_plain m depth free false n k x us h d
stops_first m zero free (lined p) k x us h d = elim d [ ]
stops_first m zero free (next_argument n) k x us h d = elim d [ ]
stops_first m zero free next_parameter k x us h d = elim d [ ]
stops_first m zero free (next_predictor n) k x us h d = elim d [ ]
stops_first m zero free (block breaks n) k x us h d = elim d [ ]
stops_first m zero free array k x us h d = elim d [ ]
stops_first m zero free (function breaks) k x us h d = elim d [ ]
stops_first m zero free (form breaks n) k x us h d = elim d [ ]
stops_first m depth free p k x us h d = stops_zero m k h

-- a part that may be empty, and what comes after it
stops_many : (m depth free : ℕ) (p : Part) (k : List Lexeme) (x : List (Value p)) (us : List Lexeme) → m < least p → says depth free (many p) k x us → Stops m us → Stops m k
stops_many m zero free p k x us h d s = elim d [ ]
stops_many m (suc depth) free p k x us h (inl d) s = subst (Stops m) d.1 s
stops_many m (suc depth) free p k x us h (inr d) s = stops_first m depth free p k d.0 d.1 h d.2

stops_few : (m depth free most : ℕ) (p : Part) (k : List Lexeme) (x : List (Value p)) (us : List Lexeme) → m < least p → says depth free (few most p) k x us → Stops m us → Stops m k
stops_few m zero free most p k x us h d s = elim d [ ]
stops_few m (suc depth) free zero p k x us h d s = subst (Stops m) d.1 s
stops_few m (suc depth) free (suc most) p k x us h (inl d) s = subst (Stops m) d.1 s
stops_few m (suc depth) free (suc most) p k x us h (inr d) s = stops_first m depth free p k d.0 d.1 h d.2

stops_further : (m depth free n rank : ℕ) (a : RawExpression) (used : ℕ) (k : List Lexeme) (x : RawExpression × ℕ) (us : List Lexeme) → m < suc (suc rank) → says depth free (further n rank a used) k x us → Stops m us → Stops m k
stops_further m zero free n rank a used k x us h d s = elim d [ ]
stops_further m (suc depth) free n rank a used k x us h (inl d) s = subst (Stops m) d.1 s
stops_further m (suc depth) free n rank a used k x us h (inr d) s = stops_operator m depth free rank used k d.0 d.1 h d.2

stops_compared : (m depth free n rank : ℕ) (a : RawExpression) (used : ℕ) (k : List Lexeme) (x : RawExpression × ℕ) (us : List Lexeme) → m < suc (suc rank) → says depth free (compared n rank a used) k x us → Stops m us → Stops m k
stops_compared m zero free n rank a used k x us h d s = elim d [ ]
stops_compared m (suc depth) free n rank a used k x us h (inl d) s = subst (Stops m) d.1 s
stops_compared m (suc depth) free n rank a used k x us h (inr d) s = stops_operator m depth free rank used k d.0 d.1 h d.2

pub until : (m n free : ℕ) {A : Type 0} (r : Rule A) → Follows m n r → (k : List Lexeme) (b : A) (vs : List Lexeme) → Reading free r k b vs → Stops n vs → Stops m k
until m n free (give a) h k b vs d s = stops_less m n k h (subst (Stops n) d.1 s)
until m n free (part (many p) r) h k b vs d s = stops_many m d.2.0 free p k d.0 d.1 h.0 d.2.1 (until m n free (r d.0) (h.1 d.0) d.1 b vs d.3 s)
until m n free (part (few most p) r) h k b vs d s = stops_few m d.2.0 free most p k d.0 d.1 h.0 d.2.1 (until m n free (r d.0) (h.1 d.0) d.1 b vs d.3 s)
until m n free (part (further e rank a used) r) h k b vs d s = stops_further m d.2.0 free e rank a used k d.0 d.1 h.0 d.2.1 (until m n free (r d.0) (h.1 d.0) d.1 b vs d.3 s)
until m n free (part (compared e rank a used) r) h k b vs d s = stops_compared m d.2.0 free e rank a used k d.0 d.1 h.0 d.2.1 (until m n free (r d.0) (h.1 d.0) d.1 b vs d.3 s)
until m n free (part p r) h k b vs d s = stops_first m d.2.0 free p k d.0 d.1 h d.2.1
until m n free (either r t) h k b vs (inl d) s = until m n free r h.0 k b vs d s
until m n free (either r t) h k b vs (inr d) s = until m n free t h.1 k b vs d s

-- anything follows what is read up to level 0
pub least_some : (p : Part) → 0 < least p
least_some (token k) = some_reach k
least_some (opens n s) = some_reach (kind.Sign s)
least_some (lined p) = least_some p
least_some p = omega arith

pub anything : (n : ℕ) {A : Type 0} (r : Rule A) → Follows 0 n r
anything n (give a) = omega arith
anything n (part (many p) r) = (least_some p, λ x. anything n (r x))
anything n (part (few most p) r) = (least_some p, λ x. anything n (r x))
anything n (part (further e rank a used) r) = (omega arith, λ x. anything n (r x))
anything n (part (compared e rank a used) r) = (omega arith, λ x. anything n (r x))
anything n (part p r) = least_some p
anything n (either r s) = (anything n r, anything n s)

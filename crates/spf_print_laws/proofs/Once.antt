-- Tokens are those of one program at most.
use Rattle.std.proofs.Common.{◌≡◌, ℕ, zero, suc, ◌+◌, ◌<◌, true, false, inl, inr, refl, List, [], ◌∷◌, Some, ℤ, pos, sym, ap, ◌∙◌, subst, arith}
use Rattle.std.specs.Prelude.{IsTrue}
use Rattle.spf_text.specs.declared.token.Keyword.TheVariants as word
use Rattle.spf_text.specs.declared.token.Sign.{Sign}
use Rattle.spf_text.specs.declared.token.Sign.TheVariants as sign
use Rattle.spf_text.specs.declared.token.TokenKind.{TokenKind}
use Rattle.spf_text.specs.declared.token.TokenKind.TheVariants as kind
use Rattle.spf_ast.specs.RawSyntax.{RawExpression, RawPredictor, By, RawProgram}
use Rattle.spf_parse_grammar.specs.Lexemes.{Lexeme}
use Rattle.spf_parse_grammar.specs.Parts.{Part, token, opens, operator, name, number, count, many, few, lined, expression, level, further, compared, operand, arguments, next_argument, names, row, guess, predictor, next_predictor, form, block, otherwise, header, size, array, parameters, next_parameter, function, program, statement, Value, Rule, give, part, either}
use Rattle.spf_parse_grammar.specs.Rules.{expression_rule, level_rule, further_rule, compared_rule, operand_rule, arguments_rule, next_argument_rule, names_rule, row_rule, guess_rule, predictor_rule, next_predictor_rule, form_rule, block_rule, otherwise_rule, header_rule, size_rule, array_rule, parameters_rule, next_parameter_rule, function_rule, program_rule, many_rule, few_rule}
use Rattle.spf_parse_grammar.specs.Reading.{reads, says, Reads}
use Rattle.spf_parse_grammar.specs.Derivations.{Says, Reading}
use Rattle.spf_parse_grammar.proofs.Derivations.{raise, grow}
use Rattle.spf_parse_parts.specs.Answers.{ahead, reach, Stops}
use Rattle.spf_parse_parts.proofs.Beginnings.{begins, begins_is, may_is, stops_all}
use Rattle.spf_parse_parts.proofs.Follows.{until}
use Rattle.spf_print_laws.proofs.Clear.{fuel, is_used, level_of, IsClosed, Ends, Closes, Precedes, IsClear, operand_clear, expression_clear, arguments_clear, next_argument_clear, names_clear, one_row, some_row, one_row_clear, some_row_clear, one_guess, some_guess, one_guess_clear, some_guess_clear, predictor_clear, next_predictor_clear, form_clear, block_clear, otherwise_clear, written_version, version_clear, size_clear, array_clear, parameters_clear, next_parameter_clear, function_clear, program_clear, statements_clear, arrays_clear, functions_clear, further_clear, compared_clear, level_clear}
use Rattle.spf_print_laws.proofs.Limits.{reading}
use Rattle.spf_print_laws.proofs.Parens.{inner_expression, Inner}

-- ---- what ends a part

closed_is : (depth free : ℕ) {A : Type 0} (r : Rule A) → Closes r → (ts : List Lexeme) (a : A) (us : List Lexeme) → reads (says depth free) r ts a us → IsClosed ts
closed_is depth free (part (token k) r) c [] a us d = elim d.2 [ ]
closed_is depth free (part (token k) r) c (t ∷ ts) a us d = d.2.0.0 ∙ c
closed_is depth free r c ts a us d = elim c [ ]

pub precedes_is : (depth free n : ℕ) (p : Part) {A : Type 0} (r : Rule A) → Precedes p n r → (ts : List Lexeme) (a : A) (us : List Lexeme) → reads (says depth free) r ts a us → Stops n us → Ends p ts
precedes_is depth free n (many (next_argument k)) r c ts a us d s = closed_is depth free r c ts a us d
precedes_is depth free n (many next_parameter) r c ts a us d s = closed_is depth free r c ts a us d
precedes_is depth free n (few most p) r c ts a us d s = closed_is depth free r c ts a us d
precedes_is depth free n p r c ts a us d s = until (level_of p) n free r c ts a us (reading depth free r ts a us d) s

-- ---- one reading at most

-- two readings of a part from the same tokens, each with an end of the part after it, are the same
abbrev Once : ℕ → ℕ → Part → Type 0
Once depth free p = (ts : List Lexeme) (x y : Value p) (us vs : List Lexeme) → says depth free p ts x us → says depth free p ts y vs → Ends p us → Ends p vs → (x ≡ y) × (us ≡ vs)

once_rule : (depth free n : ℕ) → ((p : Part) → IsTrue (is_used p) → Once depth free p) → {A : Type 0} (r : Rule A) → IsClear n r →
    (ts : List Lexeme) (a b : A) (us vs : List Lexeme) → reads (says depth free) r ts a us → reads (says depth free) r ts b vs → Stops n us → Stops n vs → (a ≡ b) × (us ≡ vs)
once_rule depth free n parts (give x) c ts a b us vs d e s t = (d.0 ∙ sym e.0, d.1 ∙ sym e.1)
once_rule depth free n parts (part p r) c ts a b us vs d e s t =
    let f = parts p c.0 ts d.0 e.0 d.1 e.1 d.2 e.2 (precedes_is depth free n p (r d.0) (c.1 d.0) d.1 a us d.3 s) (precedes_is depth free n p (r e.0) (c.1 e.0) e.1 b vs e.3 t) in
    let g : reads (says depth free) (r d.0) e.1 b vs = subst (λ x. reads (says depth free) (r x) e.1 b vs) (sym f.0) e.3 in
    once_rule depth free n parts (r d.0) (c.2 d.0) d.1 a b us vs d.3 (subst (λ l. reads (says depth free) (r d.0) l b vs) (sym f.1) g) s t
once_rule depth free n parts (either r q) c ts a b us vs (inl d) (inl e) s t = once_rule depth free n parts r c.1 ts a b us vs d e s t
once_rule depth free n parts (either r q) c ts a b us vs (inl d) (inr e) s t = absurd (c.0 (ahead ts)
    (may_is (begins fuel) free n (begins_is fuel free) r ts a us (reading depth free r ts a us d) s)
    (may_is (begins fuel) free n (begins_is fuel free) q ts b vs (reading depth free q ts b vs e) t))
once_rule depth free n parts (either r q) c ts a b us vs (inr d) (inl e) s t = absurd (c.0 (ahead ts)
    (may_is (begins fuel) free n (begins_is fuel free) r ts b vs (reading depth free r ts b vs e) t)
    (may_is (begins fuel) free n (begins_is fuel free) q ts a us (reading depth free q ts a us d) s))
once_rule depth free n parts (either r q) c ts a b us vs (inr d) (inr e) s t = once_rule depth free n parts q c.2 ts a b us vs d e s t

pub sign_is : (k : TokenKind) (s t : Sign) → k ≡ kind.Sign s → k ≡ kind.Sign t → s ≡ t
sign_is k s t e f = cc

pub number_is : (k : TokenKind) (m n : ℤ) → k ≡ kind.Number m → k ≡ kind.Number n → m ≡ n
number_is k m n e f = cc

pub count_is : (k : TokenKind) (m n : ℕ) → k ≡ kind.Number (pos m) → k ≡ kind.Number (pos n) → m ≡ n
count_is k m n e f = cc

-- ---- lists with commas, up to a closing parenthesis

-- where a closing parenthesis comes next, no comma does
pub no_comma : (t : Lexeme) → t.kind ≡ kind.Sign sign.CloseParen → t.kind ≡ kind.Sign sign.Comma → ⊥
no_comma t e f = cc

-- a comma, or a closing parenthesis, ends an expression
pub stops_closed : (us : List Lexeme) → IsClosed us → Stops 10 us
stops_closed [] c = tt
stops_closed (t ∷ us) c = subst (λ k. 10 < reach k) (sym c) (omega arith)

pub stops_comma : (t : Lexeme) → t.kind ≡ kind.Sign sign.Comma → 10 < reach t.kind
stops_comma t e = subst (λ k. 10 < reach k) (sym e) (omega arith)

-- a part that begins with a comma
abbrev pub BeginsWithComma : ℕ → Part → Type 0
BeginsWithComma free p = (depth : ℕ) (ts : List Lexeme) (x : Value p) (us : List Lexeme) → says depth free p ts x us → (t : Lexeme) × (rest : List Lexeme) × (ts ≡ t ∷ rest) × (t.kind ≡ kind.Sign sign.Comma)

comma_first : (depth free : ℕ) (ts : List Lexeme) (line : ℕ) (us : List Lexeme) → says depth free (token (kind.Sign sign.Comma)) ts line us → (t : Lexeme) × (rest : List Lexeme) × (ts ≡ t ∷ rest) × (t.kind ≡ kind.Sign sign.Comma)
comma_first depth free [] line us d = elim d [ ]
comma_first depth free (t ∷ ts) line us d = (t, ts, (λ j. t ∷ ts), d.0.0)

pub argument_comma : (free n : ℕ) → BeginsWithComma free (next_argument n)
argument_comma free n zero ts x us d = elim d [ ]
argument_comma free n (suc depth) ts x us d = comma_first depth free ts d.0 d.1 d.2

pub parameter_comma : (free : ℕ) → BeginsWithComma free next_parameter
parameter_comma free zero ts x us d = elim d [ ]
parameter_comma free (suc depth) ts x us d = comma_first depth free ts d.0 d.1 d.2

pub predictor_comma : (free n : ℕ) → BeginsWithComma free (next_predictor n)
predictor_comma free n zero ts x us d = elim d [ ]
predictor_comma free n (suc depth) ts x us d = comma_first depth free ts d.0 d.1 d.2

not_empty : (ts us rest : List Lexeme) (t : Lexeme) → ts ≡ t ∷ rest → t.kind ≡ kind.Sign sign.Comma → us ≡ ts → IsClosed us → ⊥
not_empty ts us rest t e comma same c = no_comma t (subst IsClosed (same ∙ e) c) comma

-- what is before a list of such parts ends there
pub list_stops : (depth free : ℕ) (p : Part) → BeginsWithComma free p → (ts : List Lexeme) (xs : List (Value p)) (us : List Lexeme) → says depth free (many p) ts xs us → IsClosed us → Stops 10 ts
list_stops zero free p comma ts xs us d c = elim d [ ]
list_stops (suc depth) free p comma ts xs us (inl d) c = subst (Stops 10) d.1 (stops_closed us c)
list_stops (suc depth) free p comma ts xs us (inr d) c = let k = comma depth ts d.0 d.1 d.2 in subst (Stops 10) (sym k.2) (stops_comma k.0 k.3)

-- and before a short one
pub few_stops : (depth free most : ℕ) (p : Part) → BeginsWithComma free p → (ts : List Lexeme) (xs : List (Value p)) (us : List Lexeme) → says depth free (few most p) ts xs us → IsClosed us → Stops 10 ts
few_stops zero free most p comma ts xs us d c = elim d [ ]
few_stops (suc depth) free zero p comma ts xs us d c = subst (Stops 10) d.1 (stops_closed us c)
few_stops (suc depth) free (suc most) p comma ts xs us (inl d) c = subst (Stops 10) d.1 (stops_closed us c)
few_stops (suc depth) free (suc most) p comma ts xs us (inr d) c = let k = comma depth ts d.0 d.1 d.2 in subst (Stops 10) (sym k.2) (stops_comma k.0 k.3)

-- a list of such parts
once_list : (depth free : ℕ) (p : Part) → Once depth free p → Once depth free (many p) → BeginsWithComma free p → ((us : List Lexeme) → Stops 10 us → Ends p us) → ((us : List Lexeme) → IsClosed us → Ends (many p) us) →
    (ts : List Lexeme) (xs ys : List (Value p)) (us vs : List Lexeme) → reads (says depth free) (many_rule p) ts xs us → reads (says depth free) (many_rule p) ts ys vs → IsClosed us → IsClosed vs → (xs ≡ ys) × (us ≡ vs)
once_list depth free p one more comma ends closed ts xs ys us vs (inl d) (inl e) s t = (d.0 ∙ sym e.0, d.1 ∙ sym e.1)
once_list depth free p one more comma ends closed ts xs ys us vs (inl d) (inr e) s t = let k = comma depth ts e.0 e.1 e.2 in absurd (not_empty ts us k.1 k.0 k.2 k.3 d.1 s)
once_list depth free p one more comma ends closed ts xs ys us vs (inr d) (inl e) s t = let k = comma depth ts d.0 d.1 d.2 in absurd (not_empty ts vs k.1 k.0 k.2 k.3 e.1 t)
once_list depth free p one more comma ends closed ts xs ys us vs (inr d) (inr e) s t =
    let sd : IsClosed d.3.1 = subst IsClosed d.3.3.1 s in
    let se : IsClosed e.3.1 = subst IsClosed e.3.3.1 t in
    let f = one ts d.0 e.0 d.1 e.1 d.2 e.2 (ends d.1 (list_stops depth free p comma d.1 d.3.0 d.3.1 d.3.2 sd)) (ends e.1 (list_stops depth free p comma e.1 e.3.0 e.3.1 e.3.2 se)) in
    let g = more d.1 d.3.0 e.3.0 d.3.1 e.3.1 d.3.2 (subst (λ l. says depth free (many p) l e.3.0 e.3.1) (sym f.1) e.3.2) (closed d.3.1 sd) (closed e.3.1 se) in
    (d.3.3.0 ∙ (λ j. f.0 j ∷ g.0 j) ∙ sym e.3.3.0, d.3.3.1 ∙ g.1 ∙ sym e.3.3.1)

-- a short list of such parts
once_few : (depth free most : ℕ) (p : Part) → Once depth free p → ((k : ℕ) → Once depth free (few k p)) → BeginsWithComma free p → ((us : List Lexeme) → Stops 10 us → Ends p us) →
    (ts : List Lexeme) (xs ys : List (Value p)) (us vs : List Lexeme) → reads (says depth free) (few_rule most p) ts xs us → reads (says depth free) (few_rule most p) ts ys vs → IsClosed us → IsClosed vs → (xs ≡ ys) × (us ≡ vs)
once_few depth free zero p one more comma ends ts xs ys us vs d e s t = (d.0 ∙ sym e.0, d.1 ∙ sym e.1)
once_few depth free (suc most) p one more comma ends ts xs ys us vs (inl d) (inl e) s t = (d.0 ∙ sym e.0, d.1 ∙ sym e.1)
once_few depth free (suc most) p one more comma ends ts xs ys us vs (inl d) (inr e) s t = let k = comma depth ts e.0 e.1 e.2 in absurd (not_empty ts us k.1 k.0 k.2 k.3 d.1 s)
once_few depth free (suc most) p one more comma ends ts xs ys us vs (inr d) (inl e) s t = let k = comma depth ts d.0 d.1 d.2 in absurd (not_empty ts vs k.1 k.0 k.2 k.3 e.1 t)
once_few depth free (suc most) p one more comma ends ts xs ys us vs (inr d) (inr e) s t =
    let sd : IsClosed d.3.1 = subst IsClosed d.3.3.1 s in
    let se : IsClosed e.3.1 = subst IsClosed e.3.3.1 t in
    let f = one ts d.0 e.0 d.1 e.1 d.2 e.2 (ends d.1 (few_stops depth free most p comma d.1 d.3.0 d.3.1 d.3.2 sd)) (ends e.1 (few_stops depth free most p comma e.1 e.3.0 e.3.1 e.3.2 se)) in
    let g = more most d.1 d.3.0 e.3.0 d.3.1 e.3.1 d.3.2 (subst (λ l. says depth free (few most p) l e.3.0 e.3.1) (sym f.1) e.3.2) sd se in
    (d.3.3.0 ∙ (λ j. f.0 j ∷ g.0 j) ∙ sym e.3.3.0, d.3.3.1 ∙ g.1 ∙ sym e.3.3.1)

-- ---- rows

-- An expression ends once: not before a closing parenthesis, and before a comma as well.
ends_once : (depth free n : ℕ) → Once depth free (expression n) → (ts : List Lexeme) (a b : RawExpression) (us vs : List Lexeme) → says depth free (expression n) ts a us → says depth free (expression n) ts b vs
    → IsClosed us → (t : Lexeme) (rest : List Lexeme) → vs ≡ t ∷ rest → t.kind ≡ kind.Sign sign.Comma → ⊥
ends_once depth free n one ts a b us vs d e s t rest is comma =
    not_empty vs us rest t is comma (one ts a b us vs d e (stops_closed us s) (subst (Stops 10) (sym is) (stops_comma t comma))).1 s

-- an expression that begins with a parenthesis is no row of several parts
no_row : (depth free n : ℕ) → ((p : Part) → IsTrue (is_used p) → Once depth free p) → (ts : List Lexeme) (a b : List RawExpression) (us vs : List Lexeme)
    → reads (says depth free) (one_row n) ts a us → reads (says depth free) (some_row n) ts b vs → ⊥
no_row zero free n parts ts a b us vs d e = elim d.2 [ ]
no_row (suc depth) free n parts [] a b us vs d e = elim e.2.1 [ ]
no_row (suc depth) free n parts (t ∷ ts) a b us vs d e =
    let i : Inner depth free n (expression_rule n) ts d.0 d.1 = inner_expression depth free n t ts d.0 d.1 e.2.1.0 d.2 in
    let second = subst (λ l. says (suc depth) free (expression (n + 1)) l e.3.0 e.3.1) e.2.1.1 e.3.2 in
    let c = argument_comma free (n + 1) (suc depth) e.3.1 e.3.3.0 e.3.3.1 e.3.3.2 in
    ends_once (suc depth) free (n + 1) (parts (expression (n + 1)) refl) ts i.a e.3.0 i.ms e.3.1
    (grow depth free (expression (n + 1)) ts i.a i.ms i.inside) second i.closed c.0 c.1 c.2 c.3

once_row : (depth free n : ℕ) → ((p : Part) → IsTrue (is_used p) → Once depth free p) → (ts : List Lexeme) (a b : List RawExpression) (us vs : List Lexeme)
    → reads (says depth free) (row_rule n) ts a us → reads (says depth free) (row_rule n) ts b vs → Stops 10 us → Stops 10 vs → (a ≡ b) × (us ≡ vs)
once_row depth free n parts ts a b us vs (inl d) (inl e) s t = once_rule depth free 10 parts (one_row n) (one_row_clear n) ts a b us vs d e s t
once_row depth free n parts ts a b us vs (inl d) (inr e) s t = absurd (no_row depth free n parts ts a b us vs d e)
once_row depth free n parts ts a b us vs (inr d) (inl e) s t = absurd (no_row depth free n parts ts b a vs us e d)
once_row depth free n parts ts a b us vs (inr d) (inr e) s t = once_rule depth free 10 parts (some_row n) (some_row_clear n) ts a b us vs d e s t

-- no expression begins with `host`
pub no_host : (depth free n : ℕ) (ts : List Lexeme) (a : RawExpression) (us : List Lexeme) → says depth free (expression n) ts a us → ahead ts ≡ Some (kind.Keyword word.Host) → ⊥
no_host depth free n ts a us d is =
    let f : false ≡ true = subst (λ w. begins fuel (expression n) w ≡ true) is (begins_is fuel free (expression n) ts a us (depth, d)) in
    cc

host_ahead : (depth free : ℕ) (ts : List Lexeme) (line : ℕ) (us : List Lexeme) → says depth free (token (kind.Keyword word.Host)) ts line us → ahead ts ≡ Some (kind.Keyword word.Host)
host_ahead depth free [] line us d = elim d [ ]
host_ahead depth free (t ∷ ts) line us d = ap Some d.0.0

-- a predictor that doesn't begin with `host` is an expression
pub by_expression : (depth free n : ℕ) (ts : List Lexeme) (g : RawPredictor) (us : List Lexeme) → (ahead ts ≡ Some (kind.Keyword word.Host) → ⊥) → reads (says depth free) (predictor_rule n) ts g us
    → (b : RawExpression) × says depth free (expression n) ts b us × (g ≡ By b)
by_expression depth free n ts g us never (inl e) = absurd (never (host_ahead depth free ts e.0 e.1 e.2))
by_expression depth free n ts g us never (inr e) = (e.0, subst (λ l. says depth free (expression n) ts e.0 l) (sym e.3.1) e.2, e.3.0)

-- a predictor that begins with a parenthesis is an expression
pub bracketed_guess : (depth free n : ℕ) (t : Lexeme) (ts : List Lexeme) (g : RawPredictor) (us : List Lexeme) → t.kind ≡ kind.Sign sign.OpenParen → reads (says depth free) (predictor_rule n) (t ∷ ts) g us
    → (b : RawExpression) × (vs : List Lexeme) × says depth free (expression n) (t ∷ ts) b vs × (g ≡ By b) × (us ≡ vs)
bracketed_guess depth free n t ts g us k (inl e) = let f = e.2.0.0 in cc
bracketed_guess depth free n t ts g us k (inr e) = (e.0, e.1, e.2, e.3.0, e.3.1)

no_guess : (depth free n : ℕ) → ((p : Part) → IsTrue (is_used p) → Once depth free p) → (ts : List Lexeme) (a b : List RawPredictor) (us vs : List Lexeme)
    → reads (says depth free) (one_guess n) ts a us → reads (says depth free) (some_guess n) ts b vs → ⊥
no_guess zero free n parts ts a b us vs d e = elim d.2 [ ]
no_guess (suc zero) free n parts [] a b us vs d e = elim e.2.1 [ ]
no_guess (suc zero) free n parts (t ∷ ts) a b us vs d e = let g = bracketed_guess zero free n t ts d.0 d.1 e.2.1.0 d.2 in elim g.2 [ ]
no_guess (suc (suc depth)) free n parts [] a b us vs d e = elim e.2.1 [ ]
no_guess (suc (suc depth)) free n parts (t ∷ ts) a b us vs d e =
    let g = bracketed_guess (suc depth) free n t ts d.0 d.1 e.2.1.0 d.2 in
    let i : Inner depth free n (expression_rule n) ts g.0 g.1 = inner_expression depth free n t ts g.0 g.1 e.2.1.0 g.2 in
    let inside = grow depth free (expression (n + 1)) ts i.a i.ms i.inside in
    let second = subst (λ l. reads (says (suc depth) free) (predictor_rule (n + 1)) l e.3.0 e.3.1) e.2.1.1 e.3.2 in
    let f = by_expression (suc depth) free (n + 1) ts e.3.0 e.3.1 (no_host (suc depth) free (n + 1) ts i.a i.ms inside) second in
    let c = predictor_comma free (n + 1) (suc (suc depth)) e.3.1 e.3.3.0 e.3.3.1 e.3.3.2 in
    ends_once (suc (suc depth)) free (n + 1) (parts (expression (n + 1)) refl) ts i.a f.0 i.ms e.3.1
    (grow (suc depth) free (expression (n + 1)) ts i.a i.ms inside) (grow (suc depth) free (expression (n + 1)) ts f.0 e.3.1 f.1) i.closed c.0 c.1 c.2 c.3

once_guess : (depth free n : ℕ) → ((p : Part) → IsTrue (is_used p) → Once depth free p) → (ts : List Lexeme) (a b : List RawPredictor) (us vs : List Lexeme)
    → reads (says depth free) (guess_rule n) ts a us → reads (says depth free) (guess_rule n) ts b vs → Stops 10 us → Stops 10 vs → (a ≡ b) × (us ≡ vs)
once_guess depth free n parts ts a b us vs (inl d) (inl e) s t = once_rule depth free 10 parts (one_guess n) (one_guess_clear n) ts a b us vs d e s t
once_guess depth free n parts ts a b us vs (inl d) (inr e) s t = absurd (no_guess depth free n parts ts a b us vs d e)
once_guess depth free n parts ts a b us vs (inr d) (inl e) s t = absurd (no_guess depth free n parts ts b a vs us e d)
once_guess depth free n parts ts a b us vs (inr d) (inr e) s t = once_rule depth free 10 parts (some_guess n) (some_guess_clear n) ts a b us vs d e s t

-- ---- headers

-- a text that begins with `version` has a header
pub no_header : (t : Lexeme) (ts us : List Lexeme) → t.kind ≡ kind.Keyword word.Version → us ≡ t ∷ ts → Stops 11 us → ⊥
no_header t ts us k is s =
    let far : 11 < reach t.kind = subst (Stops 11) is s in
    let at : 11 < reach (kind.Keyword word.Version) = subst (λ w. 11 < reach w) k far in
    omega (arith, at)

pub no_version : (depth free : ℕ) (ts us : List Lexeme) (line : ℕ) (vs : List Lexeme) → says depth free (token (kind.Keyword word.Version)) ts line vs → us ≡ ts → Stops 11 us → ⊥
no_version depth free [] us line vs d is s = elim d [ ]
no_version depth free (t ∷ ts) us line vs d is s = no_header t ts us d.0.0 is s

-- a number is that of one version
pub one_version : (t : Lexeme) → t.kind ≡ kind.Number (pos 1) → t.kind ≡ kind.Number (pos 2) → ⊥
one_version t d e = let same = count_is t.kind 1 2 d e in omega (arith, same)

two_versions : (depth free : ℕ) (ts : List Lexeme) (k l : ℕ) (us vs : List Lexeme) → says depth free (token (kind.Number (pos 1))) ts k us → says depth free (token (kind.Number (pos 2))) ts l vs → ⊥
two_versions depth free [] k l us vs d e = elim d [ ]
two_versions depth free (t ∷ ts) k l us vs d e = one_version t d.0.0 e.0.0

-- what stands after a token
after_token : (depth free : ℕ) (w : TokenKind) (ts : List Lexeme) (k l : ℕ) (us vs : List Lexeme) → says depth free (token w) ts k us → says depth free (token w) ts l vs → us ≡ vs
after_token depth free w [] k l us vs d e = elim d [ ]
after_token depth free w (t ∷ ts) k l us vs d e = d.1 ∙ sym e.1

once_header : (depth free : ℕ) → ((p : Part) → IsTrue (is_used p) → Once depth free p) → (ts : List Lexeme) (a b : ℕ) (us vs : List Lexeme)
    → reads (says depth free) header_rule ts a us → reads (says depth free) header_rule ts b vs → Stops 11 us → Stops 11 vs → (a ≡ b) × (us ≡ vs)
once_header depth free parts ts a b us vs (inl d) (inl e) s t = (d.0 ∙ sym e.0, d.1 ∙ sym e.1)
once_header depth free parts ts a b us vs (inl d) (inr e) s t = absurd (no_version depth free ts us e.0 e.1 e.2 d.1 s)
once_header depth free parts ts a b us vs (inr d) (inl e) s t = absurd (no_version depth free ts vs d.0 d.1 d.2 e.1 t)
once_header depth free parts ts a b us vs (inr (k, ks, d, inl f)) (inr (l, ls, e, inl g)) s t = once_rule depth free 11 parts (written_version 1) (version_clear 1) ts a b us vs (k, ks, d, f) (l, ls, e, g) s t
once_header depth free parts ts a b us vs (inr (k, ks, d, inr f)) (inr (l, ls, e, inr g)) s t = once_rule depth free 11 parts (written_version 2) (version_clear 2) ts a b us vs (k, ks, d, f) (l, ls, e, g) s t
once_header depth free parts ts a b us vs (inr (k, ks, d, inl f)) (inr (l, ls, e, inr g)) s t =
    let same = after_token depth free (kind.Keyword word.Version) ts k l ks ls d e in
    absurd (two_versions depth free ls f.0 g.0 f.1 g.1 (subst (λ x. says depth free (token (kind.Number (pos 1))) x f.0 f.1) same f.2) g.2)
once_header depth free parts ts a b us vs (inr (k, ks, d, inr f)) (inr (l, ls, e, inl g)) s t =
    let same = after_token depth free (kind.Keyword word.Version) ts k l ks ls d e in
    absurd (two_versions depth free ls g.0 f.0 g.1 f.1 g.2 (subst (λ x. says depth free (token (kind.Number (pos 2))) x f.0 f.1) same f.2))

-- ---- all parts

pub once : (depth free : ℕ) (p : Part) → IsTrue (is_used p) → Once depth free p
once depth free (token k) f [] x y us vs d e s t = elim d [ ]
once depth free (token k) f (l ∷ ts) x y us vs d e s t = (d.0.1 ∙ sym e.0.1, d.1 ∙ sym e.1)
once depth free (opens n g) f [] x y us vs d e s t = elim d.1 [ ]
once depth free (opens n g) f (l ∷ ts) x y us vs d e s t = ((λ j. tt), d.1.1 ∙ sym e.1.1)
once depth free (operator rank used) f [] x y us vs d e s t = elim d.1 [ ]
once depth free (operator rank used) f (l ∷ ts) x y us vs d e s t = (sign_is l.kind x y d.1.0.0 e.1.0.0, d.1.1 ∙ sym e.1.1)
once depth free name f [] x y us vs d e s t = elim d [ ]
once depth free name f (l ∷ ts) x y us vs d e s t = (d.0.1 ∙ sym e.0.1, d.1 ∙ sym e.1)
once depth free number f [] x y us vs d e s t = elim d [ ]
once depth free number f (l ∷ ts) x y us vs d e s t = (number_is l.kind x y d.0 e.0, d.1 ∙ sym e.1)
once depth free count f [] x y us vs d e s t = elim d [ ]
once depth free count f (l ∷ ts) x y us vs d e s t = (count_is l.kind x y d.0 e.0, d.1 ∙ sym e.1)
once zero free p f ts x y us vs d e s t = elim d [ ]
once (suc depth) free (many (next_argument n)) f ts x y us vs d e s t = once_list depth free (next_argument n) (once depth free (next_argument n) refl) (once depth free (many (next_argument n)) refl) (argument_comma free n) (λ us k. k) (λ us k. k) ts x y us vs d e s t
once (suc depth) free (many next_parameter) f ts x y us vs d e s t = once_list depth free next_parameter (once depth free next_parameter refl) (once depth free (many next_parameter) refl) (parameter_comma free) (λ us k. stops_all us) (λ us k. k) ts x y us vs d e s t
once (suc depth) free (few most (next_argument n)) f ts x y us vs d e s t = once_few depth free most (next_argument n) (once depth free (next_argument n) refl) (λ k. once depth free (few k (next_argument n)) refl) (argument_comma free n) (λ us k. k) ts x y us vs d e s t
once (suc depth) free (few most (next_predictor n)) f ts x y us vs d e s t = once_few depth free most (next_predictor n) (once depth free (next_predictor n) refl) (λ k. once depth free (few k (next_predictor n)) refl) (predictor_comma free n) (λ us k. k) ts x y us vs d e s t
once (suc depth) free (few most next_parameter) f ts x y us vs d e s t = once_few depth free most next_parameter (once depth free next_parameter refl) (λ k. once depth free (few k next_parameter) refl) (parameter_comma free) (λ us k. stops_all us) ts x y us vs d e s t
once (suc depth) free (many (lined (form breaks n))) f ts x y us vs d e s t = once_rule depth free 12 (once depth free) (many_rule (statement breaks n)) (statements_clear breaks n) ts x y us vs d e s t
once (suc depth) free (many array) f ts x y us vs d e s t = once_rule depth free 12 (once depth free) (many_rule array) arrays_clear ts x y us vs d e s t
once (suc depth) free (many (function breaks)) f ts x y us vs d e s t = once_rule depth free 13 (once depth free) (many_rule (function breaks)) (functions_clear breaks) ts x y us vs d e s t
once (suc depth) free (lined (form breaks n)) f ts x y us vs d e s t = let r = once depth free (form breaks n) refl ts x.1 y.1 us vs d.1 e.1 s t in ((λ j. ((d.0 ∙ sym e.0) j, r.0 j)), r.1)
once (suc depth) free (expression n) f ts x y us vs d e s t = once_rule depth free 10 (once depth free) (expression_rule n) (expression_clear n) ts x y us vs d e s t
once (suc depth) free (level n rank used) f ts x y us vs d e s t = once_rule depth free (suc rank) (once depth free) (level_rule n rank used) (level_clear n rank used) ts x y us vs d e s t
once (suc depth) free (further n rank a used) f ts x y us vs d e s t = once_rule depth free (suc (suc rank)) (once depth free) (further_rule n rank a used) (further_clear n rank a used) ts x y us vs d e s t
once (suc depth) free (compared n rank a used) f ts x y us vs d e s t = once_rule depth free (suc (suc rank)) (once depth free) (compared_rule n rank a used) (compared_clear n rank a used) ts x y us vs d e s t
once (suc depth) free (operand n) f ts x y us vs d e s t = once_rule depth free 1 (once depth free) (operand_rule n) (operand_clear n) ts x y us vs d e s t
once (suc depth) free (arguments n) f ts x y us vs d e s t = once_rule depth free 0 (once depth free) (arguments_rule n) (arguments_clear n) ts x y us vs d e s t
once (suc depth) free (next_argument n) f ts x y us vs d e s t = once_rule depth free 10 (once depth free) (next_argument_rule n) (next_argument_clear n) ts x y us vs d e s t
once (suc depth) free (form breaks n) f ts x y us vs d e s t = once_rule depth free 11 (once depth free) (form_rule breaks n) (form_clear breaks n) ts x y us vs d e s t
once (suc depth) free (block breaks n) f ts x y us vs d e s t = once_rule depth free 0 (once depth free) (block_rule breaks n) (block_clear breaks n) ts x y us vs d e s t
once (suc depth) free (otherwise breaks n) f ts x y us vs d e s t = once_rule depth free 11 (once depth free) (otherwise_rule breaks n) (otherwise_clear breaks n) ts x y us vs d e s t
once (suc depth) free (names n) f ts x y us vs d e s t = once_rule depth free 0 (once depth free) (names_rule n) (names_clear n) ts x y us vs d e s t
once (suc depth) free (row n) f ts x y us vs d e s t = once_row depth free n (once depth free) ts x y us vs d e s t
once (suc depth) free (guess n) f ts x y us vs d e s t = once_guess depth free n (once depth free) ts x y us vs d e s t
once (suc depth) free (predictor n) f ts x y us vs d e s t = once_rule depth free 10 (once depth free) (predictor_rule n) (predictor_clear n) ts x y us vs d e s t
once (suc depth) free (next_predictor n) f ts x y us vs d e s t = once_rule depth free 10 (once depth free) (next_predictor_rule n) (next_predictor_clear n) ts x y us vs d e s t
once (suc depth) free header f ts x y us vs d e s t = once_header depth free (once depth free) ts x y us vs d e s t
once (suc depth) free size f ts x y us vs d e s t = once_rule depth free 3 (once depth free) size_rule size_clear ts x y us vs d e s t
once (suc depth) free array f ts x y us vs d e s t = once_rule depth free 0 (once depth free) array_rule array_clear ts x y us vs d e s t
once (suc depth) free parameters f ts x y us vs d e s t = once_rule depth free 0 (once depth free) parameters_rule parameters_clear ts x y us vs d e s t
once (suc depth) free next_parameter f ts x y us vs d e s t = once_rule depth free 0 (once depth free) next_parameter_rule next_parameter_clear ts x y us vs d e s t
once (suc depth) free (function breaks) f ts x y us vs d e s t = once_rule depth free 0 (once depth free) (function_rule breaks) (function_clear breaks) ts x y us vs d e s t
once (suc depth) free program f ts x y us vs d e s t = once_rule depth free 0 (once depth free) program_rule program_clear ts x y us vs d e s t
once (suc depth) free p f ts x y us vs d e s t = let g : false ≡ true = f in absurd cc

-- tokens are those of one program at most
pub reads_once : (free : ℕ) (ts : List Lexeme) (p q : RawProgram) → Reads free ts p → Reads free ts q → p ≡ q
reads_once free ts p q d e =
    (once (d.0 + e.0) free program refl ts p q [] [] (raise d.0 (d.0 + e.0) free (omega arith) program ts p [] d.1) (raise e.0 (d.0 + e.0) free (omega arith) program ts q [] e.1) tt tt).0

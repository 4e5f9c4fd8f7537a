-- The limits bind all that read the same tokens alike, and no tokens are left that neither are those of a program nor go wrong.
use Rattle.std.proofs.Common.{◌≡◌, ℕ, zero, suc, ◌+◌, ◌<◌, ◌≤◌, true, false, inl, inr, refl, List, [], ◌∷◌, ◌++◌, length, Some, pos, sym, ap, ◌∙◌, subst, append_assoc, length-append, arith}
use Rattle.std.proofs.lemmas.List.{append-nil}
use Rattle.std.specs.Prelude.{IsTrue}
use Rattle.spf_text.specs.declared.token.Keyword.TheVariants as word
use Rattle.spf_text.specs.declared.token.Sign.TheVariants as sign
use Rattle.spf_text.specs.declared.token.TokenKind.TheVariants as kind
use Rattle.spf_ast.specs.RawSyntax.{RawExpression, RawPredictor, By, RawProgram}
use Rattle.spf_parse_grammar.specs.Lexemes.{Lexeme}
use Rattle.spf_parse_grammar.specs.Parts.{Part, token, opens, operator, name, number, count, many, few, lined, expression, level, further, compared, operand, arguments, next_argument, names, row, guess, predictor, next_predictor, form, block, otherwise, header, size, array, parameters, next_parameter, function, program, statement, Value, Rule, give, part, either}
use Rattle.spf_parse_grammar.specs.Rules.{rule, expression_rule, level_rule, further_rule, compared_rule, operand_rule, arguments_rule, next_argument_rule, names_rule, row_rule, guess_rule, predictor_rule, next_predictor_rule, form_rule, block_rule, otherwise_rule, version_rule, header_rule, size_rule, array_rule, parameters_rule, next_parameter_rule, function_rule, program_rule, many_rule, few_rule}
use Rattle.spf_parse_grammar.specs.Reading.{reads, says, line_of, Reads, max_nesting}
use Rattle.spf_parse_grammar.specs.Texts.{IsFront, IsUnexpected, IsTooDeep}
use Rattle.spf_parse_grammar.proofs.Derivations.{raise, grow, from_rule}
use Rattle.spf_parse_grammar.specs.Derivations.{Says, Reading}
use Rattle.spf_parse_parts.specs.Answers.{Stops}
use Rattle.spf_parse_parts.proofs.Beginnings.{begins, begins_is, may_is, stops_all}
use Rattle.spf_parse_parts.proofs.Completions.{sample, completes_part}
use Rattle.spf_print_laws.proofs.Clear.{fuel, is_used, IsClosed, Ends, IsClear, operand_clear, expression_clear, arguments_clear, next_argument_clear, names_clear, one_row, row_rest, some_row, one_row_clear, some_row_clear, one_guess, guess_rest, some_guess, one_guess_clear, some_guess_clear, predictor_clear, next_predictor_clear, form_clear, block_clear, otherwise_clear, written_version, version_clear, size_clear, array_clear, parameters_clear, next_parameter_clear, function_clear, program_clear, statements_clear, arrays_clear, functions_clear, further_clear, compared_clear, level_clear}
use Rattle.spf_print_laws.proofs.Limits.{reading, shrinks, shrinks_rule, shrunk_rule, loosens, loosened_rule}
use Rattle.spf_print_laws.proofs.Parens.{inner_expression, inner_grow, Inner}
use Rattle.spf_print_laws.proofs.Once.{precedes_is, sign_is, number_is, count_is, no_comma, stops_closed, stops_comma, BeginsWithComma, argument_comma, parameter_comma, predictor_comma, list_stops, few_stops, no_host, by_expression, bracketed_guess, no_header, one_version}

-- ---- two readings of tokens that begin alike

-- both went over the same of the tokens that they share, or the first went beyond these
pub data Went {A : Type 0} (m k : List Lexeme) (x y : A) (us vs : List Lexeme) : Type 0 where
  together : (c : List Lexeme) → us ≡ c ++ m → vs ≡ c ++ k → x ≡ y → Went m k x y us vs
  beyond : length us ≤ length m → Went m k x y us vs

-- where the limits bind the second reading on the shared tokens, they bind the first one too
abbrev Bound : ℕ → ℕ → ℕ → Part → Type 0
Bound depth free held p =
    (c m k : List Lexeme) (x y : Value p) (us vs : List Lexeme) → held ≤ length k → says depth free p (c ++ m) x us → says depth held p (c ++ k) y vs
    → Ends p us → Ends p vs → Says (length m) p (c ++ m) x us × Went m k x y us vs

abbrev BoundRule : ℕ → ℕ → ℕ → ℕ → {A : Type 0} → Rule A → Type 0
BoundRule depth free held n {A} r =
    (c m k : List Lexeme) (a b : A) (us vs : List Lexeme) → held ≤ length k → reads (says depth free) r (c ++ m) a us → reads (says depth held) r (c ++ k) b vs
    → Stops n us → Stops n vs → Reading (length m) r (c ++ m) a us × Went m k a b us vs

-- where no token is shared
alone_rule : (depth free : ℕ) {A : Type 0} (r : Rule A) (m k : List Lexeme) (a b : A) (us vs : List Lexeme) → reads (says depth free) r m a us → Reading (length m) r m a us × Went m k a b us vs
alone_rule depth free r m k a b us vs d = (loosened_rule depth free (length m) r m a us (omega arith) d, beyond (shrunk_rule depth free r m a us d))

alone : (depth free : ℕ) (p : Part) (m k : List Lexeme) (x y : Value p) (us vs : List Lexeme) → says depth free p m x us → Says (length m) p m x us × Went m k x y us vs
alone depth free p m k x y us vs d = ((depth, loosens depth free (length m) p m x us (omega arith) d), beyond (shrinks depth free p m x us d))

bound_rule : (depth free held n : ℕ) → ((p : Part) → IsTrue (is_used p) → Bound depth free held p) → {A : Type 0} (r : Rule A) → IsClear n r → BoundRule depth free held n r
bound_rule depth free held n parts r q [] m k a b us vs h d e s t = alone_rule depth free r m k a b us vs d
bound_rule depth free held n parts (give x) q (l ∷ c) m k a b us vs h d e s t = (d, together (l ∷ c) d.1 e.1 (d.0 ∙ sym e.0))
bound_rule depth free held n parts (part p r) q (l ∷ c) m k a b us vs h d e s t = on (bound_rule depth free held n parts (r d.0) (q.2 d.0)) f.1
  where
    f : Says (length m) p (l ∷ c ++ m) d.0 d.1 × Went m k d.0 e.0 d.1 e.1
    f = parts p q.0 (l ∷ c) m k d.0 e.0 d.1 e.1 h d.2 e.2 (precedes_is depth free n p (r d.0) (q.1 d.0) d.1 a us d.3 s) (precedes_is depth held n p (r e.0) (q.1 e.0) e.1 b vs e.3 t)

    on : BoundRule depth free held n (r d.0) → Went m k d.0 e.0 d.1 e.1 → Reading (length m) (part p r) (l ∷ c ++ m) a us × Went m k a b us vs
    on later (together c' eu ev ex) =
        let d' : reads (says depth free) (r d.0) (c' ++ m) a us = subst (λ ts. reads (says depth free) (r d.0) ts a us) eu d.3 in
        let e' : reads (says depth held) (r d.0) (c' ++ k) b vs = subst (λ ts. reads (says depth held) (r d.0) ts b vs) ev (subst (λ x. reads (says depth held) (r x) e.1 b vs) (sym ex) e.3) in
        let g = later c' m k a b us vs h d' e' s t in
        ((d.0, d.1, f.0, subst (λ ts. Reading (length m) (r d.0) ts a us) (sym eu) g.0), g.1)
    on later (beyond past) = (
      (d.0, d.1, f.0, loosened_rule depth free (length m) (r d.0) d.1 a us past d.3),
      beyond (omega (arith, past, shrinks_rule depth free (shrinks depth free) (r d.0) d.1 a us d.3)),
    )
bound_rule depth free held n parts (either r z) q (l ∷ c) m k a b us vs h (inl d) (inl e) s t =
    let g = bound_rule depth free held n parts r q.1 (l ∷ c) m k a b us vs h d e s t in (inl g.0, g.1)
bound_rule depth free held n parts (either r z) q (l ∷ c) m k a b us vs h (inl d) (inr e) s t = absurd (q.0 (Some l.kind)
    (may_is (begins fuel) free n (begins_is fuel free) r (l ∷ c ++ m) a us (reading depth free r (l ∷ c ++ m) a us d) s)
    (may_is (begins fuel) held n (begins_is fuel held) z (l ∷ c ++ k) b vs (reading depth held z (l ∷ c ++ k) b vs e) t))
bound_rule depth free held n parts (either r z) q (l ∷ c) m k a b us vs h (inr d) (inl e) s t = absurd (q.0 (Some l.kind)
    (may_is (begins fuel) held n (begins_is fuel held) r (l ∷ c ++ k) b vs (reading depth held r (l ∷ c ++ k) b vs e) t)
    (may_is (begins fuel) free n (begins_is fuel free) z (l ∷ c ++ m) a us (reading depth free z (l ∷ c ++ m) a us d) s))
bound_rule depth free held n parts (either r z) q (l ∷ c) m k a b us vs h (inr d) (inr e) s t =
    let g = bound_rule depth free held n parts z q.2 (l ∷ c) m k a b us vs h d e s t in (inr g.0, g.1)

-- ---- lists with commas, up to a closing parenthesis

closed_comma : (l t : Lexeme) (c rest us m : List Lexeme) → l ∷ c ++ m ≡ t ∷ rest → t.kind ≡ kind.Sign sign.Comma → us ≡ l ∷ c ++ m → IsClosed us → ⊥
closed_comma l t c rest us m e comma same closed = no_comma t (subst IsClosed (same ∙ e) closed) comma

-- the first token of the one list is that of the other
same_first : (l t : Lexeme) (c rest k : List Lexeme) → l ∷ c ++ k ≡ t ∷ rest → t.kind ≡ kind.Sign sign.Comma → l.kind ≡ kind.Sign sign.Comma
same_first l t c rest k e comma = let same : l ≡ t = cc in ap (λ (x : Lexeme). x.kind) same ∙ comma

bound_list : (depth free held : ℕ) (p : Part) → Bound depth free held p → Bound depth free held (many p) → BeginsWithComma free p → BeginsWithComma held p
    → ((us : List Lexeme) → Stops 10 us → Ends p us) → ((us : List Lexeme) → IsClosed us → Ends (many p) us)
    → (c m k : List Lexeme) (xs ys : List (Value p)) (us vs : List Lexeme) → held ≤ length k → reads (says depth free) (many_rule p) (c ++ m) xs us → reads (says depth held) (many_rule p) (c ++ k) ys vs
    → IsClosed us → IsClosed vs → Reading (length m) (many_rule p) (c ++ m) xs us × Went m k xs ys us vs
bound_list depth free held p one more comma comma' ends closed [] m k xs ys us vs h d e s t = alone_rule depth free (many_rule p) m k xs ys us vs d
bound_list depth free held p one more comma comma' ends closed (l ∷ c) m k xs ys us vs h (inl d) (inl e) s t = (inl d, together (l ∷ c) d.1 e.1 (d.0 ∙ sym e.0))
bound_list depth free held p one more comma comma' ends closed (l ∷ c) m k xs ys us vs h (inl d) (inr e) s t =
    let f = comma' depth (l ∷ c ++ k) e.0 e.1 e.2 in
    absurd (closed_comma l l c (c ++ m) us m refl (same_first l f.0 c f.1 k f.2 f.3) d.1 s)
bound_list depth free held p one more comma comma' ends closed (l ∷ c) m k xs ys us vs h (inr d) (inl e) s t =
    let f = comma depth (l ∷ c ++ m) d.0 d.1 d.2 in
    absurd (closed_comma l l c (c ++ k) vs k refl (same_first l f.0 c f.1 m f.2 f.3) e.1 t)
bound_list depth free held p one more comma comma' ends closed (l ∷ c) m k xs ys us vs h (inr d) (inr e) s t = on f.1
  where
    sd : IsClosed d.3.1
    sd = subst IsClosed d.3.3.1 s

    se : IsClosed e.3.1
    se = subst IsClosed e.3.3.1 t

    f : Says (length m) p (l ∷ c ++ m) d.0 d.1 × Went m k d.0 e.0 d.1 e.1
    f = one (l ∷ c) m k d.0 e.0 d.1 e.1 h d.2 e.2 (ends d.1 (list_stops depth free p comma d.1 d.3.0 d.3.1 d.3.2 sd)) (ends e.1 (list_stops depth held p comma' e.1 e.3.0 e.3.1 e.3.2 se))

    behind : d.0 ≡ e.0 → Went m k d.3.0 e.3.0 d.3.1 e.3.1 → Went m k xs ys us vs
    behind ex (together c' eu ev exs) = together c' (d.3.3.1 ∙ eu) (e.3.3.1 ∙ ev) (d.3.3.0 ∙ (λ j. ex j ∷ exs j) ∙ sym e.3.3.0)
    behind ex (beyond past) = beyond (omega (arith, ap length d.3.3.1, past))

    on : Went m k d.0 e.0 d.1 e.1 → Reading (length m) (many_rule p) (l ∷ c ++ m) xs us × Went m k xs ys us vs
    on (together c' eu ev ex) =
        let g = more c' m k d.3.0 e.3.0 d.3.1 e.3.1 h (subst (λ ts. says depth free (many p) ts d.3.0 d.3.1) eu d.3.2) (subst (λ ts. says depth held (many p) ts e.3.0 e.3.1) ev e.3.2) (closed d.3.1 sd) (closed e.3.1 se) in
        (inr (d.0, d.1, f.0, (d.3.0, d.3.1, subst (λ ts. Says (length m) (many p) ts d.3.0 d.3.1) (sym eu) g.0, d.3.3)), behind ex g.1)
    on (beyond past) = (
      inr (d.0, d.1, f.0, (d.3.0, d.3.1, (depth, loosens depth free (length m) (many p) d.1 d.3.0 d.3.1 past d.3.2), d.3.3)),
      beyond (omega (arith, ap length d.3.3.1, shrinks depth free (many p) d.1 d.3.0 d.3.1 d.3.2, past)),
    )

bound_few : (depth free held most : ℕ) (p : Part) → Bound depth free held p → ((n : ℕ) → Bound depth free held (few n p)) → BeginsWithComma free p → BeginsWithComma held p
    → ((us : List Lexeme) → Stops 10 us → Ends p us)
    → (c m k : List Lexeme) (xs ys : List (Value p)) (us vs : List Lexeme) → held ≤ length k → reads (says depth free) (few_rule most p) (c ++ m) xs us → reads (says depth held) (few_rule most p) (c ++ k) ys vs
    → IsClosed us → IsClosed vs → Reading (length m) (few_rule most p) (c ++ m) xs us × Went m k xs ys us vs
bound_few depth free held most p one more comma comma' ends [] m k xs ys us vs h d e s t = alone_rule depth free (few_rule most p) m k xs ys us vs d
bound_few depth free held zero p one more comma comma' ends (l ∷ c) m k xs ys us vs h d e s t = (d, together (l ∷ c) d.1 e.1 (d.0 ∙ sym e.0))
bound_few depth free held (suc most) p one more comma comma' ends (l ∷ c) m k xs ys us vs h (inl d) (inl e) s t = (inl d, together (l ∷ c) d.1 e.1 (d.0 ∙ sym e.0))
bound_few depth free held (suc most) p one more comma comma' ends (l ∷ c) m k xs ys us vs h (inl d) (inr e) s t =
    let f = comma' depth (l ∷ c ++ k) e.0 e.1 e.2 in
    absurd (closed_comma l l c (c ++ m) us m refl (same_first l f.0 c f.1 k f.2 f.3) d.1 s)
bound_few depth free held (suc most) p one more comma comma' ends (l ∷ c) m k xs ys us vs h (inr d) (inl e) s t =
    let f = comma depth (l ∷ c ++ m) d.0 d.1 d.2 in
    absurd (closed_comma l l c (c ++ k) vs k refl (same_first l f.0 c f.1 m f.2 f.3) e.1 t)
bound_few depth free held (suc most) p one more comma comma' ends (l ∷ c) m k xs ys us vs h (inr d) (inr e) s t = on f.1
  where
    sd : IsClosed d.3.1
    sd = subst IsClosed d.3.3.1 s

    se : IsClosed e.3.1
    se = subst IsClosed e.3.3.1 t

    f : Says (length m) p (l ∷ c ++ m) d.0 d.1 × Went m k d.0 e.0 d.1 e.1
    f = one (l ∷ c) m k d.0 e.0 d.1 e.1 h d.2 e.2 (ends d.1 (few_stops depth free most p comma d.1 d.3.0 d.3.1 d.3.2 sd)) (ends e.1 (few_stops depth held most p comma' e.1 e.3.0 e.3.1 e.3.2 se))

    behind : d.0 ≡ e.0 → Went m k d.3.0 e.3.0 d.3.1 e.3.1 → Went m k xs ys us vs
    behind ex (together c' eu ev exs) = together c' (d.3.3.1 ∙ eu) (e.3.3.1 ∙ ev) (d.3.3.0 ∙ (λ j. ex j ∷ exs j) ∙ sym e.3.3.0)
    behind ex (beyond past) = beyond (omega (arith, ap length d.3.3.1, past))

    on : Went m k d.0 e.0 d.1 e.1 → Reading (length m) (few_rule (suc most) p) (l ∷ c ++ m) xs us × Went m k xs ys us vs
    on (together c' eu ev ex) =
        let g = more most c' m k d.3.0 e.3.0 d.3.1 e.3.1 h (subst (λ ts. says depth free (few most p) ts d.3.0 d.3.1) eu d.3.2) (subst (λ ts. says depth held (few most p) ts e.3.0 e.3.1) ev e.3.2) sd se in
        (inr (d.0, d.1, f.0, (d.3.0, d.3.1, subst (λ ts. Says (length m) (few most p) ts d.3.0 d.3.1) (sym eu) g.0, d.3.3)), behind ex g.1)
    on (beyond past) = (
      inr (d.0, d.1, f.0, (d.3.0, d.3.1, (depth, loosens depth free (length m) (few most p) d.1 d.3.0 d.3.1 past d.3.2), d.3.3)),
      beyond (omega (arith, ap length d.3.3.1, shrinks depth free (few most p) d.1 d.3.0 d.3.1 d.3.2, past)),
    )

-- ---- rows

still_held : (held : ℕ) (l : Lexeme) (c k : List Lexeme) → held ≤ length k → held < length (l ∷ c ++ k)
still_held held l c k h = omega (arith, h, length-append c k)

still_held_behind : (held : ℕ) (c k : List Lexeme) → held ≤ length k → held < suc (length (c ++ k))
still_held_behind held c k h = omega (arith, h, length-append c k)

-- An expression that is ended by a closing parenthesis here and by a comma there went beyond the shared tokens.
went_beyond : {A : Type 0} (m k : List Lexeme) (x y : A) (us vs : List Lexeme) → Went m k x y us vs → IsClosed us → (t : Lexeme) (rest : List Lexeme) → vs ≡ t ∷ rest → t.kind ≡ kind.Sign sign.Comma → length us ≤ length m
went_beyond m k x y us vs (together [] eu ev ex) s t rest is comma = omega (arith, ap length eu)
went_beyond m k x y us vs (together (l ∷ c) eu ev ex) s t rest is comma =
    let closes : l.kind ≡ kind.Sign sign.CloseParen = subst IsClosed eu s in
    let same : l ∷ c ++ k ≡ t ∷ rest = sym ev ∙ is in
    absurd (no_comma l closes (same_first l t c rest k same comma))
went_beyond m k x y us vs (beyond past) s t rest is comma = past

-- the same the other way round
comma_beyond : {A : Type 0} (m k : List Lexeme) (x y : A) (us vs : List Lexeme) → Went m k x y us vs → IsClosed vs → (t : Lexeme) (rest : List Lexeme) → us ≡ t ∷ rest → t.kind ≡ kind.Sign sign.Comma → length us ≤ length m
comma_beyond m k x y us vs (together [] eu ev ex) s t rest is comma = omega (arith, ap length eu)
comma_beyond m k x y us vs (together (l ∷ c) eu ev ex) s t rest is comma =
    let closes : l.kind ≡ kind.Sign sign.CloseParen = subst IsClosed ev s in
    let same : l ∷ c ++ m ≡ t ∷ rest = sym eu ∙ is in
    absurd (no_comma l closes (same_first l t c rest m same comma))
comma_beyond m k x y us vs (beyond past) s t rest is comma = past

comma_stops : (us : List Lexeme) (t : Lexeme) (rest : List Lexeme) → us ≡ t ∷ rest → t.kind ≡ kind.Sign sign.Comma → Stops 10 us
comma_stops us t rest is comma = subst (Stops 10) (sym is) (stops_comma t comma)

-- An expression in parentheses here, and several parts there: the shared tokens end within the first of them.
row_beside : (depth free held n : ℕ) → ((p : Part) → IsTrue (is_used p) → Bound depth free held p) → (l : Lexeme) (c m k : List Lexeme) (a : RawExpression) (b : RawExpression) (us vs : List Lexeme)
    → held ≤ length k → l.kind ≡ kind.Sign sign.OpenParen → n < max_nesting → (i : Inner depth free n (expression_rule n) (c ++ m) a us)
    → says depth held (expression (n + 1)) (c ++ k) b vs → (t : Lexeme) (rest : List Lexeme) → vs ≡ t ∷ rest → t.kind ≡ kind.Sign sign.Comma
    → Says (length m) (expression n) (l ∷ c ++ m) a us × (length us ≤ length m)
row_beside depth free held n parts l c m k a b us vs h opens_here limit i e t rest is comma =
    let w = parts (expression (n + 1)) refl c m k i.a b i.ms vs h i.inside e (stops_closed i.ms i.closed) (comma_stops vs t rest is comma) in
    let past = went_beyond m k i.a b i.ms vs w.1 i.closed t rest is comma in
    (from_rule (length m) (expression n) (l ∷ c ++ m) a us (i.again l (length m) opens_here (λ bound. limit) w.0 past), omega (arith, past, i.less))

bound_row : (depth free held n : ℕ) → ((p : Part) → IsTrue (is_used p) → Bound depth free held p) → (l : Lexeme) (c m k : List Lexeme) (x y : List RawExpression) (us vs : List Lexeme)
    → held ≤ length k → reads (says depth free) (row_rule n) (l ∷ c ++ m) x us → reads (says depth held) (row_rule n) (l ∷ c ++ k) y vs → Stops 10 us → Stops 10 vs
    → Reading (length m) (row_rule n) (l ∷ c ++ m) x us × Went m k x y us vs
bound_row depth free held n parts l c m k x y us vs h (inl d) (inl e) s t =
    let g = bound_rule depth free held 10 parts (one_row n) (one_row_clear n) (l ∷ c) m k x y us vs h d e s t in (inl g.0, g.1)
bound_row depth free held n parts l c m k x y us vs h (inr d) (inr e) s t =
    let g = bound_rule depth free held 10 parts (some_row n) (some_row_clear n) (l ∷ c) m k x y us vs h d e s t in (inr g.0, g.1)
bound_row zero free held n parts l c m k x y us vs h (inl d) (inr e) s t = elim d.2 [ ]
bound_row (suc depth) free held n parts l c m k x y us vs h (inl d) (inr e) s t =
    let opens_here = e.2.1.0 in
    let i = inner_grow depth free n (expression_rule n) (c ++ m) d.0 d.1 (inner_expression depth free n l (c ++ m) d.0 d.1 opens_here d.2) in
    let second = subst (λ ts. says (suc depth) held (expression (n + 1)) ts e.3.0 e.3.1) e.2.1.1 e.3.2 in
    let q = argument_comma held (n + 1) (suc depth) e.3.1 e.3.3.0 e.3.3.1 e.3.3.2 in
    let g = row_beside (suc depth) free held n parts l c m k d.0 e.3.0 d.1 e.3.1 h opens_here (e.2.0 (still_held held l c k h)) i second q.0 q.1 q.2 q.3 in
    (inl (d.0, d.1, g.0, d.3), beyond (omega (arith, ap length d.3.1, g.1)))
bound_row zero free held n parts l c m k x y us vs h (inr d) (inl e) s t = elim e.2 [ ]
bound_row (suc depth) free held n parts l c m k x y us vs h (inr d) (inl e) s t =
    let opens_here = d.2.1.0 in
    let i = inner_grow depth held n (expression_rule n) (c ++ k) e.0 e.1 (inner_expression depth held n l (c ++ k) e.0 e.1 opens_here e.2) in
    let first = subst (λ ts. says (suc depth) free (expression (n + 1)) ts d.3.0 d.3.1) d.2.1.1 d.3.2 in
    let q = argument_comma free (n + 1) (suc depth) d.3.1 d.3.3.0 d.3.3.1 d.3.3.2 in
    let w = parts (expression (n + 1)) refl c m k d.3.0 i.a d.3.1 i.ms h first i.inside (comma_stops d.3.1 q.0 q.1 q.2 q.3) (stops_closed i.ms i.closed) in
    let past = comma_beyond m k d.3.0 i.a d.3.1 i.ms w.1 i.closed q.0 q.1 q.2 q.3 in
    let limit = i.limit (still_held_behind held c k h) in (
      inr (tt, c ++ m, (0, ((λ bound. limit), (opens_here, refl))), (d.3.0, d.3.1, w.0, loosened_rule (suc depth) free (length m) (row_rest n d.3.0) d.3.1 x us past d.3.3)),
      beyond (omega (arith, past, shrunk_rule (suc depth) free (row_rest n d.3.0) d.3.1 x us d.3.3)),
    )

-- an expression as a predictor
as_predictor : (free n : ℕ) (ts : List Lexeme) (b : RawExpression) (g : RawPredictor) (us : List Lexeme) → g ≡ By b → Says free (expression n) ts b us → Says free (predictor n) ts g us
as_predictor free n ts b g us is d = from_rule free (predictor n) ts g us (inr (b, us, d, (is, refl)))

-- An expression in parentheses here, and several predictors there.
guess_beside : (depth free held n : ℕ) → ((p : Part) → IsTrue (is_used p) → Bound (suc depth) free held p) → (l : Lexeme) (c m k : List Lexeme) (a : RawExpression) (us : List Lexeme) (y : List RawPredictor) (vs : List Lexeme)
    → held ≤ length k → l.kind ≡ kind.Sign sign.OpenParen → n < max_nesting → (i : Inner (suc depth) free n (expression_rule n) (c ++ m) a us)
    → reads (says (suc depth) held) (some_guess n) (l ∷ c ++ k) y vs → Says (length m) (expression n) (l ∷ c ++ m) a us × (length us ≤ length m)
guess_beside depth free held n parts l [] m k a us y vs h opens_here limit i e =
    let past = shrinks (suc depth) free (expression (n + 1)) m i.a i.ms i.inside in
    let w : Says (length m) (expression (n + 1)) m i.a i.ms = (suc depth, loosens (suc depth) free (length m) (expression (n + 1)) m i.a i.ms (omega arith) i.inside) in
    (from_rule (length m) (expression n) (l ∷ m) a us (i.again l (length m) opens_here (λ bound. limit) w past), omega (arith, past, i.less))
guess_beside depth free held n parts l (z ∷ c) m k a us y vs h opens_here limit i e =
    let second = subst (λ ts. reads (says depth held) (predictor_rule (n + 1)) ts e.3.0 e.3.1) e.2.1.1 e.3.2 in
    let f = by_expression depth held (n + 1) (z ∷ c ++ k) e.3.0 e.3.1 (λ is. no_host (suc depth) free (n + 1) (z ∷ c ++ m) i.a i.ms i.inside is) second in
    let q = predictor_comma held (n + 1) (suc depth) e.3.1 e.3.3.0 e.3.3.1 e.3.3.2 in
    row_beside (suc depth) free held n parts l (z ∷ c) m k a f.0 us e.3.1 h opens_here limit i (grow depth held (expression (n + 1)) (z ∷ c ++ k) f.0 e.3.1 f.1) q.0 q.1 q.2 q.3

-- the same the other way round
beside_guess : (depth free held n : ℕ) → ((p : Part) → IsTrue (is_used p) → Bound (suc depth) free held p) → (c m k : List Lexeme) (b : RawExpression) (vs : List Lexeme) (x : List RawPredictor) (us : List Lexeme)
    → held ≤ length k → (i : Inner (suc depth) held n (expression_rule n) (c ++ k) b vs) → (l : Lexeme) → (d : reads (says (suc depth) free) (some_guess n) (l ∷ c ++ m) x us)
    → Says (length m) (predictor (n + 1)) (c ++ m) d.3.0 d.3.1 × (length d.3.1 ≤ length m)
beside_guess depth free held n parts [] m k b vs x us h i l d =
    let first = subst (λ ts. says (suc depth) free (predictor (n + 1)) ts d.3.0 d.3.1) d.2.1.1 d.3.2 in
    ((suc depth, loosens (suc depth) free (length m) (predictor (n + 1)) m d.3.0 d.3.1 (omega arith) first), shrinks (suc depth) free (predictor (n + 1)) m d.3.0 d.3.1 first)
beside_guess depth free held n parts (z ∷ c) m k b vs x us h i l d =
    let first = subst (λ ts. reads (says depth free) (predictor_rule (n + 1)) ts d.3.0 d.3.1) d.2.1.1 d.3.2 in
    let f = by_expression depth free (n + 1) (z ∷ c ++ m) d.3.0 d.3.1 (λ is. no_host (suc depth) held (n + 1) (z ∷ c ++ k) i.a i.ms i.inside is) first in
    let q = predictor_comma free (n + 1) (suc depth) d.3.1 d.3.3.0 d.3.3.1 d.3.3.2 in
    let w = parts (expression (n + 1)) refl (z ∷ c) m k f.0 i.a d.3.1 i.ms h (grow depth free (expression (n + 1)) (z ∷ c ++ m) f.0 d.3.1 f.1) i.inside (comma_stops d.3.1 q.0 q.1 q.2 q.3) (stops_closed i.ms i.closed) in
    (as_predictor (length m) (n + 1) (z ∷ c ++ m) f.0 d.3.0 d.3.1 f.2 w.0, comma_beyond m k f.0 i.a d.3.1 i.ms w.1 i.closed q.0 q.1 q.2 q.3)

bound_guess : (depth free held n : ℕ) → ((p : Part) → IsTrue (is_used p) → Bound depth free held p) → (l : Lexeme) (c m k : List Lexeme) (x y : List RawPredictor) (us vs : List Lexeme)
    → held ≤ length k → reads (says depth free) (guess_rule n) (l ∷ c ++ m) x us → reads (says depth held) (guess_rule n) (l ∷ c ++ k) y vs → Stops 10 us → Stops 10 vs
    → Reading (length m) (guess_rule n) (l ∷ c ++ m) x us × Went m k x y us vs
bound_guess depth free held n parts l c m k x y us vs h (inl d) (inl e) s t =
    let g = bound_rule depth free held 10 parts (one_guess n) (one_guess_clear n) (l ∷ c) m k x y us vs h d e s t in (inl g.0, g.1)
bound_guess depth free held n parts l c m k x y us vs h (inr d) (inr e) s t =
    let g = bound_rule depth free held 10 parts (some_guess n) (some_guess_clear n) (l ∷ c) m k x y us vs h d e s t in (inr g.0, g.1)
bound_guess zero free held n parts l c m k x y us vs h (inl d) (inr e) s t = elim d.2 [ ]
bound_guess (suc zero) free held n parts l c m k x y us vs h (inl d) (inr e) s t = let g = bracketed_guess zero free n l (c ++ m) d.0 d.1 e.2.1.0 d.2 in elim g.2 [ ]
bound_guess (suc (suc depth)) free held n parts l c m k x y us vs h (inl d) (inr e) s t =
    let opens_here = e.2.1.0 in
    let g = bracketed_guess (suc depth) free n l (c ++ m) d.0 d.1 opens_here d.2 in
    let i = inner_expression depth free n l (c ++ m) g.0 g.1 opens_here g.2 in
    let j = inner_grow (suc depth) free n (expression_rule n) (c ++ m) g.0 g.1 (inner_grow depth free n (expression_rule n) (c ++ m) g.0 g.1 i) in
    let w = guess_beside (suc depth) free held n parts l c m k g.0 g.1 y vs h opens_here (e.2.0 (still_held held l c k h)) j e in (
      inl (d.0, d.1, subst (λ us. Says (length m) (predictor n) (l ∷ c ++ m) d.0 us) (sym g.4) (as_predictor (length m) n (l ∷ c ++ m) g.0 d.0 g.1 g.3 w.0), d.3),
      beyond (omega (arith, ap length d.3.1, ap length g.4, w.1)),
    )
bound_guess zero free held n parts l c m k x y us vs h (inr d) (inl e) s t = elim e.2 [ ]
bound_guess (suc zero) free held n parts l c m k x y us vs h (inr d) (inl e) s t = let g = bracketed_guess zero held n l (c ++ k) e.0 e.1 d.2.1.0 e.2 in elim g.2 [ ]
bound_guess (suc (suc depth)) free held n parts l c m k x y us vs h (inr d) (inl e) s t =
    let opens_here = d.2.1.0 in
    let g = bracketed_guess (suc depth) held n l (c ++ k) e.0 e.1 opens_here e.2 in
    let i = inner_expression depth held n l (c ++ k) g.0 g.1 opens_here g.2 in
    let j = inner_grow (suc depth) held n (expression_rule n) (c ++ k) g.0 g.1 (inner_grow depth held n (expression_rule n) (c ++ k) g.0 g.1 i) in
    let w = beside_guess (suc depth) free held n parts c m k g.0 g.1 x us h j l d in (
      inr (tt, c ++ m, (0, ((λ bound. i.limit (still_held_behind held c k h)), (opens_here, refl))), (d.3.0, d.3.1, w.0, loosened_rule (suc (suc depth)) free (length m) (guess_rest n d.3.0) d.3.1 x us w.1 d.3.3)),
      beyond (omega (arith, w.1, shrunk_rule (suc (suc depth)) free (guess_rest n d.3.0) d.3.1 x us d.3.3)),
    )

-- ---- headers

-- headers of two versions: only the word is shared
other_version : (depth free held : ℕ) (v w : ℕ) → ((t : Lexeme) → t.kind ≡ kind.Number (pos v) → t.kind ≡ kind.Number (pos w) → ⊥) → (c m k : List Lexeme) (x y : ℕ) (ks ls us vs : List Lexeme)
    → ks ≡ c ++ m → ls ≡ c ++ k → reads (says depth free) (version_rule v) ks x us → reads (says depth held) (version_rule w) ls y vs → Reading (length m) (version_rule v) ks x us × (length us ≤ length m)
other_version depth free held v w differ [] m k x y ks ls us vs is js d e =
    (loosened_rule depth free (length m) (version_rule v) ks x us (omega (arith, ap length is)) d, omega (arith, ap length is, shrunk_rule depth free (version_rule v) ks x us d))
other_version depth free held v w differ (l ∷ c) m k x y ks ls us vs is js d e =
    let one = subst (λ ts. says depth free (token (kind.Number (pos v))) ts d.0 d.1) is d.2 in
    let other = subst (λ ts. says depth held (token (kind.Number (pos w))) ts e.0 e.1) js e.2 in
    absurd (differ l one.0.0 other.0.0)

bound_header : (depth free held : ℕ) → ((p : Part) → IsTrue (is_used p) → Bound depth free held p) → (l : Lexeme) (c m k : List Lexeme) (x y : ℕ) (us vs : List Lexeme)
    → held ≤ length k → reads (says depth free) header_rule (l ∷ c ++ m) x us → reads (says depth held) header_rule (l ∷ c ++ k) y vs → Stops 11 us → Stops 11 vs
    → Reading (length m) header_rule (l ∷ c ++ m) x us × Went m k x y us vs
bound_header depth free held parts l c m k x y us vs h (inl d) (inl e) s t = (inl d, together (l ∷ c) d.1 e.1 (d.0 ∙ sym e.0))
bound_header depth free held parts l c m k x y us vs h (inl d) (inr e) s t = absurd (no_header l (c ++ m) us e.2.0.0 d.1 s)
bound_header depth free held parts l c m k x y us vs h (inr d) (inl e) s t = absurd (no_header l (c ++ k) vs d.2.0.0 e.1 t)
bound_header depth free held parts l c m k x y us vs h (inr (i, ks, d, inl f)) (inr (j, ls, e, inl g)) s t =
    let r = bound_rule depth free held 11 parts (written_version 1) (version_clear 1) (l ∷ c) m k x y us vs h (i, ks, d, f) (j, ls, e, g) s t in
    (inr (r.0.0, r.0.1, r.0.2, inl r.0.3), r.1)
bound_header depth free held parts l c m k x y us vs h (inr (i, ks, d, inr f)) (inr (j, ls, e, inr g)) s t =
    let r = bound_rule depth free held 11 parts (written_version 2) (version_clear 2) (l ∷ c) m k x y us vs h (i, ks, d, f) (j, ls, e, g) s t in
    (inr (r.0.0, r.0.1, r.0.2, inr r.0.3), r.1)
bound_header depth free held parts l c m k x y us vs h (inr (i, ks, d, inl f)) (inr (j, ls, e, inr g)) s t =
    let r = other_version depth free held 1 2 one_version c m k x y ks ls us vs d.1 e.1 f g in
    (inr (i, ks, (depth, d), inl r.0), beyond r.1)
bound_header depth free held parts l c m k x y us vs h (inr (i, ks, d, inr f)) (inr (j, ls, e, inl g)) s t =
    let r = other_version depth free held 2 1 (λ t p q. one_version t q p) c m k x y ks ls us vs d.1 e.1 f g in
    (inr (i, ks, (depth, d), inr r.0), beyond r.1)

-- ---- all parts

with_line : {A : Type 0} (m k : List Lexeme) (x y : ℕ × A) (us vs : List Lexeme) → x.0 ≡ y.0 → Went m k x.1 y.1 us vs → Went m k x y us vs
with_line m k x y us vs e (together c eu ev ex) = together c eu ev (λ j. (e j, ex j))
with_line m k x y us vs e (beyond past) = beyond past

-- what is read by a production is said
said : {m k : List Lexeme} (p : Part) (ts : List Lexeme) (x : Value p) (us : List Lexeme) {y : Value p} {vs : List Lexeme} → Reading (length m) (rule p) ts x us × Went m k x y us vs → Says (length m) p ts x us × Went m k x y us vs
said {m} p ts x us r = (from_rule (length m) p ts x us r.0, r.1)

with_its_line : (free : ℕ) (p : Part) (ts : List Lexeme) (x : ℕ × Value p) (us : List Lexeme) → x.0 ≡ line_of ts → Says free p ts x.1 us → Says free (lined p) ts x us
with_its_line free p ts x us e d = (suc d.0, (e, d.1))

bound : (depth free held : ℕ) (p : Part) → IsTrue (is_used p) → Bound depth free held p
bound depth free held p f [] m k x y us vs h d e s t = alone depth free p m k x y us vs d
bound depth free held (token w) f (l ∷ c) m k x y us vs h d e s t = ((depth, d), together c d.1 e.1 (d.0.1 ∙ sym e.0.1))
bound depth free held (opens n g) f (l ∷ c) m k x y us vs h d e s t = ((depth, ((λ b. e.0 (still_held held l c k h)), d.1)), together c d.1.1 e.1.1 (λ j. tt))
bound depth free held (operator rank used) f (l ∷ c) m k x y us vs h d e s t =
    ((depth, ((λ b. e.0 (still_held held l c k h)), d.1)), together c d.1.1 e.1.1 (sign_is l.kind x y d.1.0.0 e.1.0.0))
bound depth free held name f (l ∷ c) m k x y us vs h d e s t = ((depth, d), together c d.1 e.1 (d.0.1 ∙ sym e.0.1))
bound depth free held number f (l ∷ c) m k x y us vs h d e s t = ((depth, d), together c d.1 e.1 (number_is l.kind x y d.0 e.0))
bound depth free held count f (l ∷ c) m k x y us vs h d e s t = ((depth, d), together c d.1 e.1 (count_is l.kind x y d.0 e.0))
bound zero free held p f (l ∷ c) m k x y us vs h d e s t = elim d [ ]
bound (suc depth) free held (many (next_argument n)) f (l ∷ c) m k x y us vs h d e s t = said (many (next_argument n)) (l ∷ c ++ m) x us (bound_list depth free held (next_argument n) (bound depth free held (next_argument n) refl) (bound depth free held (many (next_argument n)) refl) (argument_comma free n) (argument_comma held n) (λ us k. k) (λ us k. k) (l ∷ c) m k x y us vs h d e s t)
bound (suc depth) free held (many next_parameter) f (l ∷ c) m k x y us vs h d e s t = said (many next_parameter) (l ∷ c ++ m) x us (bound_list depth free held next_parameter (bound depth free held next_parameter refl) (bound depth free held (many next_parameter) refl) (parameter_comma free) (parameter_comma held) (λ us k. stops_all us) (λ us k. k) (l ∷ c) m k x y us vs h d e s t)
bound (suc depth) free held (many (lined (form breaks n))) f (l ∷ c) m k x y us vs h d e s t = said (many (lined (form breaks n))) (l ∷ c ++ m) x us (bound_rule depth free held 12 (bound depth free held) (many_rule (statement breaks n)) (statements_clear breaks n) (l ∷ c) m k x y us vs h d e s t)
bound (suc depth) free held (many array) f (l ∷ c) m k x y us vs h d e s t = said (many array) (l ∷ c ++ m) x us (bound_rule depth free held 12 (bound depth free held) (many_rule array) arrays_clear (l ∷ c) m k x y us vs h d e s t)
bound (suc depth) free held (many (function breaks)) f (l ∷ c) m k x y us vs h d e s t = said (many (function breaks)) (l ∷ c ++ m) x us (bound_rule depth free held 13 (bound depth free held) (many_rule (function breaks)) (functions_clear breaks) (l ∷ c) m k x y us vs h d e s t)
bound (suc depth) free held (lined (form breaks n)) f (l ∷ c) m k x y us vs h d e s t =
    let g = bound depth free held (form breaks n) refl (l ∷ c) m k x.1 y.1 us vs h d.1 e.1 s t in
    (with_its_line (length m) (form breaks n) (l ∷ c ++ m) x us d.0 g.0, with_line m k x y us vs (d.0 ∙ sym e.0) g.1)
bound (suc depth) free held (expression n) f (l ∷ c) m k x y us vs h d e s t = said (expression n) (l ∷ c ++ m) x us (bound_rule depth free held 10 (bound depth free held) (expression_rule n) (expression_clear n) (l ∷ c) m k x y us vs h d e s t)
bound (suc depth) free held (level n rank used) f (l ∷ c) m k x y us vs h d e s t = said (level n rank used) (l ∷ c ++ m) x us (bound_rule depth free held (suc rank) (bound depth free held) (level_rule n rank used) (level_clear n rank used) (l ∷ c) m k x y us vs h d e s t)
bound (suc depth) free held (further n rank a used) f (l ∷ c) m k x y us vs h d e s t = said (further n rank a used) (l ∷ c ++ m) x us (bound_rule depth free held (suc (suc rank)) (bound depth free held) (further_rule n rank a used) (further_clear n rank a used) (l ∷ c) m k x y us vs h d e s t)
bound (suc depth) free held (compared n rank a used) f (l ∷ c) m k x y us vs h d e s t = said (compared n rank a used) (l ∷ c ++ m) x us (bound_rule depth free held (suc (suc rank)) (bound depth free held) (compared_rule n rank a used) (compared_clear n rank a used) (l ∷ c) m k x y us vs h d e s t)
bound (suc depth) free held (operand n) f (l ∷ c) m k x y us vs h d e s t = said (operand n) (l ∷ c ++ m) x us (bound_rule depth free held 1 (bound depth free held) (operand_rule n) (operand_clear n) (l ∷ c) m k x y us vs h d e s t)
bound (suc depth) free held (arguments n) f (l ∷ c) m k x y us vs h d e s t = said (arguments n) (l ∷ c ++ m) x us (bound_rule depth free held 0 (bound depth free held) (arguments_rule n) (arguments_clear n) (l ∷ c) m k x y us vs h d e s t)
bound (suc depth) free held (next_argument n) f (l ∷ c) m k x y us vs h d e s t = said (next_argument n) (l ∷ c ++ m) x us (bound_rule depth free held 10 (bound depth free held) (next_argument_rule n) (next_argument_clear n) (l ∷ c) m k x y us vs h d e s t)
bound (suc depth) free held (form breaks n) f (l ∷ c) m k x y us vs h d e s t = said (form breaks n) (l ∷ c ++ m) x us (bound_rule depth free held 11 (bound depth free held) (form_rule breaks n) (form_clear breaks n) (l ∷ c) m k x y us vs h d e s t)
bound (suc depth) free held (block breaks n) f (l ∷ c) m k x y us vs h d e s t = said (block breaks n) (l ∷ c ++ m) x us (bound_rule depth free held 0 (bound depth free held) (block_rule breaks n) (block_clear breaks n) (l ∷ c) m k x y us vs h d e s t)
bound (suc depth) free held (otherwise breaks n) f (l ∷ c) m k x y us vs h d e s t = said (otherwise breaks n) (l ∷ c ++ m) x us (bound_rule depth free held 11 (bound depth free held) (otherwise_rule breaks n) (otherwise_clear breaks n) (l ∷ c) m k x y us vs h d e s t)
bound (suc depth) free held (few most (next_argument n)) f (l ∷ c) m k x y us vs h d e s t = said (few most (next_argument n)) (l ∷ c ++ m) x us (bound_few depth free held most (next_argument n) (bound depth free held (next_argument n) refl) (λ i. bound depth free held (few i (next_argument n)) refl) (argument_comma free n) (argument_comma held n) (λ us k. k) (l ∷ c) m k x y us vs h d e s t)
bound (suc depth) free held (few most (next_predictor n)) f (l ∷ c) m k x y us vs h d e s t = said (few most (next_predictor n)) (l ∷ c ++ m) x us (bound_few depth free held most (next_predictor n) (bound depth free held (next_predictor n) refl) (λ i. bound depth free held (few i (next_predictor n)) refl) (predictor_comma free n) (predictor_comma held n) (λ us k. k) (l ∷ c) m k x y us vs h d e s t)
bound (suc depth) free held (few most next_parameter) f (l ∷ c) m k x y us vs h d e s t = said (few most next_parameter) (l ∷ c ++ m) x us (bound_few depth free held most next_parameter (bound depth free held next_parameter refl) (λ i. bound depth free held (few i next_parameter) refl) (parameter_comma free) (parameter_comma held) (λ us k. stops_all us) (l ∷ c) m k x y us vs h d e s t)
bound (suc depth) free held (names n) f (l ∷ c) m k x y us vs h d e s t = said (names n) (l ∷ c ++ m) x us (bound_rule depth free held 0 (bound depth free held) (names_rule n) (names_clear n) (l ∷ c) m k x y us vs h d e s t)
bound (suc depth) free held (row n) f (l ∷ c) m k x y us vs h d e s t = said (row n) (l ∷ c ++ m) x us (bound_row depth free held n (bound depth free held) l c m k x y us vs h d e s t)
bound (suc depth) free held (guess n) f (l ∷ c) m k x y us vs h d e s t = said (guess n) (l ∷ c ++ m) x us (bound_guess depth free held n (bound depth free held) l c m k x y us vs h d e s t)
bound (suc depth) free held (predictor n) f (l ∷ c) m k x y us vs h d e s t = said (predictor n) (l ∷ c ++ m) x us (bound_rule depth free held 10 (bound depth free held) (predictor_rule n) (predictor_clear n) (l ∷ c) m k x y us vs h d e s t)
bound (suc depth) free held (next_predictor n) f (l ∷ c) m k x y us vs h d e s t = said (next_predictor n) (l ∷ c ++ m) x us (bound_rule depth free held 10 (bound depth free held) (next_predictor_rule n) (next_predictor_clear n) (l ∷ c) m k x y us vs h d e s t)
bound (suc depth) free held header f (l ∷ c) m k x y us vs h d e s t = said header (l ∷ c ++ m) x us (bound_header depth free held (bound depth free held) l c m k x y us vs h d e s t)
bound (suc depth) free held size f (l ∷ c) m k x y us vs h d e s t = said size (l ∷ c ++ m) x us (bound_rule depth free held 3 (bound depth free held) size_rule size_clear (l ∷ c) m k x y us vs h d e s t)
bound (suc depth) free held array f (l ∷ c) m k x y us vs h d e s t = said array (l ∷ c ++ m) x us (bound_rule depth free held 0 (bound depth free held) array_rule array_clear (l ∷ c) m k x y us vs h d e s t)
bound (suc depth) free held parameters f (l ∷ c) m k x y us vs h d e s t = said parameters (l ∷ c ++ m) x us (bound_rule depth free held 0 (bound depth free held) parameters_rule parameters_clear (l ∷ c) m k x y us vs h d e s t)
bound (suc depth) free held next_parameter f (l ∷ c) m k x y us vs h d e s t = said next_parameter (l ∷ c ++ m) x us (bound_rule depth free held 0 (bound depth free held) next_parameter_rule next_parameter_clear (l ∷ c) m k x y us vs h d e s t)
bound (suc depth) free held (function breaks) f (l ∷ c) m k x y us vs h d e s t = said (function breaks) (l ∷ c ++ m) x us (bound_rule depth free held 0 (bound depth free held) (function_rule breaks) (function_clear breaks) (l ∷ c) m k x y us vs h d e s t)
bound (suc depth) free held program f (l ∷ c) m k x y us vs h d e s t = said program (l ∷ c ++ m) x us (bound_rule depth free held 0 (bound depth free held) program_rule program_clear (l ∷ c) m k x y us vs h d e s t)
bound (suc depth) free held p f (l ∷ c) m k x y us vs h d e s t = let g : false ≡ true = f in absurd cc

-- ---- whole programs

-- the tokens that a program's front shares with others keep the limits in each program that begins with them
bound_front : (c m : List Lexeme) (free : ℕ) (p : RawProgram) → IsFront 0 c → Reads free (c ++ m) p → Reads (length m) (c ++ m) p
bound_front c m free p front d =
    let k = front.0 in
    let q = front.1 in
    let held = 0 + length k in
    let e = front.2 in
    (bound (d.0 + e.0) free held program refl c m k p q [] [] (omega arith)
    (raise d.0 (d.0 + e.0) free (omega arith) program (c ++ m) p [] d.1)
    (raise e.0 (d.0 + e.0) held (omega arith) program (c ++ k) q [] e.1) tt tt).0

-- some program begins with nothing
empty_front : IsFront 0 []
empty_front =
    let c = completes_part program refl in
    (c.more ++ [], sample program, c.viable (0 + length (c.more ++ [])) [] (omega arith))

module _ (ts : List Lexeme) (end : ℕ) (unread : (p : RawProgram) → Reads 0 ts p → ⊥) (expected : (at : ℕ) → IsUnexpected ts end at → ⊥) (flat : (at : ℕ) → IsTooDeep ts at → ⊥) where
  goes_on : (read rest : List Lexeme) → IsFront 0 read → ts ≡ read ++ rest → ⊥
  goes_on read [] front split =
      expected end (record { read = read; rest = []; split = split; at_is = refl; front = front; stuck = λ free p r. unread p (whole free p r) })
    where
      whole : (free : ℕ) (p : RawProgram) → Reads free read p → Reads 0 ts p
      whole free p r =
          subst (λ l. Reads 0 l p) (sym split) (bound_front read [] free p front (subst (λ l. Reads free l p) (sym (append-nil read)) r))
  goes_on read (t ∷ rest) front split =
      expected t.from (record {
        read = read;
        rest = t ∷ rest;
        split = split;
        at_is = refl;
        front = front;
        stuck = λ free f. flat t.from (record {
          read = read;
          next = t;
          rest = rest;
          split = split;
          at_is = refl;
          allowed = allowed free f;
          forbidden = λ more. goes_on (read ++ t ∷ []) rest more (split ∙ sym (append_assoc read (t ∷ []) rest));
        });
      })
    where
      allowed : (free : ℕ) → IsFront free (read ++ t ∷ []) → IsFront 1 (read ++ t ∷ [])
      allowed free f =
          let one = append_assoc read (t ∷ []) f.0 in
          let size : length (t ∷ f.0) ≡ 1 + length f.0 = omega arith in (
            f.0,
            f.1,
            subst (λ n. Reads n ((read ++ t ∷ []) ++ f.0) f.1) size
                (subst (λ l. Reads (length (t ∷ f.0)) l f.1) (sym one)
                (bound_front read (t ∷ f.0) (free + length f.0) f.1 front (subst (λ l. Reads (free + length f.0) l f.1) one f.2))),
          )

-- no tokens are left that neither are those of a program nor go wrong
pub none_left : (ts : List Lexeme) (end : ℕ) → ((p : RawProgram) → Reads 0 ts p → ⊥) → ((at : ℕ) → IsUnexpected ts end at → ⊥) → ((at : ℕ) → IsTooDeep ts at → ⊥) → ⊥
none_left ts end unread expected flat = goes_on ts end unread expected flat [] ts empty_front refl

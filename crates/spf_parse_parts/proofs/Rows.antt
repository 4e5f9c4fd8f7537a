-- What is left of rows.
use Rattle.std.proofs.Common.{◌≡◌, ℕ, zero, suc, ◌+◌, ◌≤◌, ◌<◌, Bool, true, false, List, [], ◌∷◌, ◌++◌, length, refl, sym, ◌∙◌, ap, subst, append_assoc, arith, inl, inr, Option, Some, None, Result, nat_eq}
use Rattle.std.proofs.lemmas.List.{append-nil}
use Rattle.std.specs.Prelude.{IsTrue, if◌then◌else◌}
use Rattle.std.proofs.lemmas.Bool.Decides.{nat_tests}
use Rattle.spf_text.specs.declared.token.Sign.TheVariants as sign
use Rattle.spf_text.specs.declared.token.TokenKind.{TokenKind}
use Rattle.spf_text.specs.declared.token.TokenKind.TheVariants as kind
use Rattle.spf_text.specs.declared.token.Keyword.TheVariants as word
use Rattle.spf_ast.specs.RawSyntax.{RawExpression, RawPredictor, By, Host}
use Rattle.spf_parse_grammar.specs.Lexemes.{Lexeme}
use Rattle.spf_parse_grammar.specs.Parts.{Part, token, opens, name, count, few, expression, level, further, compared, operand, next_argument, next_parameter, names, row, guess, predictor, next_predictor, Value, Rule, give, part, either}
use Rattle.spf_parse_grammar.specs.Rules.{all, rule, operand_rule}
use Rattle.spf_parse_grammar.specs.Derivations.{Says, Reading}
use Rattle.spf_parse_parts.specs.Answers.{ahead, Stops, Leads, Faults, IsRead, Refuses, Answered, after_operand, from_bracket, closed, row_after, row_from, guess_after, guess_from_bracket, guess_from}
use Rattle.spf_parse_grammar.proofs.Derivations.{bind, to_bind, from_bind, from_rule, to_rule}
use Rattle.spf_parse_parts.proofs.Follows.{Follows}
use Rattle.spf_parse_parts.proofs.Completions.{whole}
use Rattle.spf_parse_parts.specs.declared.fault.Fault.{Fault}
use Rattle.spf_parse_parts.specs.declared.fault.Fault.TheVariants as fault
use Rattle.spf_parse_parts.proofs.Steps.{start, follow, fails, unfold_part, not_first, not_second, cannot, decide, go, go0, go_rule, halt, halt0, halt_rule, through, ten_fourteen, ten_ten}
use Rattle.spf_parse_parts.proofs.Expressions.{token_first, opens_first, then_bind}

-- ---- rules that say the same

pub record Alike {A : Type 0} (F G : Rule A) : Type 0 where
  pub to : (free : ℕ) (k : List Lexeme) (b : A) (vs : List Lexeme) → Reading free F k b vs → Reading free G k b vs
  pub from : (free : ℕ) (k : List Lexeme) (b : A) (vs : List Lexeme) → Reading free G k b vs → Reading free F k b vs

pub leads_alike : {A : Type 0} {n : ℕ} {F G H : Rule A} {ts us : List Lexeme} → Alike G H → Leads n F ts G us → Leads n F ts H us
leads_alike a l = follow l (record { read = []; split = refl; into = λ free k b vs g. a.from free k b vs g; only = λ free k b vs same d s. a.to free k b vs d })

pub alike_refl : {A : Type 0} (F : Rule A) → Alike F F
alike_refl F = record { to = λ free k b vs d. d; from = λ free k b vs d. d }

pub alike_trans : {A : Type 0} {F G H : Rule A} → Alike F G → Alike G H → Alike F H
alike_trans p q = record { to = λ free k b vs d. q.to free k b vs (p.to free k b vs d); from = λ free k b vs d. p.from free k b vs (q.from free k b vs d) }

pub alike_part : {A : Type 0} (p : Part) {K L : Value p → Rule A} → ((x : Value p) → Alike (K x) (L x)) → Alike (part p K) (part p L)
alike_part p h = record {
  to = λ free k b vs d. (d.0, d.1, d.2, (h d.0).to free d.1 b vs d.3);
  from = λ free k b vs d. (d.0, d.1, d.2, (h d.0).from free d.1 b vs d.3);
}

pub alike_either : {A : Type 0} {F F' G G' : Rule A} → Alike F F' → Alike G G' → Alike (either F G) (either F' G')
alike_either p q = record {
  to = λ free k b vs d. elim d [ inl x ↦ inl (p.to free k b vs x) | inr y ↦ inr (q.to free k b vs y) ];
  from = λ free k b vs d. elim d [ inl x ↦ inl (p.from free k b vs x) | inr y ↦ inr (q.from free k b vs y) ];
}

-- a part by its production
pub alike_rule : {A : Type 0} (p : Part) (K : Value p → Rule A) → Alike (part p K) (bind (rule p) K)
alike_rule p K = record {
  to = λ free k b vs d. to_bind (Says free) (rule p) K k d.0 d.1 b vs (to_rule free p k d.0 d.1 d.2) d.3;
  from = λ free k b vs d. let e = from_bind (Says free) (rule p) K k b vs d in (e.0, e.1, from_rule free p k e.0 e.1 e.2, e.3);
}

-- two alternatives that begin with the same part
pub alike_shared : {A : Type 0} (p : Part) (K L : Value p → Rule A) → Alike (either (part p K) (part p L)) (part p (λ x. either (K x) (L x)))
alike_shared p K L = record {
  to = λ free k b vs d. elim d [ inl x ↦ (x.0, x.1, x.2, inl x.3) | inr y ↦ (y.0, y.1, y.2, inr y.3) ];
  from = λ free k b vs d. shared_back p K L free k b vs d.0 d.1 d.2 d.3;
}
  where
    shared_back : {A : Type 0} (p : Part) (K L : Value p → Rule A) (free : ℕ) (k : List Lexeme) (b : A) (vs : List Lexeme) (x : Value p) (us : List Lexeme) → Says free p k x us → Reading free (either (K x) (L x)) us b vs → Reading free (either (part p K) (part p L)) k b vs
    shared_back p K L free k b vs x us d (inl e) = inl (x, us, d, e)
    shared_back p K L free k b vs x us d (inr e) = inr (x, us, d, e)

-- alternatives, and one more after them
abbrev pub and_either : {A : Type 0} → Rule A → Rule A → Rule A
and_either (either r s) t = either r (and_either s t)
and_either (give a) t = either (give a) t
and_either (part p r) t = either (part p r) t

pub alike_last : {A : Type 0} (r t : Rule A) → Alike (either r t) (and_either r t)
alike_last (give a) t = alike_refl (either (give a) t)
alike_last (part p r) t = alike_refl (either (part p r) t)
alike_last {A} (either r s) t = let h = alike_last s t in record {
  to = λ free k b vs d. elim d [ inl x ↦ elim x [ inl y ↦ inl y | inr z ↦ inr (h.to free k b vs (inl z)) ] | inr y ↦ inr (h.to free k b vs (inr y)) ];
  from = λ free k b vs d. elim d [ inl x ↦ inl (inl x) | inr y ↦ moved r s t free k b vs (h.from free k b vs y) ];
}
  where
    moved : (r s t : Rule A) (free : ℕ) (k : List Lexeme) (b : A) (vs : List Lexeme) → Reading free (either s t) k b vs → Reading free (either (either r s) t) k b vs
    moved r s t free k b vs (inl x) = inl (inr x)
    moved r s t free k b vs (inr y) = inr y

-- an expression of a rank is an operand, and what follows it
pub alike_level : {A : Type 0} (n rank used : ℕ) (K : RawExpression × ℕ → Rule A) → Alike (part (level n rank used) K) (part (operand n) (λ a. after_operand n rank a used K))
alike_level n zero used K = alike_rule (level n zero used) K
alike_level {A} n (suc rank) used K = alike_trans (alike_rule (level n (suc rank) used) K) (by_rank (nat_eq rank 6) (λ L. alike_level n rank used L))
  where
    by_rank : (b : Bool) → ((L : RawExpression × ℕ → Rule A) → Alike (part (level n rank used) L) (part (operand n) (λ a. after_operand n rank a used L))) →
        Alike (bind (if b then part (level n rank used) (λ x. all (compared n rank x.0 x.1)) else part (level n rank used) (λ x. all (further n rank x.0 x.1))) K)
        (part (operand n) (λ a. after_operand n rank a used (λ x. if b then part (compared n rank x.0 x.1) K else part (further n rank x.0 x.1) K)))
    by_rank true h = h (λ x. part (compared n rank x.0 x.1) K)
    by_rank false h = h (λ x. part (further n rank x.0 x.1) K)

-- what follows an operand stops it, and can be completed
pub follows_operand : {A : Type 0} (m n rank : ℕ) (a : RawExpression) (used : ℕ) (K : RawExpression × ℕ → Rule A) → ((x : RawExpression × ℕ) → Follows 1 m (K x)) → Follows 1 m (after_operand n rank a used K)
follows_operand m n zero a used K h = h (a, used)
follows_operand {A} m n (suc rank) a used K h = by_rank (nat_eq rank 6) (λ L f. follows_operand m n rank a used L f)
  where
    by_rank : (b : Bool) → ((L : RawExpression × ℕ → Rule A) → ((x : RawExpression × ℕ) → Follows 1 m (L x)) → Follows 1 m (after_operand n rank a used L)) →
        Follows 1 m (after_operand n rank a used (λ x. if b then part (compared n rank x.0 x.1) K else part (further n rank x.0 x.1) K))
    by_rank true f = f (λ x. part (compared n rank x.0 x.1) K) (λ x. (omega arith, h))
    by_rank false f = f (λ x. part (further n rank x.0 x.1) K) (λ x. (omega arith, h))

pub whole_operand : {A : Type 0} (n rank : ℕ) (a : RawExpression) (used : ℕ) (K : RawExpression × ℕ → Rule A) → ((x : RawExpression × ℕ) → IsTrue (whole (K x))) → IsTrue (whole (after_operand n rank a used K))
whole_operand n zero a used K h = h (a, used)
whole_operand {A} n (suc rank) a used K h = by_rank (nat_eq rank 6) (λ L f. whole_operand n rank a used L f)
  where
    by_rank : (b : Bool) → ((L : RawExpression × ℕ → Rule A) → ((x : RawExpression × ℕ) → IsTrue (whole (L x))) → IsTrue (whole (after_operand n rank a used L))) →
        IsTrue (whole (after_operand n rank a used (λ x. if b then part (compared n rank x.0 x.1) K else part (further n rank x.0 x.1) K)))
    by_rank true f = f (λ x. part (compared n rank x.0 x.1) K) (λ x. h (x.0, x.1))
    by_rank false f = f (λ x. part (further n rank x.0 x.1) K) (λ x. h (x.0, x.1))

-- an operand, and what follows it
pub level_start : {ts : List Lexeme} (n rank used : ℕ) → Leads (suc rank) (all (level n rank used)) ts (part (operand n) (λ a. after_operand n rank a used (λ x. give x))) ts
level_start n rank used = leads_alike (alike_level n rank used (λ x. give x)) start

-- what comes after an operand up to the next tighter rank, and the operators of this one
abbrev pub of_rank : ℕ → ℕ → Bool → RawExpression × ℕ → Rule (RawExpression × ℕ)
of_rank n rank b x = if b then all (compared n rank x.0 x.1) else all (further n rank x.0 x.1)

pub continued_start : {m : ℕ} {ts : List Lexeme} (n rank r : ℕ) (a : RawExpression) (used : ℕ) → rank ≡ suc r →
    Leads m (after_operand n rank a used (λ x. give x)) ts (bind (after_operand n r a used (λ x. give x)) (of_rank n r (nat_eq r 6))) ts
continued_start {m} {ts} n rank r a used is =
    subst (λ k. Leads m (after_operand n k a used (λ x. give x)) ts (bind (after_operand n r a used (λ x. give x)) (of_rank n r (nat_eq r 6))) ts) (sym is)
    (subst (λ g. Leads m (after_operand n (suc r) a used (λ x. give x)) ts g ts) (sym (then_bind n r a used (λ x. give x) (of_rank n r (nat_eq r 6)))) start)

pub rank_follows : (n r : ℕ) (b : Bool) (x : RawExpression × ℕ) → Follows (suc r) (suc (suc r)) (of_rank n r b x)
rank_follows n r true x = (omega arith, λ y. omega arith)
rank_follows n r false x = (omega arith, λ y. omega arith)

pub rank_whole : (n r : ℕ) (b : Bool) (x : RawExpression × ℕ) → IsTrue (whole (of_rank n r b x))
rank_whole n r true x = refl
rank_whole n r false x = refl

pub not_six : (r : ℕ) → (r ≡ 6 → ⊥) → nat_eq r 6 ≡ false
not_six r never = grind (arith, nat_tests, never)

pub continued_halts : (ts : List Lexeme) (n rank r : ℕ) (a : RawExpression) (used : ℕ) (why : Fault) → rank ≡ suc r →
    Refuses (suc r) (after_operand n r a used (λ x. give x)) ts why → Refuses (suc rank) (after_operand n rank a used (λ x. give x)) ts why
continued_halts ts n rank r a used why is f =
    halt_rule (suc r) (after_operand n r a used (λ x. give x)) (of_rank n r (nat_eq r 6)) why
    (λ x. subst (λ k. Follows (suc r) (suc k) (of_rank n r (nat_eq r 6) x)) (sym is) (rank_follows n r (nat_eq r 6) x))
    (rank_whole n r (nat_eq r 6)) (continued_start n rank r a used is) f

pub continued_further : {ts us : List Lexeme} {x : RawExpression × ℕ} (n rank r : ℕ) (a : RawExpression) (used : ℕ) → rank ≡ suc r → (r ≡ 6 → ⊥) →
    Leads (suc r) (after_operand n r a used (λ x. give x)) ts (give x) us → Leads (suc rank) (after_operand n rank a used (λ x. give x)) ts (all (further n r x.0 x.1)) us
continued_further {ts} {us} {x} n rank r a used is never f =
    subst (λ b. Leads (suc rank) (after_operand n rank a used (λ x. give x)) ts (of_rank n r b x) us) (not_six r never)
    (go_rule {R = after_operand n r a used (λ x. give x)} (of_rank n r (nat_eq r 6))
    (λ x. subst (λ k. Follows (suc r) (suc k) (of_rank n r (nat_eq r 6) x)) (sym is) (rank_follows n r (nat_eq r 6) x))
    (continued_start n rank r a used is) f)

-- what is answered for what is left, where the levels are equal
pub continued_through : {X A : Type 0} {F G : Rule A} {ts us : List Lexeme} (value : X → A) (rest : X → List Lexeme) (result : Result X Fault) (rank r : ℕ) → rank ≡ suc r →
    Leads (suc rank) F ts G us → Answered (suc (suc r)) G us value rest result → Answered (suc rank) F ts value rest result
continued_through {X} {A} {F} {G} {ts} {us} value rest result rank r is l f =
    through value rest result l (subst (λ k. Answered (suc k) G us value rest result) (sym is) f)

-- ---- few

-- no further one
pub few_done : {B : Type 0} {n : ℕ} {F : Rule B} {ts us : List Lexeme} {p : Part} {K : List (Value p) → Rule B} (most : ℕ) →
    ((free : ℕ) (k : List Lexeme) (x : Value p) (ws : List Lexeme) → ahead k ≡ ahead us → Says free p k x ws → ⊥) → Leads n F ts (part (few most p) K) us → Leads n F ts (K []) us
few_done {p = p} {K} zero never l = unfold_part (few zero p) K l
few_done {p = p} {K} (suc most) never l = not_second {R = K []} {S = part p (λ x. part (few most p) (λ xs. K (x ∷ xs)))} (λ free k b vs same d s. never free k d.0 d.1 same d.2) (unfold_part (few (suc most) p) K l)

-- no room for a further one
pub few_full : {B : Type 0} {n : ℕ} {F : Rule B} {ts us : List Lexeme} {p : Part} {K : List (Value p) → Rule B} (most : ℕ) → most ≡ 0 → Leads n F ts (part (few most p) K) us → Leads n F ts (K []) us
few_full {n = n} {F} {ts} {us} {p} {K} most none l = unfold_part (few 0 p) K (subst (λ m. Leads n F ts (part (few m p) K) us) none l)

-- one more, which the rest can't begin with
pub few_next : {B : Type 0} {n : ℕ} {F : Rule B} {ts us : List Lexeme} {p : Part} {K : List (Value p) → Rule B} (most less : ℕ) → most ≡ suc less →
    ((free : ℕ) (k : List Lexeme) (b : B) (vs : List Lexeme) → ahead k ≡ ahead us → Reading free (K []) k b vs → Stops n vs → ⊥) → Leads n F ts (part (few most p) K) us → Leads n F ts (part p (λ x. part (few less p) (λ xs. K (x ∷ xs)))) us
few_next {n = n} {F} {ts} {us} {p} {K} most less some never l = not_first {R = K []} {S = part p (λ x. part (few less p) (λ xs. K (x ∷ xs)))} never (unfold_part (few (suc less) p) K (subst (λ m. Leads n F ts (part (few m p) K) us) some l))

pub few_regroup : {B : Type 0} {n : ℕ} {F : Rule B} {ts us : List Lexeme} (most : ℕ) (p : Part) (K : List (Value p) → Rule B) (before : List (Value p)) (x : Value p) →
    Leads n F ts (part (few most p) (λ xs. K (before ++ x ∷ xs))) us → Leads n F ts (part (few most p) (λ xs. K ((before ++ x ∷ []) ++ xs))) us
few_regroup {n = n} {F} {ts} {us} most p K before x l =
    let e : (λ (xs : List (Value p)). K ((before ++ x ∷ []) ++ xs)) ≡ (λ xs. K (before ++ x ∷ xs)) = λ i xs. K (append_assoc before (x ∷ []) xs i) in
    subst (λ f. Leads n F ts (part (few most p) f) us) (sym e) l

comma_closes : Some (kind.Sign sign.Comma) ≡ Some (kind.Sign sign.CloseParen) → ⊥
comma_closes h = let f : sign.Comma ≡ sign.CloseParen = cc in cc

-- a comma doesn't close
pub comma_stays : {A : Type 0} (before more : List A) (us : List Lexeme) → ahead us ≡ Some (kind.Sign sign.Comma) →
    (free : ℕ) (k : List Lexeme) (b : List A) (vs : List Lexeme) → ahead k ≡ ahead us → Reading free (closed before more) k b vs → ⊥
comma_stays before more us is free k b vs same d = token_first (kind.Sign sign.CloseParen) us (λ h. comma_closes (sym is ∙ h)) (λ l. give (before ++ more)) free k b vs same d

pub not_closing : (us : List Lexeme) → ahead us ≡ Some (kind.Sign sign.Comma) → ahead us ≡ Some (kind.Sign sign.CloseParen) → ⊥
not_closing us is h = comma_closes (sym is ∙ h)

pub closed_done : {A : Type 0} {n : ℕ} {F : Rule (List A)} {ts us vs : List Lexeme} (before : List A) (l : ℕ) → Leads n F ts (closed before []) us → IsRead (token (kind.Sign sign.CloseParen)) us l vs → Leads n F ts (give before) vs
closed_done {n = n} {F} {ts} {us} {vs} before l p q = subst (λ b. Leads n F ts (give b) vs) (append-nil before) (go0 refl p q)

-- no comma, and so no further one
pub argument_never : (e : ℕ) (us : List Lexeme) → (ahead us ≡ Some (kind.Sign sign.Comma) → ⊥) → (free : ℕ) (k : List Lexeme) (x : RawExpression) (ws : List Lexeme) → ahead k ≡ ahead us → Says free (next_argument e) k x ws → ⊥
argument_never e us never free k x ws same (zero, d) = elim d [ ]
argument_never e us never free [] x ws same (suc depth, d) = elim d.2 [ ]
argument_never e us never free (t ∷ k) x ws same (suc depth, d) = never (sym same ∙ ap Some d.2.0.0)

pub parameter_never : (us : List Lexeme) → (ahead us ≡ Some (kind.Sign sign.Comma) → ⊥) → (free : ℕ) (k : List Lexeme) (x : List ℕ) (ws : List Lexeme) → ahead k ≡ ahead us → Says free next_parameter k x ws → ⊥
parameter_never us never free k x ws same (zero, d) = elim d [ ]
parameter_never us never free [] x ws same (suc depth, d) = elim d.2 [ ]
parameter_never us never free (t ∷ k) x ws same (suc depth, d) = never (sym same ∙ ap Some d.2.0.0)

pub predictor_never : (e : ℕ) (us : List Lexeme) → (ahead us ≡ Some (kind.Sign sign.Comma) → ⊥) → (free : ℕ) (k : List Lexeme) (x : RawPredictor) (ws : List Lexeme) → ahead k ≡ ahead us → Says free (next_predictor e) k x ws → ⊥
predictor_never e us never free k x ws same (zero, d) = elim d [ ]
predictor_never e us never free [] x ws same (suc depth, d) = elim d.2 [ ]
predictor_never e us never free (t ∷ k) x ws same (suc depth, d) = never (sym same ∙ ap Some d.2.0.0)

-- ---- names

abbrev pub more_names : List ℕ → Rule (List (List ℕ))
more_names x = part next_parameter (λ y. part (few 2 next_parameter) (closed (x ∷ y ∷ [])))

pub one_name : {ts : List Lexeme} (n : ℕ) → ahead ts ≡ Some kind.Name → Leads 0 (all (names n)) ts (part name (λ x. give (x ∷ []))) ts
one_name n is = decide (Some kind.Name) is _ (unfold_part (names n) (λ x. give x) start)

pub some_names : {ts : List Lexeme} (n : ℕ) → (ahead ts ≡ Some kind.Name → ⊥) → Leads 0 (all (names n)) ts (part (opens n sign.OpenParen) (λ l. part name (λ x. part (token (kind.Sign sign.Comma)) (λ l. part name (λ y. part (few 2 next_parameter) (closed (x ∷ y ∷ []))))))) ts
some_names {ts} n never = leads_alike (alike_part (opens n sign.OpenParen) (λ l. alike_part name (λ x. alike_rule next_parameter (λ y. part (few 2 next_parameter) (closed (x ∷ y ∷ []))))))
    (not_first {R = part name (λ x. give (x ∷ []))} {S = part (opens n sign.OpenParen) (λ l. part name more_names)} (name_first ts never) (unfold_part (names n) (λ x. give x) start))
  where
    name_first : (us : List Lexeme) → (ahead us ≡ Some kind.Name → ⊥) → (free : ℕ) (k : List Lexeme) (b : List (List ℕ)) (vs : List Lexeme) → ahead k ≡ ahead us → Reading free (part name (λ x. give (x ∷ []))) k b vs → Stops 0 vs → ⊥
    name_first us never free [] b vs same d s = elim d.2.1 [ ]
    name_first us never free (t ∷ k) b vs same d s = never (sym same ∙ ap Some d.2.1.0.0)

-- ---- expressions in parentheses

-- An expression that begins with a parenthesis, or another rule that does.
pub alike_bracket : {A : Type 0} {ts : List Lexeme} {m : ℕ} {F : Rule A} (n : ℕ) (K : RawExpression → Rule A) (L : Value (opens n sign.OpenParen) → Rule A) → ahead ts ≡ Some (kind.Sign sign.OpenParen) →
    Leads m F ts (either (part (expression n) K) (part (opens n sign.OpenParen) L)) ts →
    Leads m F ts (part (opens n sign.OpenParen) (λ o. either (part (expression (n + 1)) (λ a. part (token (kind.Sign sign.CloseParen)) (λ l. after_operand n 9 a 0 (λ x. K x.0)))) (L o))) ts
alike_bracket n K L is l =
    let K' : RawExpression × ℕ → Rule _ = λ x. K x.0 in
    let K'' : RawExpression → Rule _ = λ a. after_operand n 9 a 0 K' in
    let S = part (opens n sign.OpenParen) L in
    let a = leads_alike (alike_either (alike_trans (alike_rule (expression n) K) (alike_trans (alike_level n 9 0 K') (alike_rule (operand n) K''))) (alike_refl S)) l in
    let b = leads_alike (alike_last (bind (operand_rule n) K'') S) a in
    leads_alike (alike_shared (opens n sign.OpenParen) (λ o. part (expression (n + 1)) (λ a. part (token (kind.Sign sign.CloseParen)) (λ l. K'' a))) L)
    (decide (Some (kind.Sign sign.OpenParen)) is (and_either (bind (operand_rule n) K'') S) b)

-- ---- rows

pub one_expression : {ts : List Lexeme} (n : ℕ) → (ahead ts ≡ Some (kind.Sign sign.OpenParen) → ⊥) → Leads 10 (all (row n)) ts (part (expression n) (λ a. give (a ∷ []))) ts
one_expression {ts} n never = not_second {R = part (expression n) (λ a. give (a ∷ []))} {S = part (opens n sign.OpenParen) some_row} (λ free k b vs same d s. opens_first n sign.OpenParen ts never some_row free k b vs same d) (unfold_part (row n) (λ x. give x) start)
  where
    some_row : Value (opens n sign.OpenParen) → Rule (List RawExpression)
    some_row o = part (expression (n + 1)) (λ a. part (next_argument (n + 1)) (λ b. part (few 2 (next_argument (n + 1))) (closed (a ∷ b ∷ []))))

pub row_start : {ts : List Lexeme} (n : ℕ) → ahead ts ≡ Some (kind.Sign sign.OpenParen) → Leads 10 (all (row n)) ts (part (opens n sign.OpenParen) (λ o. row_from n)) ts
row_start n is = leads_alike (alike_part (opens n sign.OpenParen) (λ o. whole_or_part)) (alike_bracket n (λ a. give (a ∷ [])) some_row is (unfold_part (row n) (λ x. give x) start))
  where
    next_is : RawExpression → RawExpression → Rule (List RawExpression)
    next_is a b = part (few 2 (next_argument (n + 1))) (closed (a ∷ b ∷ []))

    some_row : Value (opens n sign.OpenParen) → Rule (List RawExpression)
    some_row o = part (expression (n + 1)) (λ a. part (next_argument (n + 1)) (next_is a))

    closes : RawExpression → Rule (List RawExpression)
    closes a = part (token (kind.Sign sign.CloseParen)) (λ l. after_operand n 9 a 0 (λ x. give (x.0 ∷ [])))

    whole_or_part : Alike (either (part (expression (n + 1)) closes) (part (expression (n + 1)) (λ a. part (next_argument (n + 1)) (next_is a)))) (row_from n)
    whole_or_part = alike_trans (alike_shared (expression (n + 1)) closes (λ a. part (next_argument (n + 1)) (next_is a)))
        (alike_part (expression (n + 1)) (λ a. alike_either (alike_refl (closes a)) (alike_rule (next_argument (n + 1)) (next_is a))))

-- ---- predictors

pub no_host : {ts : List Lexeme} (n : ℕ) → (ahead ts ≡ Some (kind.Keyword word.Host) → ⊥) → Leads 10 (all (predictor n)) ts (part (expression n) (λ g. give (By g))) ts
no_host {ts} n never = not_first (λ free k b vs same d s. token_first (kind.Keyword word.Host) ts never (λ l. part count (λ k. give (Host k))) free k b vs same d) (unfold_part (predictor n) (λ x. give x) start)

pub one_predictor : {ts : List Lexeme} (n : ℕ) → (ahead ts ≡ Some (kind.Sign sign.OpenParen) → ⊥) → Leads 10 (all (guess n)) ts (part (predictor n) (λ g. give (g ∷ []))) ts
one_predictor {ts} n never = not_second {R = part (predictor n) (λ g. give (g ∷ []))} {S = part (opens n sign.OpenParen) some_guess} (λ free k b vs same d s. opens_first n sign.OpenParen ts never some_guess free k b vs same d) (unfold_part (guess n) (λ x. give x) start)
  where
    some_guess : Value (opens n sign.OpenParen) → Rule (List RawPredictor)
    some_guess o = part (predictor (n + 1)) (λ g. part (next_predictor (n + 1)) (λ h. part (few 2 (next_predictor (n + 1))) (closed (g ∷ h ∷ []))))

-- one alternative before two others
alike_swap : {A : Type 0} (r s t : Rule A) → Alike (either r (either s t)) (either s (either r t))
alike_swap r s t = record { to = swap r s t; from = swap s r t }
  where
    swap : {A : Type 0} (r s t : Rule A) (free : ℕ) (k : List Lexeme) (b : A) (vs : List Lexeme) → Reading free (either r (either s t)) k b vs → Reading free (either s (either r t)) k b vs
    swap r s t free k b vs (inl d) = inr (inl d)
    swap r s t free k b vs (inr (inl d)) = inl d
    swap r s t free k b vs (inr (inr d)) = inr (inr d)

pub guess_start : {ts : List Lexeme} (n : ℕ) → ahead ts ≡ Some (kind.Sign sign.OpenParen) → Leads 10 (all (guess n)) ts (part (opens n sign.OpenParen) (λ o. guess_from n)) ts
guess_start {ts} n is =
    leads_alike (alike_part (opens n sign.OpenParen) (λ o. whole_or_part))
    (alike_bracket n (λ a. give (By a ∷ [])) some_guess is
    (not_first {R = by_host} {S = either (part (expression n) (λ a. give (By a ∷ []))) (part (opens n sign.OpenParen) some_guess)} (λ free k b vs same d s. token_first (kind.Keyword word.Host) ts (λ h. host_opens (sym is ∙ h)) (λ l. part count (λ k. give (Host k ∷ []))) free k b vs same d)
    (leads_alike (alike_last (either by_host (part (expression n) (λ a. give (By a ∷ [])))) (part (opens n sign.OpenParen) some_guess))
    (leads_alike (alike_either (alike_rule (predictor n) (λ g. give (g ∷ []))) (alike_refl (part (opens n sign.OpenParen) some_guess))) (unfold_part (guess n) (λ x. give x) start)))))
  where
    host_opens : Some (kind.Sign sign.OpenParen) ≡ Some (kind.Keyword word.Host) → ⊥
    host_opens h = let f : kind.Sign sign.OpenParen ≡ kind.Keyword word.Host = cc in cc

    by_host : Rule (List RawPredictor)
    by_host = part (token (kind.Keyword word.Host)) (λ l. part count (λ k. give (Host k ∷ [])))

    next_is : RawPredictor → RawPredictor → Rule (List RawPredictor)
    next_is g h = part (few 2 (next_predictor (n + 1))) (closed (g ∷ h ∷ []))

    later : RawPredictor → Rule (List RawPredictor)
    later g = part (next_predictor (n + 1)) (next_is g)

    some_guess : Value (opens n sign.OpenParen) → Rule (List RawPredictor)
    some_guess o = part (predictor (n + 1)) later

    closes : RawExpression → Rule (List RawPredictor)
    closes a = part (token (kind.Sign sign.CloseParen)) (λ l. after_operand n 9 a 0 (λ x. give (By x.0 ∷ [])))

    -- after the parenthesis: the predictor of a host, and two rules that begin with an expression
    host_later : Rule (List RawPredictor)
    host_later = part (token (kind.Keyword word.Host)) (λ l. part count (λ k. later (Host k)))

    whole_or_part : Alike (either (part (expression (n + 1)) closes) (part (predictor (n + 1)) later)) (guess_from n)
    whole_or_part =
        alike_trans (alike_either (alike_refl (part (expression (n + 1)) closes)) (alike_rule (predictor (n + 1)) later))
        (alike_trans (alike_swap (part (expression (n + 1)) closes) host_later (part (expression (n + 1)) (λ a. later (By a))))
        (alike_either (alike_part (token (kind.Keyword word.Host)) (λ l. alike_part count (λ k. alike_rule (next_predictor (n + 1)) (next_is (Host k)))))
        (alike_trans (alike_shared (expression (n + 1)) closes (λ a. later (By a)))
        (alike_part (expression (n + 1)) (λ a. alike_either (alike_refl (closes a)) (alike_rule (next_predictor (n + 1)) (next_is (By a))))))))

-- ---- after a parenthesis

-- what goes wrong in what is left goes wrong in the whole
pub refused : {A : Type 0} {n : ℕ} {F G : Rule A} {ts us : List Lexeme} (why : Fault) → Leads n F ts G us → Refuses n G us why → Refuses n F ts why
refused (fault.Unexpected left) l f = fails l f
refused (fault.TooDeep left) l f = fails l f
refused fault.OutOfMemory l f = tt

module _ {A : Type 0} (n : ℕ) (f : RawExpression → A) (first : RawExpression → Rule A) where
  pub bracket_start : {ts : List Lexeme} → Leads 10 (from_bracket n f first) ts (from_bracket n f first) ts
  bracket_start = start

  pub bracket_read : {ts us : List Lexeme} {a : RawExpression} → IsRead (expression (n + 1)) ts a us →
      Leads 10 (from_bracket n f first) ts (either (part (token (kind.Sign sign.CloseParen)) (λ l. after_operand n 9 a 0 (λ x. give (f x.0)))) (part (token (kind.Sign sign.Comma)) (λ l. first a))) us
  bracket_read r = go {K = λ a. either (part (token (kind.Sign sign.CloseParen)) (λ l. after_operand n 9 a 0 (λ x. give (f x.0)))) (part (token (kind.Sign sign.Comma)) (λ l. first a))} (λ x. (ten_fourteen, ten_fourteen)) (start {n = 10} {F = from_bracket n f first}) r

  pub bracket_unread : (ts : List Lexeme) (why : Fault) → Refuses 10 (all (expression (n + 1))) ts why → Refuses 10 (from_bracket n f first) ts why
  bracket_unread ts why r = halt {K = λ a. either (part (token (kind.Sign sign.CloseParen)) (λ l. after_operand n 9 a 0 (λ x. give (f x.0)))) (part (token (kind.Sign sign.Comma)) (λ l. first a))} why (λ x. (ten_fourteen, ten_fourteen)) (λ x. refl) (start {n = 10} {F = from_bracket n f first}) r

  -- `)`, and what follows the operand
  pub bracket_closed : {ts us vs : List Lexeme} {a : RawExpression} (l : ℕ) → IsRead (expression (n + 1)) ts a us → ahead us ≡ Some (kind.Sign sign.CloseParen) → IsRead (token (kind.Sign sign.CloseParen)) us l vs →
      Leads 10 (from_bracket n f first) ts (after_operand n 9 a 0 (λ x. give (f x.0))) vs
  bracket_closed l r is t = go0 refl (decide (Some (kind.Sign sign.CloseParen)) is _ (bracket_read r)) t

  pub bracket_whole : {ts vs ws : List Lexeme} (a : RawExpression) {x : RawExpression × ℕ} → Leads 10 (from_bracket n f first) ts (after_operand n 9 a 0 (λ x. give (f x.0))) vs →
      Leads 10 (after_operand n 9 a 0 (λ x. give x)) vs (give x) ws → Leads 10 (from_bracket n f first) ts (give (f x.0)) ws
  bracket_whole a l c = go_rule {R = after_operand n 9 a 0 (λ x. give x)} (λ x. give (f x.0)) (λ x. ten_ten) l c

  pub bracket_broken : {ts vs : List Lexeme} (a : RawExpression) (why : Fault) → Leads 10 (from_bracket n f first) ts (after_operand n 9 a 0 (λ x. give (f x.0))) vs →
      Refuses 10 (after_operand n 9 a 0 (λ x. give x)) vs why → Refuses 10 (from_bracket n f first) ts why
  bracket_broken a why l c = halt_rule 10 (after_operand n 9 a 0 (λ x. give x)) (λ x. give (f x.0)) why (λ x. ten_ten) (λ x. refl) l c

  -- no `)`, so a comma
  pub bracket_open : {ts us : List Lexeme} {a : RawExpression} → IsRead (expression (n + 1)) ts a us → (ahead us ≡ Some (kind.Sign sign.CloseParen) → ⊥) →
      Leads 10 (from_bracket n f first) ts (part (token (kind.Sign sign.Comma)) (λ l. first a)) us
  bracket_open {ts} {us} {a} r never = not_first {R = part (token (kind.Sign sign.CloseParen)) (λ l. after_operand n 9 a 0 (λ x. give (f x.0)))} {S = part (token (kind.Sign sign.Comma)) (λ l. first a)}
      (λ free k b vs same d s. token_first (kind.Sign sign.CloseParen) us never (λ l. after_operand n 9 a 0 (λ x. give (f x.0))) free k b vs same d) (bracket_read r)

-- ---- the first predictor

pub host_start : {ts : List Lexeme} (n : ℕ) → ahead ts ≡ Some (kind.Keyword word.Host) → Leads 10 (guess_from n) ts (part (token (kind.Keyword word.Host)) (λ l. part count (λ k. part (token (kind.Sign sign.Comma)) (λ l. guess_after n (Host k) false)))) ts
host_start n is = decide (Some (kind.Keyword word.Host)) is (guess_from n) start

pub no_host_start : {ts : List Lexeme} (n : ℕ) → (ahead ts ≡ Some (kind.Keyword word.Host) → ⊥) → Leads 10 (guess_from n) ts (guess_from_bracket n) ts
no_host_start {ts} n never = not_first {R = part (token (kind.Keyword word.Host)) host_rest} {S = guess_from_bracket n} (λ free k b vs same d s. token_first (kind.Keyword word.Host) ts never host_rest free k b vs same d) start
  where
    host_rest : ℕ → Rule (List RawPredictor)
    host_rest l = part count (λ k. part (token (kind.Sign sign.Comma)) (λ l. guess_after n (Host k) false))

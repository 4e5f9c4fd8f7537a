-- What is left of expressions.
use Rattle.std.proofs.Common.{◌≡◌, ℕ, zero, suc, ◌+◌, Bool, true, false, List, [], ◌∷◌, ◌++◌, length, refl, sym, ◌∙◌, ap, subst, append_assoc, arith, inl, inr, Option, Some, None, nat_eq}
use Rattle.std.proofs.lemmas.List.{append-nil}
use Rattle.std.specs.Prelude.{if◌then◌else◌, nat_lt}
use Rattle.std.proofs.lemmas.Bool.Decides.{nat_tests}
use Rattle.spf_text.specs.declared.token.Sign.{Sign}
use Rattle.spf_text.specs.declared.token.Sign.TheVariants as sign
use Rattle.spf_text.specs.declared.token.TokenKind.{TokenKind}
use Rattle.spf_text.specs.declared.token.TokenKind.TheVariants as kind
use Rattle.spf_text.specs.declared.token.Keyword.{Keyword}
use Rattle.spf_text.specs.declared.token.Keyword.TheVariants as word
use Rattle.spf_ast.specs.RawSyntax.{RawExpression, Local, Load, Call, arguments_of}
use Rattle.spf_parse_grammar.specs.Lexemes.{Lexeme}
use Rattle.spf_parse_grammar.specs.Parts.{Part, token, opens, operator, many, expression, level, further, compared, operand, arguments, next_argument, Value, Rule, give, part, either}
use Rattle.spf_parse_grammar.specs.Rules.{all, rule, rank_of, joined, named}
use Rattle.spf_parse_grammar.specs.Derivations.{Says, Reading}
use Rattle.spf_parse_parts.specs.Answers.{ahead, reach, Stops, Leads, Faults, IsRead, after_operand}
use Rattle.spf_parse_grammar.proofs.Derivations.{bind}
use Rattle.spf_parse_parts.proofs.Follows.{operator_reach}
use Rattle.spf_parse_parts.proofs.Steps.{start, unfold_part, not_first, not_second, cannot, decide, go, can, pick, refuse}

-- ---- many

-- no further one
pub many_done : {B : Type 0} {n : ℕ} {F : Rule B} {ts us : List Lexeme} {p : Part} {K : List (Value p) → Rule B} →
    ((free : ℕ) (k : List Lexeme) (x : Value p) (ws : List Lexeme) → ahead k ≡ ahead us → Says free p k x ws → ⊥) → Leads n F ts (part (many p) K) us → Leads n F ts (K []) us
many_done {p = p} {K} never l = not_second {R = K []} {S = part p (λ x. part (many p) (λ xs. K (x ∷ xs)))} (λ free k b vs same d s. never free k d.0 d.1 same d.2) (unfold_part (many p) K l)

-- one more, which the rest can't begin with
pub many_next : {B : Type 0} {n : ℕ} {F : Rule B} {ts us : List Lexeme} {p : Part} {K : List (Value p) → Rule B} →
    ((free : ℕ) (k : List Lexeme) (b : B) (vs : List Lexeme) → ahead k ≡ ahead us → Reading free (K []) k b vs → Stops n vs → ⊥) → Leads n F ts (part (many p) K) us → Leads n F ts (part p (λ x. part (many p) (λ xs. K (x ∷ xs)))) us
many_next {p = p} {K} never l = not_first {R = K []} {S = part p (λ x. part (many p) (λ xs. K (x ∷ xs)))} never (unfold_part (many p) K l)

pub regroup : {B : Type 0} {n : ℕ} {F : Rule B} {ts us : List Lexeme} (p : Part) (K : List (Value p) → Rule B) (before : List (Value p)) (x : Value p) →
    Leads n F ts (part (many p) (λ xs. K (before ++ x ∷ xs))) us → Leads n F ts (part (many p) (λ xs. K ((before ++ x ∷ []) ++ xs))) us
regroup {n = n} {F} {ts} {us} p K before x l =
    let e : (λ (xs : List (Value p)). K ((before ++ x ∷ []) ++ xs)) ≡ (λ xs. K (before ++ x ∷ xs)) = λ i xs. K (append_assoc before (x ∷ []) xs i) in
    subst (λ f. Leads n F ts (part (many p) f) us) (sym e) l

-- a token that another isn't
pub token_first : (w : TokenKind) (us : List Lexeme) → (ahead us ≡ Some w → ⊥) → {B : Type 0} (K : ℕ → Rule B) (free : ℕ) (k : List Lexeme) (b : B) (vs : List Lexeme) → ahead k ≡ ahead us → Reading free (part (token w) K) k b vs → ⊥
token_first w us never K free [] b vs same d = elim d.2.1 [ ]
token_first w us never K free (t ∷ k) b vs same d = never (sym same ∙ ap Some d.2.1.0.0)

-- ---- operators

same_stops : (rank : ℕ) (s : Sign) → rank_of s ≡ suc rank → nat_lt (suc (suc rank)) (reach (kind.Sign s)) ≡ false
same_stops rank s h = let e : reach (kind.Sign s) ≡ suc (suc rank) = operator_reach s rank h in grind (arith, nat_tests, e)

no_operator : {B : Type 0} (rank used : ℕ) (K : Sign → Rule B) (us : List Lexeme) → ((s : Sign) → ahead us ≡ Some (kind.Sign s) → rank_of s ≡ rank → ⊥) →
    (free : ℕ) (k : List Lexeme) (b : B) (vs : List Lexeme) → ahead k ≡ ahead us → Reading free (part (operator rank used) K) k b vs → ⊥
no_operator rank used K us never free [] b vs same d = elim d.2.1.1 [ ]
no_operator rank used K us never free (t ∷ k) b vs same d = never d.0 (sym same ∙ ap Some d.2.1.1.0.0) d.2.1.1.0.1

abbrev pub after_operator : ℕ → (rank : ℕ) → RawExpression → (used : ℕ) → Rule (RawExpression × ℕ)
after_operator e rank a used = part (operator (suc rank) used) (λ o. part (level e rank (used + 1)) (λ x. all (further e rank (joined o a x.0) x.1)))

abbrev pub after_comparison : ℕ → (rank : ℕ) → RawExpression → (used : ℕ) → Rule (RawExpression × ℕ)
after_comparison e rank a used = part (operator (suc rank) used) (λ o. part (level e rank (used + 1)) (λ x. give (joined o a x.0, x.1)))

module _ {F : Rule (RawExpression × ℕ)} {ts us : List Lexeme} (e rank : ℕ) (a : RawExpression) (used : ℕ) where
  pub further_next : (s : Sign) → ahead us ≡ Some (kind.Sign s) → rank_of s ≡ suc rank → Leads (suc (suc rank)) F ts (all (further e rank a used)) us → Leads (suc (suc rank)) F ts (after_operator e rank a used) us
  further_next s is r l = not_first (cannot (suc (suc rank)) (give (a, used)) (Some (kind.Sign s)) us is (same_stops rank s r)) (unfold_part (further e rank a used) (λ x. give x) l)

  pub further_done : ((s : Sign) → ahead us ≡ Some (kind.Sign s) → rank_of s ≡ suc rank → ⊥) → Leads (suc (suc rank)) F ts (all (further e rank a used)) us → Leads (suc (suc rank)) F ts (give (a, used)) us
  further_done never l = not_second {R = give (a, used)} {S = after_operator e rank a used} (λ free k b vs same d s. no_operator (suc rank) used (λ o. part (level e rank (used + 1)) (λ x. all (further e rank (joined o a x.0) x.1))) us never free k b vs same d) (unfold_part (further e rank a used) (λ x. give x) l)

  pub compared_next : (s : Sign) → ahead us ≡ Some (kind.Sign s) → rank_of s ≡ suc rank → Leads (suc (suc rank)) F ts (all (compared e rank a used)) us → Leads (suc (suc rank)) F ts (after_comparison e rank a used) us
  compared_next s is r l = not_first (cannot (suc (suc rank)) (give (a, used)) (Some (kind.Sign s)) us is (same_stops rank s r)) (unfold_part (compared e rank a used) (λ x. give x) l)

  pub compared_done : ((s : Sign) → ahead us ≡ Some (kind.Sign s) → rank_of s ≡ suc rank → ⊥) → Leads (suc (suc rank)) F ts (all (compared e rank a used)) us → Leads (suc (suc rank)) F ts (give (a, used)) us
  compared_done never l = not_second {R = give (a, used)} {S = after_comparison e rank a used} (λ free k b vs same d s. no_operator (suc rank) used (λ o. part (level e rank (used + 1)) (λ x. give (joined o a x.0, x.1))) us never free k b vs same d) (unfold_part (compared e rank a used) (λ x. give x) l)

-- ---- levels, by their first operands

-- a rule that follows an operand, and then another
pub then_bind : (e rank : ℕ) (a : RawExpression) (used : ℕ) {A B : Type 0} (K : RawExpression × ℕ → Rule A) (L : A → Rule B) →
    bind (after_operand e rank a used K) L ≡ after_operand e rank a used (λ x. bind (K x) L)
then_bind e zero a used K L = refl
then_bind e (suc rank) a used {A} {B} K L = then_rank (nat_eq rank 6) (then_bind e rank a used)
  where
    then_rank : (b : Bool) →
        ((K' : RawExpression × ℕ → Rule A) (L' : A → Rule B) → bind (after_operand e rank a used K') L' ≡ after_operand e rank a used (λ x. bind (K' x) L')) →
        bind (after_operand e rank a used (λ x. if b then part (compared e rank x.0 x.1) K else part (further e rank x.0 x.1) K)) L
        ≡ after_operand e rank a used (λ x. if b then part (compared e rank x.0 x.1) (λ y. bind (K y) L) else part (further e rank x.0 x.1) (λ y. bind (K y) L))
    then_rank true h = h (λ x. part (compared e rank x.0 x.1) K) L
    then_rank false h = h (λ x. part (further e rank x.0 x.1) K) L

-- ---- arguments

pub no_argument : {ts : List Lexeme} (e : ℕ) → ahead ts ≡ Some (kind.Sign sign.CloseParen) → Leads 0 (all (arguments e)) ts (part (token (kind.Sign sign.CloseParen)) (λ l. give [])) ts
no_argument e is = decide (Some (kind.Sign sign.CloseParen)) is _ (unfold_part (arguments e) (λ x. give x) start)

pub some_argument : {ts : List Lexeme} (e : ℕ) → (ahead ts ≡ Some (kind.Sign sign.CloseParen) → ⊥) → Leads 0 (all (arguments e)) ts (part (expression e) (λ a. part (many (next_argument e)) (λ more. part (token (kind.Sign sign.CloseParen)) (λ l. give (a ∷ more))))) ts
some_argument {ts} e never = not_first (λ free k b vs same d s. token_first (kind.Sign sign.CloseParen) ts never (λ l. give []) free k b vs same d) (unfold_part (arguments e) (λ x. give x) start)

abbrev pub last_arguments : List RawExpression → List RawExpression → Rule (List RawExpression)
last_arguments before more = part (token (kind.Sign sign.CloseParen)) (λ l. give (before ++ more))

pub next_argument_is : {F : Rule (List RawExpression)} {ts us : List Lexeme} (e : ℕ) (before : List RawExpression) → ahead us ≡ Some (kind.Sign sign.Comma) → Leads 0 F ts (part (many (next_argument e)) (last_arguments before)) us →
    Leads 0 F ts (part (token (kind.Sign sign.Comma)) (λ l. part (expression e) (λ a. part (many (next_argument e)) (λ more. last_arguments before (a ∷ more))))) us
next_argument_is {us = us} e before is l = unfold_part (next_argument e) (λ a. part (many (next_argument e)) (λ more. last_arguments before (a ∷ more)))
    (many_next (λ free k b vs same d s. token_first (kind.Sign sign.CloseParen) us (λ h. comma_closes (sym is ∙ h)) (λ l. give (before ++ [])) free k b vs same d) l)
  where
    comma_closes : Some (kind.Sign sign.Comma) ≡ Some (kind.Sign sign.CloseParen) → ⊥
    comma_closes h = let f : sign.Comma ≡ sign.CloseParen = cc in cc

next_argument_never : (e : ℕ) (us : List Lexeme) → (ahead us ≡ Some (kind.Sign sign.Comma) → ⊥) → (free : ℕ) (k : List Lexeme) (x : RawExpression) (ws : List Lexeme) → ahead k ≡ ahead us → Says free (next_argument e) k x ws → ⊥
next_argument_never e us never free k x ws same (zero, d) = elim d [ ]
next_argument_never e us never free [] x ws same (suc depth, d) = elim d.2 [ ]
next_argument_never e us never free (t ∷ k) x ws same (suc depth, d) = never (sym same ∙ ap Some d.2.0.0)

pub no_next_argument : {F : Rule (List RawExpression)} {ts us : List Lexeme} (e : ℕ) (before : List RawExpression) → (ahead us ≡ Some (kind.Sign sign.Comma) → ⊥) → Leads 0 F ts (part (many (next_argument e)) (last_arguments before)) us →
    Leads 0 F ts (last_arguments before []) us
no_next_argument {us = us} e before never l = many_done (next_argument_never e us never) l

pub last_done : {F : Rule (List RawExpression)} {ts us vs : List Lexeme} (before : List RawExpression) (l : ℕ) → Leads 0 F ts (last_arguments before []) us → IsRead (token (kind.Sign sign.CloseParen)) us l vs → Leads 0 F ts (give before) vs
last_done {F} {ts} {us} {vs} before l p q = subst (λ b. Leads 0 F ts (give b) vs) (append-nil before) (go (λ x. omega arith) p q)

-- ---- operands

pub opens_first : (e : ℕ) (o : Sign) (us : List Lexeme) → (ahead us ≡ Some (kind.Sign o) → ⊥) → {B : Type 0} (K : Value (opens e o) → Rule B) (free : ℕ) (k : List Lexeme) (b : B) (vs : List Lexeme) → ahead k ≡ ahead us → Reading free (part (opens e o) K) k b vs → ⊥
opens_first e o us never K free [] b vs same d = elim d.2.1.1 [ ]
opens_first e o us never K free (t ∷ k) b vs same d = never (sym same ∙ ap Some d.2.1.1.0)

abbrev indexed : ℕ → List ℕ → Unit {0} → Rule RawExpression
indexed e x y = part (expression (e + 1)) (λ i. part (token (kind.Sign sign.CloseBracket)) (λ y. give (Load x i)))

abbrev called : ℕ → List ℕ → Unit {0} → Rule RawExpression
called e x y = part (arguments (e + 1)) (λ given. give (Call x (arguments_of given)))

pub name_alone : {F : Rule RawExpression} {ts us : List Lexeme} (e : ℕ) (x : List ℕ) → (ahead us ≡ Some (kind.Sign sign.OpenBracket) → ⊥) → (ahead us ≡ Some (kind.Sign sign.OpenParen) → ⊥) → Leads 1 F ts (named e x) us → Leads 1 F ts (give (Local x)) us
name_alone {us = us} e x b p l = not_second {R = give (Local x)} {S = either (part (opens e sign.OpenBracket) (indexed e x)) (part (opens e sign.OpenParen) (called e x))}
    (λ free k b' vs same d s. elim d [ inl f ↦ opens_first e sign.OpenBracket us b (indexed e x) free k b' vs same f | inr g ↦ opens_first e sign.OpenParen us p (called e x) free k b' vs same g ]) l

pub operand_start : {ts : List Lexeme} (e : ℕ) (w : Option TokenKind) → ahead ts ≡ w → Leads 1 (all (operand e)) ts (pick 1 w (bind (rule (operand e)) (λ x. give x))) ts
operand_start e w is = decide w is _ (unfold_part (operand e) (λ x. give x) start)

no_word : (e : ℕ) (w : Keyword) → (w ≡ word.Len → ⊥) → (w ≡ word.Input → ⊥) → can 1 (bind (rule (operand e)) (λ x. give x)) (Some (kind.Keyword w)) ≡ false
no_word e word.Len l i = absurd (l refl)
no_word e word.Input l i = absurd (i refl)
no_word e w l i = refl

no_sign : (e : ℕ) (s : Sign) → (s ≡ sign.Minus → ⊥) → (s ≡ sign.Not → ⊥) → (s ≡ sign.OpenParen → ⊥) → can 1 (bind (rule (operand e)) (λ x. give x)) (Some (kind.Sign s)) ≡ false
no_sign e sign.Minus m n o = absurd (m refl)
no_sign e sign.Not m n o = absurd (n refl)
no_sign e sign.OpenParen m n o = absurd (o refl)
no_sign e s m n o = refl

pub word_operand : (e : ℕ) (us : List Lexeme) (w : Keyword) → ahead us ≡ Some (kind.Keyword w) → (w ≡ word.Len → ⊥) → (w ≡ word.Input → ⊥) → Faults false 1 (all (operand e)) us (length us)
word_operand e us w is l i = refuse (operand e) (Some (kind.Keyword w)) us is refl (no_word e w l i)

pub sign_operand : (e : ℕ) (us : List Lexeme) (s : Sign) → ahead us ≡ Some (kind.Sign s) → (s ≡ sign.Minus → ⊥) → (s ≡ sign.Not → ⊥) → (s ≡ sign.OpenParen → ⊥) → Faults false 1 (all (operand e)) us (length us)
sign_operand e us s is m n o = refuse (operand e) (Some (kind.Sign s)) us is refl (no_sign e s m n o)

pub end_operand : (e : ℕ) (us : List Lexeme) → ahead us ≡ None → Faults false 1 (all (operand e)) us (length us)
end_operand e us is = refuse (operand e) None us is refl refl

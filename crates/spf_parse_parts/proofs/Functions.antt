-- What is left of sizes and parameters.
use Rattle.std.proofs.Common.{◌≡◌, ℕ, zero, suc, List, [], ◌∷◌, ◌++◌, refl, sym, ◌∙◌, ap, subst, Some, ℤ, pos}
use Rattle.std.proofs.lemmas.List.{append-nil}
use Rattle.spf_text.specs.declared.token.Keyword.TheVariants as word
use Rattle.spf_text.specs.declared.token.Sign.TheVariants as sign
use Rattle.spf_text.specs.declared.token.TokenKind.TheVariants as kind
use Rattle.spf_parse_grammar.specs.Lexemes.{Lexeme}
use Rattle.spf_parse_grammar.specs.Parts.{token, number, many, name, size, parameters, next_parameter, Rule, give, part, either}
use Rattle.spf_parse_grammar.specs.Rules.{all}
use Rattle.spf_parse_grammar.specs.Derivations.{Says}
use Rattle.spf_parse_parts.specs.Answers.{ahead, Leads, IsRead}
use Rattle.spf_parse_parts.proofs.Steps.{start, unfold_part, not_first, not_second, decide, go0}
use Rattle.spf_parse_parts.proofs.Expressions.{token_first, many_next, many_done}

-- ---- sizes

abbrev pub after_plus : ℤ → ℕ → Rule (ℤ × ℤ)
after_plus k l = part number (λ o. give (k, o))

abbrev pub after_len : ℤ → ℕ → Rule (ℤ × ℤ)
after_len k l = either (give (k, pos 0)) (part (token (kind.Sign sign.Plus)) (after_plus k))

abbrev pub after_star : ℤ → ℕ → Rule (ℤ × ℤ)
after_star k l = part (token (kind.Keyword word.Len)) (after_len k)

abbrev pub after_number : ℤ → Rule (ℤ × ℤ)
after_number k = either (give (pos 0, k)) (part (token (kind.Sign sign.Star)) (after_star k))

pub size_start : {ts : List Lexeme} → Leads 3 (all size) ts (part number after_number) ts
size_start = unfold_part size (λ x. give x) start

pub no_star : {F : Rule (ℤ × ℤ)} {ts us : List Lexeme} (k : ℤ) → (ahead us ≡ Some (kind.Sign sign.Star) → ⊥) → Leads 3 F ts (after_number k) us → Leads 3 F ts (give (pos 0, k)) us
no_star {us = us} k never l = not_second (λ free j b vs same d s. token_first (kind.Sign sign.Star) us never (after_star k) free j b vs same d) l

pub no_plus : {F : Rule (ℤ × ℤ)} {ts us : List Lexeme} (k : ℤ) → (ahead us ≡ Some (kind.Sign sign.Plus) → ⊥) → Leads 3 F ts (either (give (k, pos 0)) (part (token (kind.Sign sign.Plus)) (after_plus k))) us → Leads 3 F ts (give (k, pos 0)) us
no_plus {us = us} k never l = not_second (λ free j b vs same d s. token_first (kind.Sign sign.Plus) us never (after_plus k) free j b vs same d) l

-- ---- parameters

pub no_parameter : {ts : List Lexeme} → ahead ts ≡ Some (kind.Sign sign.CloseParen) → Leads 0 (all parameters) ts (part (token (kind.Sign sign.CloseParen)) (λ l. give [])) ts
no_parameter is = decide (Some (kind.Sign sign.CloseParen)) is _ (unfold_part parameters (λ x. give x) start)

abbrev pub last_parameters : List (List ℕ) → List (List ℕ) → Rule (List (List ℕ))
last_parameters before more = part (token (kind.Sign sign.CloseParen)) (λ l. give (before ++ more))

pub some_parameter : {ts : List Lexeme} → (ahead ts ≡ Some (kind.Sign sign.CloseParen) → ⊥) → Leads 0 (all parameters) ts (part name (λ x. part (many next_parameter) (λ more. part (token (kind.Sign sign.CloseParen)) (λ l. give (x ∷ more))))) ts
some_parameter {ts} never = not_first (λ free k b vs same d s. token_first (kind.Sign sign.CloseParen) ts never (λ l. give []) free k b vs same d) (unfold_part parameters (λ x. give x) start)

comma_closes : Some (kind.Sign sign.Comma) ≡ Some (kind.Sign sign.CloseParen) → ⊥
comma_closes h = let f : sign.Comma ≡ sign.CloseParen = cc in cc

pub next_parameter_is : {F : Rule (List (List ℕ))} {ts us : List Lexeme} (before : List (List ℕ)) → ahead us ≡ Some (kind.Sign sign.Comma) → Leads 0 F ts (part (many next_parameter) (last_parameters before)) us →
    Leads 0 F ts (part (token (kind.Sign sign.Comma)) (λ l. part name (λ x. part (many next_parameter) (λ more. last_parameters before (x ∷ more))))) us
next_parameter_is {us = us} before is l = unfold_part next_parameter (λ x. part (many next_parameter) (λ more. last_parameters before (x ∷ more)))
    (many_next (λ free k b vs same d s. token_first (kind.Sign sign.CloseParen) us (λ h. comma_closes (sym is ∙ h)) (λ l. give (before ++ [])) free k b vs same d) l)

next_parameter_never : (us : List Lexeme) → (ahead us ≡ Some (kind.Sign sign.Comma) → ⊥) → (free : ℕ) (k : List Lexeme) (x : List ℕ) (ws : List Lexeme) → ahead k ≡ ahead us → Says free next_parameter k x ws → ⊥
next_parameter_never us never free k x ws same (zero, d) = elim d [ ]
next_parameter_never us never free [] x ws same (suc depth, d) = elim d.2 [ ]
next_parameter_never us never free (t ∷ k) x ws same (suc depth, d) = never (sym same ∙ ap Some d.2.0.0)

pub no_next_parameter : {F : Rule (List (List ℕ))} {ts us : List Lexeme} (before : List (List ℕ)) → (ahead us ≡ Some (kind.Sign sign.Comma) → ⊥) → Leads 0 F ts (part (many next_parameter) (last_parameters before)) us → Leads 0 F ts (last_parameters before []) us
no_next_parameter {us = us} before never l = many_done {K = last_parameters before} (next_parameter_never us never) l

pub parameters_done : {F : Rule (List (List ℕ))} {ts us vs : List Lexeme} (before : List (List ℕ)) (l : ℕ) → Leads 0 F ts (last_parameters before []) us → IsRead (token (kind.Sign sign.CloseParen)) us l vs → Leads 0 F ts (give before) vs
parameters_done {F} {ts} {us} {vs} before l p q = subst (λ b. Leads 0 F ts (give b) vs) (append-nil before) (go0 refl p q)

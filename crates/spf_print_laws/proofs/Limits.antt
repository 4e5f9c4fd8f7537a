-- No more is left than there was, and the last tokens are bound by no limit.
use Rattle.std.proofs.Common.{◌≡◌, ℕ, zero, suc, ◌≤◌, List, [], ◌∷◌, length, ap, arith, inl, inr}
use Rattle.spf_parse_grammar.specs.Lexemes.{Lexeme}
use Rattle.spf_parse_grammar.specs.Parts.{Part, token, opens, operator, name, number, count, lined, Value, Rule, give, part, either}
use Rattle.spf_parse_grammar.specs.Rules.{rule}
use Rattle.spf_parse_grammar.specs.Reading.{reads, says}
use Rattle.spf_parse_grammar.specs.Derivations.{Says, Reading}
use Rattle.spf_parse_grammar.proofs.Derivations.{reads_map}

abbrev pub Shrinks : ℕ → ℕ → Part → Type 0
Shrinks depth free p = (ts : List Lexeme) (x : Value p) (us : List Lexeme) → says depth free p ts x us → length us ≤ length ts

pub shrinks_rule : (depth free : ℕ) → ((p : Part) → Shrinks depth free p) → {A : Type 0} (r : Rule A) (ts : List Lexeme) (b : A) (us : List Lexeme) → reads (says depth free) r ts b us → length us ≤ length ts
shrinks_rule depth free parts (give a) ts b us d = omega (arith, ap length d.1)
shrinks_rule depth free parts (part p r) ts b us d = omega (arith, parts p ts d.0 d.1 d.2, shrinks_rule depth free parts (r d.0) d.1 b us d.3)
shrinks_rule depth free parts (either r s) ts b us (inl d) = shrinks_rule depth free parts r ts b us d
shrinks_rule depth free parts (either r s) ts b us (inr d) = shrinks_rule depth free parts s ts b us d

pub shrinks : (depth free : ℕ) (p : Part) → Shrinks depth free p
shrinks depth free (token k) [] x us d = elim d [ ]
shrinks depth free (token k) (t ∷ ts) x us d = omega (arith, ap length d.1)
shrinks depth free (opens n s) [] x us d = elim d.1 [ ]
shrinks depth free (opens n s) (t ∷ ts) x us d = omega (arith, ap length d.1.1)
shrinks depth free (operator rank used) [] x us d = elim d.1 [ ]
shrinks depth free (operator rank used) (t ∷ ts) x us d = omega (arith, ap length d.1.1)
shrinks depth free name [] x us d = elim d [ ]
shrinks depth free name (t ∷ ts) x us d = omega (arith, ap length d.1)
shrinks depth free number [] x us d = elim d [ ]
shrinks depth free number (t ∷ ts) x us d = omega (arith, ap length d.1)
shrinks depth free count [] x us d = elim d [ ]
shrinks depth free count (t ∷ ts) x us d = omega (arith, ap length d.1)
shrinks zero free p ts x us d = elim d [ ]
shrinks (suc depth) free (lined p) ts x us d = shrinks depth free p ts x.1 us d.1
shrinks (suc depth) free p ts x us d = shrinks_rule depth free (shrinks depth free) (rule p) ts x us d

abbrev pub Loosens : ℕ → ℕ → ℕ → Part → Type 0
Loosens depth free more p = (ts : List Lexeme) (x : Value p) (us : List Lexeme) → length ts ≤ more → says depth free p ts x us → says depth more p ts x us

pub loosens_rule : (depth free more : ℕ) → ((p : Part) → Loosens depth free more p) → {A : Type 0} (r : Rule A) (ts : List Lexeme) (b : A) (us : List Lexeme) → length ts ≤ more → reads (says depth free) r ts b us → reads (says depth more) r ts b us
loosens_rule depth free more parts (give a) ts b us h d = d
loosens_rule depth free more parts (part p r) ts b us h d =
    (d.0, d.1, parts p ts d.0 d.1 h d.2, loosens_rule depth free more parts (r d.0) d.1 b us (omega (arith, h, shrinks depth free p ts d.0 d.1 d.2)) d.3)
loosens_rule depth free more parts (either r s) ts b us h (inl d) = inl (loosens_rule depth free more parts r ts b us h d)
loosens_rule depth free more parts (either r s) ts b us h (inr d) = inr (loosens_rule depth free more parts s ts b us h d)

pub loosens : (depth free more : ℕ) (p : Part) → Loosens depth free more p
loosens depth free more (token k) ts x us h d = d
loosens depth free more (opens n s) ts x us h d = ((λ bound. absurd (omega (arith, h, bound))), d.1)
loosens depth free more (operator rank used) ts x us h d = ((λ bound. absurd (omega (arith, h, bound))), d.1)
loosens depth free more name ts x us h d = d
loosens depth free more number ts x us h d = d
loosens depth free more count ts x us h d = d
loosens zero free more p ts x us h d = elim d [ ]
loosens (suc depth) free more (lined p) ts x us h d = (d.0, loosens depth free more p ts x.1 us h d.1)
loosens (suc depth) free more p ts x us h d = loosens_rule depth free more (loosens depth free more) (rule p) ts x us h d

-- what a rule says by derivations of one depth, as by any
pub reading : (depth free : ℕ) {A : Type 0} (r : Rule A) (ts : List Lexeme) (a : A) (us : List Lexeme) → reads (says depth free) r ts a us → Reading free r ts a us
reading depth free r ts a us d = reads_map {R = says depth free} {S = Says free} (λ q ts x us e. (depth, e)) r ts a us d

-- what is read from the last tokens, with fewer limits
pub loosened_rule : (depth free more : ℕ) {A : Type 0} (r : Rule A) (ts : List Lexeme) (b : A) (us : List Lexeme) → length ts ≤ more → reads (says depth free) r ts b us → Reading more r ts b us
loosened_rule depth free more r ts b us h d = reading depth more r ts b us (loosens_rule depth free more (loosens depth free more) r ts b us h d)

pub shrunk_rule : (depth free : ℕ) {A : Type 0} (r : Rule A) (ts : List Lexeme) (b : A) (us : List Lexeme) → reads (says depth free) r ts b us → length us ≤ length ts
shrunk_rule depth free r ts b us d = shrinks_rule depth free (shrinks depth free) r ts b us d

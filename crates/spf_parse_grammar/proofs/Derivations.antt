-- Derivations of any depth.
use Rattle.std.proofs.Common.{◌≡◌, ℕ, zero, suc, ◌+◌, ◌-◌, ◌≤◌, List, refl, sym, subst, arith, inl, inr}
use Rattle.spf_parse_grammar.specs.Lexemes.{Lexeme}
use Rattle.spf_parse_grammar.specs.Parts.{Part, token, opens, operator, name, number, count, lined, Value, Rule, give, part, either}
use Rattle.spf_parse_grammar.specs.Rules.{all, rule}
use Rattle.spf_parse_grammar.specs.Reading.{Relation, reads, says, line_of}
use Rattle.spf_parse_grammar.specs.Derivations.{Says, Reading}

abbrev pub Parts : Type 1
Parts = (p : Part) → Relation (Value p)

-- what holds of parts holds of rules
pub reads_map : {R S : Parts} → ((p : Part) (ts : List Lexeme) (x : Value p) (us : List Lexeme) → R p ts x us → S p ts x us) →
    {A : Type 0} (r : Rule A) (ts : List Lexeme) (b : A) (us : List Lexeme) → reads R r ts b us → reads S r ts b us
reads_map h (give a) ts b us d = d
reads_map h (part p r) ts b us d = (d.0, d.1, h p ts d.0 d.1 d.2, reads_map h (r d.0) d.1 b us d.3)
reads_map h (either r s) ts b us (inl d) = inl (reads_map h r ts b us d)
reads_map h (either r s) ts b us (inr d) = inr (reads_map h s ts b us d)

pub from_all : (R : Parts) (p : Part) (ts : List Lexeme) (x : Value p) (us : List Lexeme) → reads R (all p) ts x us → R p ts x us
from_all R p ts x us d = subst (λ y. R p ts y us) (sym d.3.0) (subst (λ l. R p ts d.0 l) (sym d.3.1) d.2)

pub to_all : (R : Parts) (p : Part) (ts : List Lexeme) (x : Value p) (us : List Lexeme) → R p ts x us → reads R (all p) ts x us
to_all R p ts x us d = (x, us, d, (refl, refl))

-- a deeper derivation
pub grow : (depth free : ℕ) (p : Part) (ts : List Lexeme) (x : Value p) (us : List Lexeme) → says depth free p ts x us → says (suc depth) free p ts x us
grow depth free (token k) ts x us d = d
grow depth free (opens n s) ts x us d = d
grow depth free (operator rank used) ts x us d = d
grow depth free name ts x us d = d
grow depth free number ts x us d = d
grow depth free count ts x us d = d
grow zero free p ts x us d = elim d [ ]
grow (suc depth) free (lined p) ts x us d = (d.0, grow depth free p ts x.1 us d.1)
grow (suc depth) free p ts x us d = reads_map (grow depth free) (rule p) ts x us d

lift : ℕ → ℕ → ℕ
lift zero depth = depth
lift (suc k) depth = suc (lift k depth)

lift_is : (k depth : ℕ) → lift k depth ≡ k + depth
unfolding lift
lift_is zero depth = omega arith
lift_is (suc k) depth = omega (arith, lift_is k depth)

lifts : (k depth free : ℕ) (p : Part) (ts : List Lexeme) (x : Value p) (us : List Lexeme) → says depth free p ts x us → says (lift k depth) free p ts x us
unfolding lift
lifts zero depth free p ts x us d = d
lifts (suc k) depth free p ts x us d = grow (lift k depth) free p ts x us (lifts k depth free p ts x us d)

pub raise : (depth more free : ℕ) → depth ≤ more → (p : Part) (ts : List Lexeme) (x : Value p) (us : List Lexeme) → says depth free p ts x us → says more free p ts x us
raise depth more free h p ts x us d =
    let e : lift (more - depth) depth ≡ more = omega (arith, lift_is (more - depth) depth) in
    subst (λ n. says n free p ts x us) e (lifts (more - depth) depth free p ts x us d)

-- one depth for all parts
pub joint : (free : ℕ) {A : Type 0} (r : Rule A) (ts : List Lexeme) (b : A) (us : List Lexeme) → Reading free r ts b us → (depth : ℕ) × reads (says depth free) r ts b us
joint free (give a) ts b us d = (0, d)
joint free (part p r) ts b us d =
    let rest = joint free (r d.0) d.1 b us d.3 in
    (d.2.0 + rest.0, (d.0, d.1, raise d.2.0 (d.2.0 + rest.0) free (omega arith) p ts d.0 d.1 d.2.1, reads_map (raise rest.0 (d.2.0 + rest.0) free (omega arith)) (r d.0) d.1 b us rest.1))
joint free (either r s) ts b us (inl d) = let j = joint free r ts b us d in (j.0, inl j.1)
joint free (either r s) ts b us (inr d) = let j = joint free s ts b us d in (j.0, inr j.1)

closes : (depth free : ℕ) (p : Part) (ts : List Lexeme) (x : Value p) (us : List Lexeme) → reads (says depth free) (rule p) ts x us → says (suc depth) free p ts x us
closes depth free (token k) ts x us d = from_all (says depth free) (token k) ts x us d
closes depth free (opens n s) ts x us d = from_all (says depth free) (opens n s) ts x us d
closes depth free (operator rank used) ts x us d = from_all (says depth free) (operator rank used) ts x us d
closes depth free name ts x us d = from_all (says depth free) name ts x us d
closes depth free number ts x us d = from_all (says depth free) number ts x us d
closes depth free count ts x us d = from_all (says depth free) count ts x us d
closes depth free (lined p) ts x us d = grow depth free (lined p) ts x us (from_all (says depth free) (lined p) ts x us d)
closes depth free p ts x us d = d

-- a part says what its production says
pub from_rule : (free : ℕ) (p : Part) (ts : List Lexeme) (x : Value p) (us : List Lexeme) → Reading free (rule p) ts x us → Says free p ts x us
from_rule free p ts x us d = let j = joint free (rule p) ts x us d in (suc j.0, closes j.0 free p ts x us j.1)

opened : (depth free : ℕ) (p : Part) (ts : List Lexeme) (x : Value p) (us : List Lexeme) → says depth free p ts x us → Reading free (rule p) ts x us
opened depth free (token k) ts x us d = to_all (Says free) (token k) ts x us (depth, d)
opened depth free (opens n s) ts x us d = to_all (Says free) (opens n s) ts x us (depth, d)
opened depth free (operator rank used) ts x us d = to_all (Says free) (operator rank used) ts x us (depth, d)
opened depth free name ts x us d = to_all (Says free) name ts x us (depth, d)
opened depth free number ts x us d = to_all (Says free) number ts x us (depth, d)
opened depth free count ts x us d = to_all (Says free) count ts x us (depth, d)
opened zero free p ts x us d = elim d [ ]
opened (suc depth) free (lined p) ts x us d = to_all (Says free) (lined p) ts x us (suc depth, d)
opened (suc depth) free p ts x us d = reads_map {R = says depth free} {S = Says free} (λ q ts x us e. (depth, e)) (rule p) ts x us d

pub to_rule : (free : ℕ) (p : Part) (ts : List Lexeme) (x : Value p) (us : List Lexeme) → Says free p ts x us → Reading free (rule p) ts x us
to_rule free p ts x us d = opened d.0 free p ts x us d.1

-- with its line
pub with_line : (free : ℕ) (p : Part) (ts : List Lexeme) (x : Value p) (us : List Lexeme) → Says free p ts x us → Says free (lined p) ts (line_of ts, x) us
with_line free p ts x us d = (suc d.0, (refl, d.1))

-- ---- one rule, and then another

abbrev pub bind : {A B : Type 0} → Rule A → (A → Rule B) → Rule B
bind (give a) k = k a
bind (part p r) k = part p (λ x. bind (r x) k)
bind (either r s) k = either (bind r k) (bind s k)

pub to_bind : (R : Parts) {A B : Type 0} (r : Rule A) (k : A → Rule B) (ts : List Lexeme) (a : A) (us : List Lexeme) (b : B) (vs : List Lexeme) →
    reads R r ts a us → reads R (k a) us b vs → reads R (bind r k) ts b vs
to_bind R (give a') k ts a us b vs d e = subst (λ y. reads R (k y) ts b vs) d.0 (subst (λ l. reads R (k a) l b vs) d.1 e)
to_bind R (part p r) k ts a us b vs d e = (d.0, d.1, d.2, to_bind R (r d.0) k d.1 a us b vs d.3 e)
to_bind R (either r s) k ts a us b vs (inl d) e = inl (to_bind R r k ts a us b vs d e)
to_bind R (either r s) k ts a us b vs (inr d) e = inr (to_bind R s k ts a us b vs d e)

pub from_bind : (R : Parts) {A B : Type 0} (r : Rule A) (k : A → Rule B) (ts : List Lexeme) (b : B) (vs : List Lexeme) →
    reads R (bind r k) ts b vs → (a : A) × (us : List Lexeme) × reads R r ts a us × reads R (k a) us b vs
from_bind R (give a) k ts b vs d = (a, ts, (refl, refl), d)
from_bind R (part p r) k ts b vs d = let f = from_bind R (r d.0) k d.1 b vs d.3 in (f.0, f.1, (d.0, d.1, d.2, f.2), f.3)
from_bind R (either r s) k ts b vs (inl d) = let f = from_bind R r k ts b vs d in (f.0, f.1, inl f.2, f.3)
from_bind R (either r s) k ts b vs (inr d) = let f = from_bind R s k ts b vs d in (f.0, f.1, inr f.2, f.3)

-- ---- fewer limits

looser : (depth free free' : ℕ) → free ≤ free' → (p : Part) (ts : List Lexeme) (x : Value p) (us : List Lexeme) → says depth free p ts x us → says depth free' p ts x us
looser depth free free' h (token k) ts x us d = d
looser depth free free' h (opens n s) ts x us d = ((λ bound. d.0 (omega (arith, h, bound))), d.1)
looser depth free free' h (operator rank used) ts x us d = ((λ bound. d.0 (omega (arith, h, bound))), d.1)
looser depth free free' h name ts x us d = d
looser depth free free' h number ts x us d = d
looser depth free free' h count ts x us d = d
looser zero free free' h p ts x us d = elim d [ ]
looser (suc depth) free free' h (lined p) ts x us d = (d.0, looser depth free free' h p ts x.1 us d.1)
looser (suc depth) free free' h p ts x us d = reads_map (looser depth free free' h) (rule p) ts x us d

pub loosened : (free free' : ℕ) → free ≤ free' → (p : Part) (ts : List Lexeme) (x : Value p) (us : List Lexeme) → Says free p ts x us → Says free' p ts x us
loosened free free' h p ts x us d = (d.0, looser d.0 free free' h p ts x us d.1)

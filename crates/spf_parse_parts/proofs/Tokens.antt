-- Single tokens.
use Rattle.std.proofs.Common.{◌≡◌, ℕ, suc, ◌<◌, ◌≤◌, Bool, true, false, List, [], ◌∷◌, ◌++◌, length, length-append, refl, sym, ◌∙◌, ap, subst, arith, Some, None, ℤ, pos, Result, Ok, Err}
use Rattle.std.specs.Prelude.{IsTrue, IfOk, IfErr}
use Rattle.std.proofs.lemmas.List.{length-map}
use Rattle.spf_text.specs.declared.token.Sign.{Sign}
use Rattle.spf_text.specs.declared.token.TokenKind.{TokenKind}
use Rattle.spf_text.specs.declared.token.TokenKind.TheVariants as kind
use Rattle.spf_parse_grammar.specs.declared.Lexeme as code
use Rattle.spf_parse_grammar.specs.Lexemes.{Lexeme, lexeme, lexemes}
use Rattle.spf_parse_grammar.specs.Parts.{Part, token, opens, operator, name, number, count, Value, Rule, give, part}
use Rattle.spf_parse_grammar.specs.Rules.{all, rank_of}
use Rattle.spf_parse_grammar.specs.Reading.{line_of}
use Rattle.spf_parse_grammar.specs.Derivations.{Says, Reading}
use Rattle.spf_parse_parts.specs.Answers.{ahead, stop, Leads, Faults, IsRead, Answers, Answered}
use Rattle.spf_parse_grammar.proofs.Derivations.{bind}
use Rattle.spf_parse_parts.specs.declared.fault.Fault.{Fault}
use Rattle.spf_parse_parts.proofs.Follows.{Follows, anything}
use Rattle.spf_parse_parts.proofs.Steps.{start, nothing, go_rule, go0, halt0, halt_rule}
use Rattle.spf_parse_parts.proofs.Completions.{whole}

pub along : {A : Type 0} {n : ℕ} {F G : Rule A} {ts ts' us : List Lexeme} → ts ≡ ts' → Leads n F ts' G us → Leads n F ts G us
along {n = n} {F} {G} {us = us} is p = subst (λ l. Leads n F l G us) (sym is) p

pub along_fails : {A : Type 0} {n : ℕ} {F : Rule A} {ts ts' : List Lexeme} {d : Bool} {left : ℕ} → ts ≡ ts' → Faults d n F ts' left → Faults d n F ts left
along_fails {n = n} {F} {d = d} {left} is p = subst (λ l. Faults d n F l left) (sym is) p

-- a part that takes one token
one_read : (p : Part) (t : Lexeme) (us : List Lexeme) (a : Value p) →
    ((free : ℕ) (k : List Lexeme) → Says free p (t ∷ k) a k) →
    ((free : ℕ) (k : List Lexeme) (x : Value p) (ws : List Lexeme) → Says free p (t ∷ k) x ws → (x ≡ a) × (ws ≡ k)) → IsRead p (t ∷ us) a us
one_read p t us a into only = record {
  read = t ∷ [];
  split = refl;
  into = λ free k b vs g. (a, k, into free k, g);
  only = λ free k b vs same d s. let e = only free k d.0 d.1 d.2 in (d.3.0 ∙ e.0, d.3.1 ∙ e.1);
}

-- a part that can't take the next token
pub none_read : (p : Part) (us : List Lexeme) → IsTrue (whole (all p)) →
    ((free : ℕ) (k : List Lexeme) (x : Value p) (ws : List Lexeme) → ahead k ≡ ahead us → Says free p k x ws → ⊥) → Faults false (stop p) (all p) us (length us)
none_read p us w never = nothing {F = all p} (all p) w (λ free k b vs same d s. never free k d.0 d.1 same d.2) start

pub token_read : (k : TokenKind) (t : Lexeme) (us : List Lexeme) → t.kind ≡ k → IsRead (token k) (t ∷ us) t.line us
token_read k t us is = one_read (token k) t us t.line (λ free l. (0, ((is, refl), refl))) (λ free l x ws d. (d.1.0.1, d.1.1))

token_never : (w : TokenKind) (us : List Lexeme) → (ahead us ≡ Some w → ⊥) → (free : ℕ) (k : List Lexeme) (x : ℕ) (ws : List Lexeme) → ahead k ≡ ahead us → Says free (token w) k x ws → ⊥
token_never w us never free [] x ws same d = elim d.1 [ ]
token_never w us never free (t ∷ k) x ws same d = never (sym same ∙ ap Some d.1.0.0)

pub token_none : (w : TokenKind) (us : List Lexeme) → (ahead us ≡ Some w → ⊥) → Faults false 0 (all (token w)) us (length us)
token_none w us never = none_read (token w) us refl (token_never w us never)

pub opening_read : (n : ℕ) (s : Sign) (t : Lexeme) (us : List Lexeme) → t.kind ≡ kind.Sign s → n < 64 → IsRead (opens n s) (t ∷ us) tt us
opening_read n s t us is below = one_read (opens n s) t us tt (λ free l. (0, ((λ bound. below), (is, refl)))) (λ free l x ws d. (refl, d.1.1.1))

opening_never : (n : ℕ) (s : Sign) (us : List Lexeme) → (ahead us ≡ Some (kind.Sign s) → ⊥) → (free : ℕ) (k : List Lexeme) (x : Value (opens n s)) (ws : List Lexeme) → ahead k ≡ ahead us → Says free (opens n s) k x ws → ⊥
opening_never n s us never free [] x ws same d = elim d.1.1 [ ]
opening_never n s us never free (t ∷ k) x ws same d = never (sym same ∙ ap Some d.1.1.0)

pub opening_none : (n : ℕ) (s : Sign) (us : List Lexeme) → (ahead us ≡ Some (kind.Sign s) → ⊥) → Faults false 0 (all (opens n s)) us (length us)
opening_none n s us never = none_read (opens n s) us refl (opening_never n s us never)

opening_dead : (n : ℕ) (s : Sign) (t : Lexeme) (us : List Lexeme) → 64 ≤ n → (free : ℕ) (k : List Lexeme) (b : Value (opens n s)) (vs : List Lexeme) → free < length k → Reading free (all (opens n s)) k b vs → ⊥
opening_dead n s t us full free [] b vs binds d = elim d.2.1.1 [ ]
opening_dead n s t us full free (u ∷ k) b vs binds d = let below : n < 64 = d.2.1.0 binds in omega (arith, below, full)

pub opening_deep : (n : ℕ) (s : Sign) (t : Lexeme) (us : List Lexeme) → t.kind ≡ kind.Sign s → 64 ≤ n → Faults true 0 (all (opens n s)) (t ∷ us) (suc (length us))
opening_deep n s t us is full = record {
  read = [];
  rest = t ∷ us;
  split = refl;
  left_is = refl;
  more = t ∷ [];
  value = tt;
  begins = (t, us, [], refl, refl);
  viable = λ free k room. (tt, k, (0, ((λ bound. absurd (omega (arith, room, bound))), (is, refl))), (refl, refl));
  dead = λ free k b vs binds same x stopped. opening_dead n s t us full free k b vs binds x;
}

pub name_read : (t : Lexeme) (us : List Lexeme) → t.kind ≡ kind.Name → IsRead name (t ∷ us) t.bytes us
name_read t us is = one_read name t us t.bytes (λ free l. (0, ((is, refl), refl))) (λ free l x ws d. (d.1.0.1, d.1.1))

name_never : (us : List Lexeme) → (ahead us ≡ Some kind.Name → ⊥) → (free : ℕ) (k : List Lexeme) (x : List ℕ) (ws : List Lexeme) → ahead k ≡ ahead us → Says free name k x ws → ⊥
name_never us never free [] x ws same d = elim d.1 [ ]
name_never us never free (t ∷ k) x ws same d = never (sym same ∙ ap Some d.1.0.0)

pub name_none : (us : List Lexeme) → (ahead us ≡ Some kind.Name → ⊥) → Faults false 0 (all name) us (length us)
name_none us never = none_read name us refl (name_never us never)

number_same : (m n : ℤ) → kind.Number m ≡ kind.Number n → m ≡ n
number_same m n h = cc

pub number_read : (n : ℤ) (t : Lexeme) (us : List Lexeme) → t.kind ≡ kind.Number n → IsRead number (t ∷ us) n us
number_read n t us is = one_read number t us n (λ free l. (0, (is, refl))) (λ free l x ws d. (number_same x n (sym d.1.0 ∙ is), d.1.1))

number_never : (us : List Lexeme) → ((n : ℤ) → ahead us ≡ Some (kind.Number n) → ⊥) → (free : ℕ) (k : List Lexeme) (x : ℤ) (ws : List Lexeme) → ahead k ≡ ahead us → Says free number k x ws → ⊥
number_never us never free [] x ws same d = elim d.1 [ ]
number_never us never free (t ∷ k) x ws same d = never x (sym same ∙ ap Some d.1.0)

pub number_none : (us : List Lexeme) → ((n : ℤ) → ahead us ≡ Some (kind.Number n) → ⊥) → Faults false 0 (all number) us (length us)
number_none us never = none_read number us refl (number_never us never)

pos_same : (m n : ℕ) → pos m ≡ pos n → m ≡ n
pos_same m n h = cc

pub count_read : (n : ℕ) (t : Lexeme) (us : List Lexeme) → t.kind ≡ kind.Number (pos n) → IsRead count (t ∷ us) n us
count_read n t us is = one_read count t us n (λ free l. (0, (is, refl))) (λ free l x ws d. (pos_same x n (number_same (pos x) (pos n) (sym d.1.0 ∙ is)), d.1.1))

count_never : (us : List Lexeme) → ((n : ℕ) → ahead us ≡ Some (kind.Number (pos n)) → ⊥) → (free : ℕ) (k : List Lexeme) (x : ℕ) (ws : List Lexeme) → ahead k ≡ ahead us → Says free count k x ws → ⊥
count_never us never free [] x ws same d = elim d.1 [ ]
count_never us never free (t ∷ k) x ws same d = never x (sym same ∙ ap Some d.1.0)

pub count_none : (us : List Lexeme) → ((n : ℕ) → ahead us ≡ Some (kind.Number (pos n)) → ⊥) → Faults false 0 (all count) us (length us)
count_none us never = none_read count us refl (count_never us never)

-- ---- of the code's lexemes

module _ (ts : List code.Lexeme) (t : code.Lexeme) (us : List code.Lexeme) (split : ts ≡ t ∷ us) where
  pub seen_split : lexemes ts ≡ lexeme t ∷ lexemes us
  seen_split = ap lexemes split

  pub seen_ahead : ahead (lexemes ts) ≡ Some t.kind
  seen_ahead = ap ahead seen_split

  pub seen_line : line_of (lexemes ts) ≡ t.line
  seen_line = ap line_of seen_split

  pub next_token : (k : TokenKind) → t.kind ≡ k → (ahead (lexemes ts) ≡ Some k) × IsRead (token k) (lexemes ts) (line_of (lexemes ts)) (lexemes us)
  next_token k is = (seen_ahead ∙ ap Some is, subst (λ n. IsRead (token k) (lexemes ts) n (lexemes us)) (sym seen_line) (along seen_split (token_read k (lexeme t) (lexemes us) is)))

pub seen_length : (ts : List code.Lexeme) → length (lexemes ts) ≡ length ts
seen_length ts = length-map ts lexeme

pub length_fails : {A : Type 0} {d : Bool} {n : ℕ} {F : Rule A} (ts us : List code.Lexeme) → Faults d n F (lexemes ts) (length (lexemes us)) → Faults d n F (lexemes ts) (length us)
length_fails {d = d} {n} {F} ts us f = subst (λ l. Faults d n F (lexemes ts) l) (seen_length us) f

pub empty_is : (ts : List code.Lexeme) → length ts ≡ 0 → ts ≡ []
empty_is [] e = refl
empty_is (t ∷ ts) e = absurd (omega (arith, e))

-- where no token is left
pub end_fails : {A : Type 0} {d : Bool} {n : ℕ} {F : Rule A} (ts : List code.Lexeme) → length ts ≡ 0 → Faults d n F [] 0 → Faults d n F (lexemes ts) 0
end_fails {d = d} {n} {F} ts e f = subst (λ l. Faults d n F (lexemes l) 0) (sym (empty_is ts e)) f

nothing_ahead : (w : TokenKind) → ahead [] ≡ Some w → ⊥
nothing_ahead w h = cc

some_same : (v w : TokenKind) → Some v ≡ Some w → v ≡ w
some_same v w h = cc

pub number_end : Faults false 0 (all number) [] 0
number_end = number_none [] (λ n h. nothing_ahead (kind.Number n) h)

pub count_end : Faults false 0 (all count) [] 0
count_end = count_none [] (λ n h. nothing_ahead (kind.Number (pos n)) h)

pub name_end : Faults false 0 (all name) [] 0
name_end = name_none [] (λ h. nothing_ahead kind.Name h)

module _ (ts : List code.Lexeme) (t : code.Lexeme) (us : List code.Lexeme) (split : ts ≡ t ∷ us) where
  kind_ahead : (w : TokenKind) → ahead (lexemes ts) ≡ Some w → t.kind ≡ w
  kind_ahead w h = some_same t.kind w (sym (seen_ahead ts t us split) ∙ h)

  pub number_other : ((n : ℤ) → t.kind ≡ kind.Number n → ⊥) → Faults false 0 (all number) (lexemes ts) (length ts)
  number_other never = length_fails ts ts (number_none (lexemes ts) (λ n h. never n (kind_ahead (kind.Number n) h)))

  pub count_other : ((n : ℕ) → t.kind ≡ kind.Number (pos n) → ⊥) → Faults false 0 (all count) (lexemes ts) (length ts)
  count_other never = length_fails ts ts (count_none (lexemes ts) (λ n h. never n (kind_ahead (kind.Number (pos n)) h)))

  pub name_other : (t.kind ≡ kind.Name → ⊥) → Faults false 0 (all name) (lexemes ts) (length ts)
  name_other never = length_fails ts ts (name_none (lexemes ts) (λ h. never (kind_ahead kind.Name h)))

  pub number_next : (n : ℤ) → t.kind ≡ kind.Number n → IsRead number (lexemes ts) n (lexemes us)
  number_next n is = along (seen_split ts t us split) (number_read n (lexeme t) (lexemes us) is)

  pub count_next : (n : ℕ) → t.kind ≡ kind.Number (pos n) → IsRead count (lexemes ts) n (lexemes us)
  count_next n is = along (seen_split ts t us split) (count_read n (lexeme t) (lexemes us) is)

  pub name_next : t.kind ≡ kind.Name → IsRead name (lexemes ts) t.bytes.now (lexemes us)
  name_next is = along (seen_split ts t us split) (name_read (lexeme t) (lexemes us) is)

  pub opening_next : (n : ℕ) (s : Sign) → t.kind ≡ kind.Sign s → n < 64 → IsRead (opens n s) (lexemes ts) tt (lexemes us)
  opening_next n s is below = along (seen_split ts t us split) (opening_read n s (lexeme t) (lexemes us) is below)

  pub opening_over : (n : ℕ) (s : Sign) → t.kind ≡ kind.Sign s → 64 ≤ n → Faults true 0 (all (opens n s)) (lexemes ts) (length ts)
  opening_over n s is full = length_fails ts ts (subst (λ l. Faults true 0 (all (opens n s)) l (length l)) (sym (seen_split ts t us split)) (opening_deep n s (lexeme t) (lexemes us) is full))

-- ---- operators

sign_same : (v w : Sign) → kind.Sign v ≡ kind.Sign w → v ≡ w
sign_same v w h = cc

operator_read : (rank used : ℕ) (s : Sign) (t : Lexeme) (us : List Lexeme) → t.kind ≡ kind.Sign s → rank_of s ≡ rank → used < 32 → IsRead (operator rank used) (t ∷ us) s us
operator_read rank used s t us is r below = one_read (operator rank used) t us s (λ free l. (0, ((λ bound. below), ((is, r), refl)))) (λ free l x ws d. (sign_same x s (sym d.1.1.0.0 ∙ is), d.1.1.1))

operator_dead : (rank used : ℕ) → 32 ≤ used → (free : ℕ) (k : List Lexeme) (b : Sign) (vs : List Lexeme) → free < length k → Reading free (all (operator rank used)) k b vs → ⊥
operator_dead rank used full free [] b vs binds d = elim d.2.1.1 [ ]
operator_dead rank used full free (u ∷ k) b vs binds d = let below : used < 32 = d.2.1.0 binds in omega (arith, below, full)

operator_deep : (rank used : ℕ) (s : Sign) (t : Lexeme) (us : List Lexeme) → t.kind ≡ kind.Sign s → rank_of s ≡ rank → 32 ≤ used → Faults true 0 (all (operator rank used)) (t ∷ us) (suc (length us))
operator_deep rank used s t us is r full = record {
  read = [];
  rest = t ∷ us;
  split = refl;
  left_is = refl;
  more = t ∷ [];
  value = s;
  begins = (t, us, [], refl, refl);
  viable = λ free k room. (s, k, (0, ((λ bound. absurd (omega (arith, room, bound))), ((is, r), refl))), (refl, refl));
  dead = λ free k b vs binds same x stopped. operator_dead rank used full free k b vs binds x;
}

module _ (ts : List code.Lexeme) (t : code.Lexeme) (us : List code.Lexeme) (split : ts ≡ t ∷ us) where
  pub operator_next : (rank used : ℕ) (s : Sign) → t.kind ≡ kind.Sign s → rank_of s ≡ rank → used < 32 → IsRead (operator rank used) (lexemes ts) s (lexemes us)
  operator_next rank used s is r below = along (seen_split ts t us split) (operator_read rank used s (lexeme t) (lexemes us) is r below)

  pub operator_over : (rank used : ℕ) (s : Sign) → t.kind ≡ kind.Sign s → rank_of s ≡ rank → 32 ≤ used → Faults true 0 (all (operator rank used)) (lexemes ts) (length ts)
  operator_over rank used s is r full = length_fails ts ts (subst (λ l. Faults true 0 (all (operator rank used)) l (length l)) (sym (seen_split ts t us split)) (operator_deep rank used s (lexeme t) (lexemes us) is r full))

  pub shorter : length us < length ts
  shorter = omega (arith, ap length split)

-- what is read isn't longer than what there is
pub not_longer : {A : Type 0} {n : ℕ} {F G : Rule A} (ts us : List code.Lexeme) → Leads n F (lexemes ts) G (lexemes us) → length us ≤ length ts
not_longer ts us p = omega (arith, ap length p.split, length-append p.read (lexemes us), seen_length ts, seen_length us)

-- what can't be empty takes a token
pub takes : (p : Part) (ts us : List code.Lexeme) (x : Value p) → ((y : Value p) (ws : List Lexeme) → Says 0 p [] y ws → ⊥) → IsRead p (lexemes ts) x (lexemes us) → length us < length ts
takes p ts us x never l = some_read l.read refl
  where
    some_read : (r : List Lexeme) → l.read ≡ r → length us < length ts
    some_read [] is = let e = l.into 0 [] x [] (refl, refl) in let f = subst (λ r. Reading 0 (all p) (r ++ []) x []) is e in absurd (never f.0 f.1 f.2)
    some_read (t ∷ r) is = omega (arith, ap length l.split, ap length is, length-append l.read (lexemes us), seen_length ts, seen_length us)

pub ahead_none : (us : List code.Lexeme) → ahead (lexemes us) ≡ None → length us ≡ 0
ahead_none [] h = refl
ahead_none (t ∷ us) h = let f : Some t.kind ≡ None = h in absurd cc

pub none_fails : {A : Type 0} {d : Bool} {n : ℕ} {F : Rule A} (us : List code.Lexeme) → ahead (lexemes us) ≡ None → Faults d n F (lexemes us) (length (lexemes us)) → Faults d n F (lexemes us) 0
none_fails {d = d} {n} {F} us h f = subst (λ l. Faults d n F (lexemes us) l) (seen_length us ∙ ahead_none us h) f

-- ---- what was read, and one token

-- the rule, and this token after it
abbrev pub then_token : {A : Type 0} → Rule A → TokenKind → Rule A
then_token R w = bind R (λ a. part (token w) (λ l. give a))

pub followed_by : {X T A : Type 0} {m : ℕ} (R : Rule A) (ts : List Lexeme) (read result : Result X Fault) (w : TokenKind) (key : X → T) (value : T → A) (rest : X → List Lexeme) →
    ((x : A) → Follows m 0 (part (token w) (λ l. give x))) → IfErr read (λ why. result ≡ Err why) → IfOk read (λ x. IfOk result (λ y. key y ≡ key x)) →
    IfOk read (λ x. Answers (token w) (rest x) (λ y. line_of (rest x)) rest result) → Answered m R ts (λ x. value (key x)) rest read → Answered 0 (then_token R w) ts (λ x. value (key x)) rest result
followed_by R ts (Ok x) (Ok y) w key value rest f e k t a =
    subst (λ b. Leads 0 (then_token R w) ts (give b) (rest y)) (sym (ap value k)) (go0 refl (go_rule (λ a. part (token w) (λ l. give a)) f (start {n = 0} {F = then_token R w}) a) t)
followed_by R ts (Ok x) (Err why) w key value rest f e k t a =
    halt0 why refl (λ x. refl) (go_rule (λ a. part (token w) (λ l. give a)) f (start {n = 0} {F = then_token R w}) a) t
followed_by {m = m} R ts (Err why) result w key value rest f e k t a =
    subst (Answered 0 (then_token R w) ts (λ x. value (key x)) rest) (sym e) (halt_rule m R (λ a. part (token w) (λ l. give a)) why f (λ x. refl) (start {n = 0} {F = then_token R w}) a)

-- where it is read up to level 0
pub followed_by0 : {X T A : Type 0} (R : Rule A) (ts : List Lexeme) (read result : Result X Fault) (w : TokenKind) (key : X → T) (value : T → A) (rest : X → List Lexeme) →
    IfErr read (λ why. result ≡ Err why) → IfOk read (λ x. IfOk result (λ y. key y ≡ key x)) →
    IfOk read (λ x. Answers (token w) (rest x) (λ y. line_of (rest x)) rest result) → Answered 0 R ts (λ x. value (key x)) rest read → Answered 0 (then_token R w) ts (λ x. value (key x)) rest result
followed_by0 R ts read result w key value rest e k t a =
    followed_by {m = 0} R ts read result w key value rest (λ x. anything 0 (part (token w) (λ l. give x))) e k t a

-- How readings follow one another.
use Rattle.std.proofs.Common.{◌≡◌, ℕ, ◌<◌, ◌≤◌, Bool, true, false, List, [], ◌∷◌, ◌++◌, length, refl, sym, ◌∙◌, ap, subst, append_assoc, length-append, arith, Option, Result, Ok, Err, inl, inr}
use Rattle.std.specs.Prelude.{IsTrue, if◌then◌else◌}
use Rattle.spf_text.specs.declared.token.TokenKind.{TokenKind}
use Rattle.spf_parse_parts.specs.declared.fault.Fault.{Fault}
use Rattle.spf_parse_parts.specs.declared.fault.Fault.TheVariants as fault
use Rattle.spf_parse_grammar.specs.Lexemes.{Lexeme}
use Rattle.spf_parse_grammar.specs.Parts.{Part, Value, Rule, give, part, either}
use Rattle.spf_parse_grammar.specs.Rules.{all, rule}
use Rattle.spf_parse_grammar.specs.Derivations.{Says, Reading}
use Rattle.spf_parse_parts.specs.Answers.{ahead, Stops, stop, Leads, Faults, Begins, Refuses, Answered, IsRead}
use Rattle.spf_parse_grammar.proofs.Derivations.{bind, to_bind, from_bind, from_rule, to_rule}
use Rattle.spf_parse_parts.proofs.Beginnings.{may, may_is, begins, begins_is}
use Rattle.spf_parse_parts.proofs.Follows.{Follows, until, anything}
use Rattle.spf_parse_parts.proofs.Completions.{whole, complete}

pub ahead-append : (r k us : List Lexeme) → ahead k ≡ ahead us → ahead (r ++ k) ≡ ahead (r ++ us)
ahead-append [] k us e = e
ahead-append (t ∷ r) k us e = refl

begins-append : (d : Bool) (rest more c : List Lexeme) → Begins d rest more → Begins d rest (more ++ c)
begins-append true rest more c h = (h.0, h.1, h.2 ++ c, h.3, ap (λ l. l ++ c) h.4)
begins-append false rest more c h = tt

-- ---- any readings

-- what F says, F says
pub start : {A : Type 0} {n : ℕ} {F : Rule A} {ts : List Lexeme} → Leads n F ts F ts
start = record { read = []; split = refl; into = λ free k b vs g. g; only = λ free k b vs same d s. d }

-- one reading after another
pub follow : {A : Type 0} {n : ℕ} {F G H : Rule A} {ts us vs : List Lexeme} → Leads n F ts G us → Leads n G us H vs → Leads n F ts H vs
follow {A} {n} {F} {G} {H} {ts} {us} {vs} p q = record {
  read = p.read ++ q.read;
  split = p.split ∙ ap (λ l. p.read ++ l) q.split ∙ sym (append_assoc p.read q.read vs);
  into = λ free k b ws g. subst (λ l. Reading free F l b ws) (sym (append_assoc p.read q.read k)) (p.into free (q.read ++ k) b ws (q.into free k b ws g));
  only = λ free k b ws same d s.
      q.only free k b ws same
      (p.only free (q.read ++ k) b ws (ahead-append q.read k vs same ∙ ap ahead (sym q.split))
      (subst (λ l. Reading free F l b ws) (append_assoc p.read q.read k) d) s)
      s;
}

pub fails : {A : Type 0} {n : ℕ} {F G : Rule A} {ts us : List Lexeme} {d : Bool} {left : ℕ} → Leads n F ts G us → Faults d n G us left → Faults d n F ts left
fails {A} {n} {F} {G} {ts} {us} p q = record {
  read = p.read ++ q.read;
  rest = q.rest;
  split = p.split ∙ ap (λ l. p.read ++ l) q.split ∙ sym (append_assoc p.read q.read q.rest);
  left_is = q.left_is;
  more = q.more;
  value = q.value;
  begins = q.begins;
  viable = λ free k room.
      subst (λ l. Reading free F l q.value k) (sym (append_assoc p.read q.read (q.more ++ k)))
      (p.into free (q.read ++ (q.more ++ k)) q.value k (q.viable free k room));
  dead = λ free k b ws binds same x s.
      q.dead free k b ws binds same
      (p.only free (q.read ++ k) b ws (ahead-append q.read k q.rest same ∙ ap ahead (sym q.split))
      (subst (λ l. Reading free F l b ws) (append_assoc p.read q.read k) x) s)
      s;
}

-- a rule, and what comes after it
after_rule : {A B : Type 0} {m n : ℕ} {R : Rule A} (K : A → Rule B) {us vs : List Lexeme} {a : A} →
    ((x : A) → Follows m n (K x)) → Leads m R us (give a) vs → Leads n (bind R K) us (K a) vs
after_rule {A} {B} {m} {n} {R} K {us} {vs} {a} f p = record {
  read = p.read;
  split = p.split;
  into = λ free k b ws g. to_bind (Says free) R K (p.read ++ k) a k b ws (p.into free k a k (refl, refl)) g;
  only = λ free k b ws same d s.
      let e = from_bind (Says free) R K (p.read ++ k) b ws d in
      let r : (e.0 ≡ a) × (e.1 ≡ k) = p.only free k e.0 e.1 same e.2 (until m n free (K e.0) (f e.0) e.1 b ws e.3 s) in
      subst (λ x. Reading free (K x) k b ws) r.0 (subst (λ l. Reading free (K e.0) l b ws) r.1 e.3);
}

in_rule : {A B : Type 0} {m n : ℕ} {R : Rule A} (K : A → Rule B) {us : List Lexeme} {d : Bool} {left : ℕ} →
    ((x : A) → Follows m n (K x)) → ((x : A) → IsTrue (whole (K x))) → Faults d m R us left → Faults d n (bind R K) us left
in_rule {A} {B} {m} {n} {R} K {us} {d} {left} f w p = let c = complete (K p.value) (w p.value) in record {
  read = p.read;
  rest = p.rest;
  split = p.split;
  left_is = p.left_is;
  more = p.more ++ c.more;
  value = c.value;
  begins = begins-append d p.rest p.more c.more p.begins;
  viable = λ free k room.
      let room' : length (p.more ++ (c.more ++ k)) ≤ free = subst (λ l. length l ≤ free) (append_assoc p.more c.more k) room in
      to_bind (Says free) R K (p.read ++ ((p.more ++ c.more) ++ k)) p.value (c.more ++ k) c.value k
      (subst (λ l. Reading free R (p.read ++ l) p.value (c.more ++ k)) (sym (append_assoc p.more c.more k)) (p.viable free (c.more ++ k) room'))
      (c.viable free k (omega (arith, length-append p.more (c.more ++ k), room')));
  dead = λ free k b ws binds same x s.
      let e = from_bind (Says free) R K (p.read ++ k) b ws x in
      p.dead free k e.0 e.1 binds same e.2 (until m n free (K e.0) (f e.0) e.1 b ws e.3 s);
}

-- ---- by what was read, and what is answered next

-- a part that is read
pub go : {B : Type 0} {n : ℕ} {F : Rule B} {ts us vs : List Lexeme} {p : Part} {K : Value p → Rule B} {a : Value p} →
    ((x : Value p) → Follows (stop p) n (K x)) → Leads n F ts (part p K) us → IsRead p us a vs → Leads n F ts (K a) vs
go {K = K} f l p = follow l (after_rule K f p)

-- a part that isn't
pub halt : {B : Type 0} {n : ℕ} {F : Rule B} {ts us : List Lexeme} {p : Part} {K : Value p → Rule B} (why : Fault) →
    ((x : Value p) → Follows (stop p) n (K x)) → ((x : Value p) → IsTrue (whole (K x))) → Leads n F ts (part p K) us → Refuses (stop p) (all p) us why → Refuses n F ts why
halt {K = K} (fault.Unexpected left) f w l p = fails l (in_rule K f w p)
halt {K = K} (fault.TooDeep left) f w l p = fails l (in_rule K f w p)
halt fault.OutOfMemory f w l p = tt

-- a rule that is read, and one that isn't
pub go_rule : {A B : Type 0} {m n : ℕ} {F : Rule B} {ts us vs : List Lexeme} {R : Rule A} {a : A} (K : A → Rule B) →
    ((x : A) → Follows m n (K x)) → Leads n F ts (bind R K) us → Leads m R us (give a) vs → Leads n F ts (K a) vs
go_rule K f l p = follow l (after_rule K f p)

pub halt_rule : {A B : Type 0} (m : ℕ) {n : ℕ} {F : Rule B} {ts us : List Lexeme} (R : Rule A) (K : A → Rule B) (why : Fault) →
    ((x : A) → Follows m n (K x)) → ((x : A) → IsTrue (whole (K x))) → Leads n F ts (bind R K) us → Refuses m R us why → Refuses n F ts why
halt_rule m R K (fault.Unexpected left) f w l p = fails l (in_rule K f w p)
halt_rule m R K (fault.TooDeep left) f w l p = fails l (in_rule K f w p)
halt_rule m R K fault.OutOfMemory f w l p = tt

-- where the part or the rule is read up to level 0
pub go0 : {B : Type 0} {n : ℕ} {F : Rule B} {ts us vs : List Lexeme} {p : Part} {K : Value p → Rule B} {a : Value p} →
    stop p ≡ 0 → Leads n F ts (part p K) us → IsRead p us a vs → Leads n F ts (K a) vs
go0 {n = n} {K = K} e l p = go (λ x. subst (λ m. Follows m n (K x)) (sym e) (anything n (K x))) l p

pub halt0 : {B : Type 0} {n : ℕ} {F : Rule B} {ts us : List Lexeme} {p : Part} {K : Value p → Rule B} (why : Fault) →
    stop p ≡ 0 → ((x : Value p) → IsTrue (whole (K x))) → Leads n F ts (part p K) us → Refuses (stop p) (all p) us why → Refuses n F ts why
halt0 {n = n} {K = K} why e w l p = halt why (λ x. subst (λ m. Follows m n (K x)) (sym e) (anything n (K x))) w l p

pub go_rule0 : {A B : Type 0} {n : ℕ} {F : Rule B} {ts us vs : List Lexeme} {a : A} (R : Rule A) (K : A → Rule B) → Leads n F ts (bind R K) us → Leads 0 R us (give a) vs → Leads n F ts (K a) vs
go_rule0 {n = n} R K l p = go_rule K (λ x. anything n (K x)) l p

pub halt_rule0 : {A B : Type 0} {n : ℕ} {F : Rule B} {ts us : List Lexeme} (R : Rule A) (K : A → Rule B) (why : Fault) →
    ((x : A) → IsTrue (whole (K x))) → Leads n F ts (bind R K) us → Refuses 0 R us why → Refuses n F ts why
halt_rule0 {n = n} R K why w l p = halt_rule 0 R K why (λ x. anything n (K x)) w l p

-- a part by its production
pub unfold_part : {B : Type 0} {n : ℕ} {F : Rule B} {ts us : List Lexeme} (p : Part) (K : Value p → Rule B) → Leads n F ts (part p K) us → Leads n F ts (bind (rule p) K) us
unfold_part {n = n} {F} {ts} {us} p K l = follow l (record {
  read = [];
  split = refl;
  into = λ free k b vs g. let e = from_bind (Says free) (rule p) K k b vs g in (e.0, e.1, from_rule free p k e.0 e.1 e.2, e.3);
  only = λ free k b vs same d s. to_bind (Says free) (rule p) K k d.0 d.1 b vs (to_rule free p k d.0 d.1 d.2) d.3;
})

-- ---- which alternative it is

-- one of two, where the other can't begin so
pub not_second : {A : Type 0} {n : ℕ} {F R S : Rule A} {ts us : List Lexeme} →
    ((free : ℕ) (k : List Lexeme) (b : A) (vs : List Lexeme) → ahead k ≡ ahead us → Reading free S k b vs → Stops n vs → ⊥) → Leads n F ts (either R S) us → Leads n F ts R us
not_second never l = follow l (record {
  read = [];
  split = refl;
  into = λ free k b vs g. inl g;
  only = λ free k b vs same d s. elim d [ inl x ↦ x | inr y ↦ absurd (never free k b vs same y s) ];
})

pub not_first : {A : Type 0} {n : ℕ} {F R S : Rule A} {ts us : List Lexeme} →
    ((free : ℕ) (k : List Lexeme) (b : A) (vs : List Lexeme) → ahead k ≡ ahead us → Reading free R k b vs → Stops n vs → ⊥) → Leads n F ts (either R S) us → Leads n F ts S us
not_first never l = follow l (record {
  read = [];
  split = refl;
  into = λ free k b vs g. inr g;
  only = λ free k b vs same d s. elim d [ inl x ↦ absurd (never free k b vs same x s) | inr y ↦ y ];
})

-- how many productions deep the first tokens are looked for
abbrev pub fuel : ℕ
fuel = 14

abbrev pub can : {A : Type 0} → ℕ → Rule A → Option TokenKind → Bool
can n r w = may (begins fuel) n r w

pub cannot : {A : Type 0} (n : ℕ) (r : Rule A) (w : Option TokenKind) (us : List Lexeme) → ahead us ≡ w → can n r w ≡ false →
    (free : ℕ) (k : List Lexeme) (b : A) (vs : List Lexeme) → ahead k ≡ ahead us → Reading free r k b vs → Stops n vs → ⊥
cannot n r w us is never free k b vs same d s =
    let yes : can n r (ahead k) ≡ true = may_is (begins fuel) free n (λ p k x us. begins_is fuel free p k x us) r k b vs d s in
    let yes' : can n r w ≡ true = subst (λ v. can n r v ≡ true) (same ∙ is) yes in
    let clash : false ≡ true = sym never ∙ yes' in
    absurd cc

-- without the alternatives that can't begin with the next token
abbrev pub pick : {A : Type 0} → ℕ → Option TokenKind → Rule A → Rule A
pick n w (either r s) = if can n s w then (if can n r w then either r s else pick n w s) else pick n w r
pick n w (give a) = give a
pick n w (part p r) = part p r

picked : {A : Type 0} {n : ℕ} {F : Rule A} {ts us : List Lexeme} (w : Option TokenKind) → ahead us ≡ w → (r s : Rule A) →
    (Leads n F ts r us → Leads n F ts (pick n w r) us) → (Leads n F ts s us → Leads n F ts (pick n w s) us) → Leads n F ts (either r s) us →
    (a b : Bool) → can n r w ≡ a → can n s w ≡ b → Leads n F ts (if b then (if a then either r s else pick n w s) else pick n w r) us
picked w is r s f g l true true e h = l
picked {n = n} {us = us} w is r s f g l false true e h = g (not_first (cannot n r w us is e) l)
picked {n = n} {us = us} w is r s f g l a false e h = f (not_second (cannot n s w us is h) l)

pub decide : {A : Type 0} {n : ℕ} {F : Rule A} {ts us : List Lexeme} (w : Option TokenKind) → ahead us ≡ w → (r : Rule A) → Leads n F ts r us → Leads n F ts (pick n w r) us
decide w is (give a) l = l
decide w is (part p r) l = l
decide {n = n} w is (either r s) l = picked w is r s (decide w is r) (decide w is s) l (can n r w) (can n s w) refl refl

-- nothing begins with the next token
pub nothing : {A : Type 0} {n : ℕ} {F : Rule A} {ts us : List Lexeme} (r : Rule A) → IsTrue (whole r) →
    ((free : ℕ) (k : List Lexeme) (b : A) (vs : List Lexeme) → ahead k ≡ ahead us → Reading free r k b vs → Stops n vs → ⊥) → Leads n F ts r us → Faults false n F ts (length us)
nothing {us = us} r w never l = let c = complete r w in fails l (record {
  read = [];
  rest = us;
  split = refl;
  left_is = refl;
  more = c.more;
  value = c.value;
  begins = tt;
  viable = λ free k room. c.viable free k room;
  dead = λ free k b vs binds same x s. never free k b vs same x s;
})

-- ---- levels

pub weaker : {A : Type 0} {m n : ℕ} {F G : Rule A} {ts us : List Lexeme} → ((vs : List Lexeme) → Stops n vs → Stops m vs) → Leads m F ts G us → Leads n F ts G us
weaker h p = record { read = p.read; split = p.split; into = p.into; only = λ free k b vs same d s. p.only free k b vs same d (h vs s) }

pub weaker_fails : {A : Type 0} {m n : ℕ} {F : Rule A} {ts : List Lexeme} {d : Bool} {left : ℕ} → ((vs : List Lexeme) → Stops n vs → Stops m vs) → Faults d m F ts left → Faults d n F ts left
weaker_fails h p = record { read = p.read; rest = p.rest; split = p.split; left_is = p.left_is; more = p.more; value = p.value; begins = p.begins; viable = p.viable; dead = λ free k b vs binds same x s. p.dead free k b vs binds same x (h vs s) }

-- what is answered for what is left is answered for the whole
pub through : {X A : Type 0} {n : ℕ} {F G : Rule A} {ts us : List Lexeme} (value : X → A) (rest : X → List Lexeme) (r : Result X Fault) → Leads n F ts G us → Answered n G us value rest r → Answered n F ts value rest r
through value rest (Ok x) l a = follow l a
through value rest (Err (fault.Unexpected left)) l a = fails l a
through value rest (Err (fault.TooDeep left)) l a = fails l a
through value rest (Err fault.OutOfMemory) l a = tt

-- and so where a rule is all that is left
pub through_rule : {X A : Type 0} {m n : ℕ} {F : Rule A} {ts us : List Lexeme} (R : Rule A) (value : X → A) (rest : X → List Lexeme) (r : Result X Fault) → m ≤ n → Leads n F ts (bind R (λ x. give x)) us → Answered m R us value rest r → Answered n F ts value rest r
through_rule R value rest (Ok x) h l a = go_rule (λ x. give x) (λ x. h) l a
through_rule {m = m} R value rest (Err why) h l a = halt_rule m R (λ x. give x) why (λ x. h) (λ x. refl) l a

-- a part that can't begin with the next token
pub refuse : (p : Part) (w : Option TokenKind) (us : List Lexeme) → ahead us ≡ w → IsTrue (whole (bind (rule p) (λ x. give x))) → can (stop p) (bind (rule p) (λ x. give x)) w ≡ false → Faults false (stop p) (all p) us (length us)
refuse p w us is c never = nothing (bind (rule p) (λ x. give x)) c (cannot (stop p) (bind (rule p) (λ x. give x)) w us is never) (unfold_part p (λ x. give x) start)

-- what stops what
pub ten_fourteen : 10 < 14
ten_fourteen = omega arith

pub twelve_fourteen : 12 < 14
twelve_fourteen = omega arith

pub eleven_eleven : 11 ≤ 11
eleven_eleven = omega arith

pub eleven_twelve : 11 < 12
eleven_twelve = omega arith

pub below_twelve : 11 ≤ 12
below_twelve = omega arith

pub ten_ten : 10 ≤ 10
ten_ten = omega arith

pub three_fourteen : 3 < 14
three_fourteen = omega arith

pub twelve_thirteen : 12 < 13
twelve_thirteen = omega arith

pub thirteen_fourteen : 13 < 14
thirteen_fourteen = omega arith

-- What is answered about a text.
use Rattle.std.proofs.Common.{◌≡◌, ℕ, ◌+◌, ◌-◌, ◌≤◌, Bool, true, false, List, [], ◌∷◌, ◌++◌, length, drop, refl, sym, ◌∙◌, ap, subst, append_assoc, length-append, arith, inl, inr}
use Rattle.std.proofs.lemmas.List.{append-nil, drop_at}
use Rattle.spf_ast.specs.RawSyntax.{RawProgram}
use Rattle.spf_parse_grammar.specs.Lexemes.{Lexeme}
use Rattle.spf_parse_grammar.specs.Parts.{program, give}
use Rattle.spf_parse_grammar.specs.Rules.{all}
use Rattle.spf_parse_grammar.specs.Reading.{Reads}
use Rattle.spf_parse_grammar.specs.Texts.{IsFront, offset, CannotGoOn, IsUnexpected, IsTooDeep}
use Rattle.spf_parse_grammar.specs.Derivations.{Says, Reading}
use Rattle.spf_parse_parts.specs.Answers.{ahead, Leads, Faults}
use Rattle.spf_parse.specs.Laws.{GoWrongOnce}
use Rattle.spf_parse_grammar.proofs.Derivations.{from_all, to_all, loosened}

to_reading : (free : ℕ) (ts : List Lexeme) (p : RawProgram) → Reads free ts p → Reading free (all program) ts p []
to_reading free ts p r = to_all (Says free) program ts p [] r

from_reading : (free : ℕ) (ts : List Lexeme) (p : RawProgram) → Reading free (all program) ts p [] → Reads free ts p
from_reading free ts p d = from_all (Says free) program ts p [] d

looser_reads : (free free' : ℕ) (ts : List Lexeme) (p : RawProgram) → free ≤ free' → Reads free ts p → Reads free' ts p
looser_reads free free' ts p h r = loosened free free' h program ts p [] r

-- ---- what is read

pub reads_is : {ts : List Lexeme} {p : RawProgram} → Leads 14 (all program) ts (give p) [] → Reads 0 ts p
reads_is {ts} {p} l = subst (λ l. Reads 0 l p) (sym l.split) (from_reading 0 (l.read ++ []) p (l.into 0 [] p [] (refl, refl)))

pub only_is : {ts : List Lexeme} {p : RawProgram} → Leads 14 (all program) ts (give p) [] → (free : ℕ) (q : RawProgram) → Reads free ts q → q ≡ p
only_is {ts} {p} l free q d = (l.only free [] q [] refl (subst (λ l. Reading free (all program) l q []) l.split (to_reading free ts q d)) tt).0

-- ---- where it goes wrong

offset_is : {ts : List Lexeme} {d : Bool} {left : ℕ} → (f : Faults d 14 (all program) ts left) → drop (length ts - left) ts ≡ f.rest
offset_is {ts} {left = left} f =
    let n : length f.read ≡ length ts - left = omega (arith, ap length f.split, length-append f.read f.rest, f.left_is) in
    ap (drop (length ts - left)) f.split ∙ drop_at f.read f.rest (length ts - left) n

pub left_fits : {ts : List Lexeme} {d : Bool} {left : ℕ} → Faults d 14 (all program) ts left → left ≤ length ts
left_fits f = omega (arith, ap length f.split, length-append f.read f.rest, f.left_is)

cannot : {ts : List Lexeme} {left : ℕ} (f : Faults false 14 (all program) ts left) (rest : List Lexeme) → f.rest ≡ rest → CannotGoOn f.read rest
cannot f [] is = λ free p r. f.dead free [] p [] tt (ap ahead (sym is)) (subst (λ l. Reading free (all program) l p []) (sym (append-nil f.read)) (to_reading free f.read p r)) tt
cannot f (t ∷ rest) is = λ free m.
    f.dead (free + length m.0) (t ∷ m.0) m.1 [] tt (ap ahead (sym is)) (subst (λ l. Reading (free + length m.0) (all program) l m.1 []) (append_assoc f.read (t ∷ []) m.0) (to_reading (free + length m.0) ((f.read ++ t ∷ []) ++ m.0) m.1 m.2)) tt

front : {ts : List Lexeme} {d : Bool} {left : ℕ} (f : Faults d 14 (all program) ts left) (free : ℕ) → length f.more ≤ free → Reads free (f.read ++ f.more) f.value
front f free room =
    let e : f.more ++ [] ≡ f.more = append-nil f.more in
    from_reading free (f.read ++ f.more) f.value (subst (λ l. Reading free (all program) (f.read ++ l) f.value []) e (f.viable free [] (subst (λ l. length l ≤ free) (sym e) room)))

pub unexpected_is : {ts : List Lexeme} {left : ℕ} (end : ℕ) → Faults false 14 (all program) ts left → IsUnexpected ts end (offset end (drop (length ts - left) ts))
unexpected_is end f = record {
  read = f.read;
  rest = f.rest;
  split = f.split;
  at_is = ap (offset end) (offset_is f);
  front = (f.more, f.value, front f (0 + length f.more) (omega arith));
  stuck = cannot f f.rest refl;
}

pub too_deep_is : {ts : List Lexeme} {left : ℕ} (end : ℕ) → Faults true 14 (all program) ts left → IsTooDeep ts (offset end (drop (length ts - left) ts))
too_deep_is end f = let t = f.begins.0 in let us = f.begins.1 in let vs = f.begins.2 in record {
  read = f.read;
  next = t;
  rest = us;
  split = f.split ∙ ap (λ l. f.read ++ l) f.begins.3;
  at_is = ap (offset end) (offset_is f ∙ f.begins.3);
  allowed = (vs, f.value, subst (λ l. Reads (1 + length vs) l f.value) (ap (λ l. f.read ++ l) f.begins.4 ∙ sym (append_assoc f.read (t ∷ []) vs)) (front f (1 + length vs) (omega (arith, ap length f.begins.4))));
  forbidden = λ m.
      f.dead (0 + length m.0) (t ∷ m.0) m.1 [] (omega arith) (ap ahead (sym f.begins.3)) (subst (λ l. Reading (0 + length m.0) (all program) l m.1 []) (append_assoc f.read (t ∷ []) m.0) (to_reading (0 + length m.0) ((f.read ++ t ∷ []) ++ m.0) m.1 m.2)) tt;
}

-- ---- and in one way only

-- a front of a front
front_less : (free free' : ℕ) (a m : List Lexeme) → free ≤ free' + length m → IsFront free (a ++ m) → IsFront free' a
front_less free free' a m h f =
    (m ++ f.0, f.1, looser_reads (free + length f.0) (free' + length (m ++ f.0)) (a ++ (m ++ f.0)) f.1 (omega (arith, h, length-append m f.0)) (subst (λ l. Reads (free + length f.0) l f.1) (append_assoc a m f.0) f.2))

-- a prefix of a program's tokens
front_of_whole : (ts a m : List Lexeme) (p : RawProgram) → ts ≡ a ++ m → Reads 0 ts p → IsFront 0 a
front_of_whole ts a m p split r = (m, p, looser_reads 0 (0 + length m) (a ++ m) p (omega arith) (subst (λ l. Reads 0 l p) split r))

one_more : (a : List Lexeme) (t : Lexeme) (m : List Lexeme) → a ++ t ∷ m ≡ (a ++ t ∷ []) ++ m
one_more a t m = sym (append_assoc a (t ∷ []) m)

module _ {ts : List Lexeme} {p : RawProgram} (r : Reads 0 ts p) where
  pub whole_not_unexpected : (end at : ℕ) → IsUnexpected ts end at → ⊥
  whole_not_unexpected end at u = stuck_at u.rest refl
    where
      stuck_at : (rest : List Lexeme) → u.rest ≡ rest → ⊥
      stuck_at [] is = (subst (CannotGoOn u.read) is u.stuck) 0 p (subst (λ l. Reads 0 l p) (u.split ∙ ap (λ l. u.read ++ l) is ∙ append-nil u.read) r)
      stuck_at (t ∷ rest) is = (subst (CannotGoOn u.read) is u.stuck) 0 (front_of_whole ts (u.read ++ t ∷ []) rest p (u.split ∙ ap (λ l. u.read ++ l) is ∙ one_more u.read t rest) r)

  pub whole_not_too_deep : (at : ℕ) → IsTooDeep ts at → ⊥
  whole_not_too_deep at u = u.forbidden (front_of_whole ts (u.read ++ u.next ∷ []) u.rest p (u.split ∙ one_more u.read u.next u.rest) r)

-- two ways to split a list
data Splits (a s b t : List Lexeme) : Type 0 where
  shorter : (x : Lexeme) (m : List Lexeme) → b ≡ a ++ x ∷ m → s ≡ x ∷ m ++ t → Splits a s b t
  same : a ≡ b → s ≡ t → Splits a s b t
  longer : (x : Lexeme) (m : List Lexeme) → a ≡ b ++ x ∷ m → t ≡ x ∷ m ++ s → Splits a s b t

behind : (x y : Lexeme) (a s b t : List Lexeme) → x ≡ y → Splits a s b t → Splits (x ∷ a) s (y ∷ b) t
behind x y a s b t e (shorter z m p q) = shorter z m (λ i. sym e i ∷ p i) q
behind x y a s b t e (same p q) = same (λ i. e i ∷ p i) q
behind x y a s b t e (longer z m p q) = longer z m (λ i. e i ∷ p i) q

splits : (a s b t : List Lexeme) → a ++ s ≡ b ++ t → Splits a s b t
splits [] s [] t e = same refl e
splits [] s (y ∷ b) t e = shorter y b refl e
splits (x ∷ a) s [] t e = longer x a refl (sym e)
splits (x ∷ a) s (y ∷ b) t e = behind x y a s b t (head_is e) (splits a s b t (tail_is e))
  where
    head_is : x ∷ (a ++ s) ≡ y ∷ (b ++ t) → x ≡ y
    head_is h = cc

    tail_is : x ∷ (a ++ s) ≡ y ∷ (b ++ t) → a ++ s ≡ b ++ t
    tail_is h = cc

-- what goes wrong before the end of a front doesn't
stuck_front : {ts : List Lexeme} (end at : ℕ) (u : IsUnexpected ts end at) (x : Lexeme) (m rest : List Lexeme) (free : ℕ) → u.rest ≡ x ∷ rest → IsFront free ((u.read ++ x ∷ []) ++ m) → ⊥
stuck_front end at u x m rest free is f = (subst (CannotGoOn u.read) is u.stuck) free (front_less free free (u.read ++ x ∷ []) m (omega arith) f)

module _ {ts : List Lexeme} (end : ℕ) where
  pub unexpected_once : (a b : ℕ) → IsUnexpected ts end a → IsUnexpected ts end b → a ≡ b
  unexpected_once a b u v = compare (splits u.read u.rest v.read v.rest (sym u.split ∙ v.split))
    where
      compare : Splits u.read u.rest v.read v.rest → a ≡ b
      compare (shorter x m p q) = absurd (stuck_front end a u x m (m ++ v.rest) 0 q (subst (IsFront 0) (p ∙ one_more u.read x m) v.front))
      compare (same p q) = u.at_is ∙ ap (offset end) q ∙ sym v.at_is
      compare (longer x m p q) = absurd (stuck_front end b v x m (m ++ u.rest) 0 q (subst (IsFront 0) (p ∙ one_more v.read x m) u.front))

  pub unexpected_not_deep : (a b : ℕ) → IsUnexpected ts end a → IsTooDeep ts b → ⊥
  unexpected_not_deep a b u v = compare (splits u.read u.rest v.read (v.next ∷ v.rest) (sym u.split ∙ v.split))
    where
      compare : Splits u.read u.rest v.read (v.next ∷ v.rest) → ⊥
      compare (shorter x m p q) = stuck_front end a u x (m ++ v.next ∷ []) (m ++ v.next ∷ v.rest) 1 q
          (subst (IsFront 1) (ap (λ l. l ++ v.next ∷ []) (p ∙ one_more u.read x m) ∙ append_assoc (u.read ++ x ∷ []) m (v.next ∷ [])) v.allowed)
      compare (same p q) = stuck_front end a u v.next [] v.rest 1 q (subst (IsFront 1) (ap (λ l. l ++ v.next ∷ []) (sym p) ∙ sym (append-nil (u.read ++ v.next ∷ []))) v.allowed)
      compare (longer x m p q) = v.forbidden (front_less 0 0 (v.read ++ v.next ∷ []) m (omega arith) (subst (IsFront 0) (p ∙ one_more v.read x m ∙ ap (λ y. (v.read ++ y ∷ []) ++ m) (sym (head_of q))) u.front))
        where
          head_of : v.next ∷ v.rest ≡ x ∷ (m ++ u.rest) → v.next ≡ x
          head_of h = cc

pub deep_once : {ts : List Lexeme} (a b : ℕ) → IsTooDeep ts a → IsTooDeep ts b → a ≡ b
deep_once a b u v = compare (splits u.read (u.next ∷ u.rest) v.read (v.next ∷ v.rest) (sym u.split ∙ v.split))
  where
    head_of : (x y : Lexeme) (s t : List Lexeme) → x ∷ s ≡ y ∷ t → x ≡ y
    head_of x y s t h = cc

    compare : Splits u.read (u.next ∷ u.rest) v.read (v.next ∷ v.rest) → a ≡ b
    compare (shorter x m p q) = absurd (u.forbidden (front_less 1 0 (u.read ++ u.next ∷ []) (m ++ v.next ∷ []) (omega (arith, length-append m (v.next ∷ [])))
        (subst (IsFront 1) (ap (λ l. l ++ v.next ∷ []) (p ∙ one_more u.read x m ∙ ap (λ y. (u.read ++ y ∷ []) ++ m) (sym (head_of u.next x u.rest (m ++ v.next ∷ v.rest) q))) ∙ append_assoc (u.read ++ u.next ∷ []) m (v.next ∷ [])) v.allowed)))
    compare (same p q) = u.at_is ∙ ap (λ t. t.from) (head_of u.next v.next u.rest v.rest q) ∙ sym v.at_is
    compare (longer x m p q) = absurd (v.forbidden (front_less 1 0 (v.read ++ v.next ∷ []) (m ++ u.next ∷ []) (omega (arith, length-append m (u.next ∷ [])))
        (subst (IsFront 1) (ap (λ l. l ++ u.next ∷ []) (p ∙ one_more v.read x m ∙ ap (λ y. (v.read ++ y ∷ []) ++ m) (sym (head_of v.next x v.rest (m ++ u.next ∷ u.rest) q))) ∙ append_assoc (v.read ++ v.next ∷ []) m (u.next ∷ [])) u.allowed)))

-- all together
pub go_wrong_once : (ts : List Lexeme) (end : ℕ) → GoWrongOnce ts end
go_wrong_once ts end = record {
  unexpected = λ a b u v. unexpected_once {ts = ts} end a b u v;
  too_deep = λ a b u v. deep_once {ts = ts} a b u v;
  not_both = λ a b u v. unexpected_not_deep {ts = ts} end a b u v;
  not_read = λ p r at h. elim h [ inl u ↦ whole_not_unexpected {ts = ts} {p = p} r end at u | inr u ↦ whole_not_too_deep {ts = ts} {p = p} r at u ];
}

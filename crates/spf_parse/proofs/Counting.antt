-- The lines of tokens that stand in order.
use Rattle.std.proofs.Common.{◌≡◌, ℕ, zero, suc, ◌+◌, ◌-◌, ◌<◌, ◌≤◌, List, [], ◌∷◌, length, drop, get_or, refl, sym, ◌∙◌, ap, subst, arith, add-one, ◌++◌, zero-add, cond}
use Rattle.std.proofs.Math.Nat.{suc-add}
use Rattle.std.proofs.Math.Seq.{take-nil, take-suc, drop-cons}
use Rattle.std.proofs.lemmas.List.{map-append, length-take}
use Rattle.std.specs.Prelude.{map, count_by, take, ◌==◌}
use Rattle.std.proofs.lemmas.List.Sums.{sum_by-append, count_by-le-length}
use Rattle.spf_text.specs.declared.token.Token.{Token}
use Rattle.spf_text.specs.declared.token.TokenKind.TheVariants as kind
use Rattle.spf_text.specs.Tokens.{AreInOrder}
use Rattle.spf_parse_grammar.specs.Lexemes.{line_at}

-- tokens in order stand before their end
pub order_end : (offset end : ℕ) (ts : List Token) → AreInOrder offset end ts → offset ≤ end
order_end offset end [] o = o
order_end offset end (t ∷ ts) o = let r = order_end t.to end ts o.2 in omega (arith, o.0, o.1, r)

-- tokens in order after an offset are in order after an earlier one
pub order_before : (before offset end : ℕ) (ts : List Token) → before ≤ offset → AreInOrder offset end ts → AreInOrder before end ts
order_before before offset end [] l o = omega (arith, l, o)
order_before before offset end (t ∷ ts) l o = (omega (arith, l, o.0), o.1, o.2)

-- the token at an index, and those after it
pub order_at : (offset end i : ℕ) (ts : List Token) (d : Token) → i < length ts → AreInOrder offset end (drop i ts) →
    (offset ≤ (get_or ts i d).from) × ((get_or ts i d).from < (get_or ts i d).to) × ((get_or ts i d).to ≤ end) × AreInOrder (get_or ts i d).from end (drop (i + 1) ts)
order_at offset end i ts d h o =
    let e : drop i ts ≡ get_or ts i d ∷ drop (suc i) ts = drop-cons ts i d h in
    let r : AreInOrder offset end (get_or ts i d ∷ drop (suc i) ts) = subst (AreInOrder offset end) e o in
    let l : (get_or ts i d).to ≤ end = order_end (get_or ts i d).to end (drop (suc i) ts) r.2 in
    let le : (get_or ts i d).from ≤ (get_or ts i d).to = omega (arith, r.1) in
    (r.0, r.1, l, subst (λ n. AreInOrder (get_or ts i d).from end (drop n ts)) (sym (add-one i)) (order_before (get_or ts i d).from (get_or ts i d).to end (drop (suc i) ts) le r.2))

pub line_at-start : (text : List ℕ) → line_at text 0 ≡ 1
line_at-start text = refl

pub line_at-le : (text : List ℕ) (offset : ℕ) → line_at text offset ≤ length text + 1
line_at-le text offset = omega (arith, count_by-le-length (λ b. b == 10) (take offset text), length-take offset text)

cut : (t : List ℕ) (a n : ℕ) → take (a + n) t ≡ take a t ++ take n (drop a t)
cut t zero n = ap (λ m. take m t) (zero-add n)
cut [] (suc a) n = take-nil (suc a + n) ∙ sym (take-nil n)
cut (x ∷ t) (suc a) n = ap (λ m. take m (x ∷ t)) (suc-add a n) ∙ ap (λ l. x ∷ l) (cut t a n)

-- the line of a later offset
pub line_more : (t : List ℕ) (a b : ℕ) → a ≤ b → line_at t a + count_by (λ x. x == 10) (take (b - a) (drop a t)) ≡ line_at t b
line_more t a b le =
    let e : b ≡ a + (b - a) = omega arith in
    let c : take b t ≡ take a t ++ take (b - a) (drop a t) = ap (λ m. take m t) e ∙ cut t a (b - a) in
    omega (arith, ap (count_by (λ x. x == 10)) c, sum_by-append (λ x. cond (x == 10) 1 0) (take a t) (take (b - a) (drop a t)))

-- a token, where there is none
abbrev pub no_token : Token
no_token = record { kind = kind.Name; from = 0; to = 0 }

-- one more element
pub mapped : {A B : Type 0} (f : A → B) (xs : List A) (d : A) (i : ℕ) → i < length xs → map f (take i xs) ++ f (get_or xs i d) ∷ [] ≡ map f (take (i + 1) xs)
mapped f xs d i h = rw (add-one, take-suc xs i d h, map-append) refl

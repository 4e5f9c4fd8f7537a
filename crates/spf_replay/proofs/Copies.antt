-- Words that are copied, cell by cell, span by span and block by block.
use Rattle.std.proofs.Common.{◌≡◌, ◌≢◌, ◌⊎◌, ℕ, zero, suc, ◌≤◌, ◌<◌, ◌+◌, Bool, true, false, List, [], ◌∷◌, ◌++◌, length, map, take, drop, append-nil, get_or, ℤ, pos, refl, sym, ap, ◌∙◌, subst, arith}
use Rattle.std.specs.Prelude.{◌&&◌, ◌||◌, nat_le, nat_lt, if◌then◌else◌, slice_set}
use Rattle.std.specs.Global.{Vec}
use Rattle.std.specs.List.{list_any}
use Rattle.std.proofs.lemmas.List.{get_or-set_same, get_or-set_other, get_or_past, length-set, take_all, drop_all}
use Rattle.spf_ast_lemmas.proofs.Members.{cases}
use Rattle.spf_ast.specs.Event.{word_at}
use Rattle.spf_speculation.proofs.Chain.{same-memory}
use Rattle.spf_speculation.proofs.Within.{alike}
use Rattle.spf_region.specs.declared.span.Span.{Span}
use Rattle.spf_region.specs.Cells.{in_spans}
use Rattle.spf_replay.specs.Copying.{in_plan, IsCopied}

-- of what is chosen, none is left
pub none-left : {A : Type 0} (f : A → Bool) (xs : List A) (k : ℕ) → length xs ≤ k → list_any f (drop k xs) ≡ false
none-left f [] zero h = refl
none-left f [] (suc k) h = refl
none-left f (x ∷ xs) zero h = absurd (omega (arith, h))
none-left f (x ∷ xs) (suc k) h = none-left f xs k (omega (arith, h))

-- the first that is left is copied
pub first-copied : (a b : Bool) (x y z : ℤ) → z ≡ (if a then x else y) → (if b then x else z) ≡ (if (a || b) then x else y)
first-copied true true x y z h = refl
first-copied true false x y z h = h
first-copied false true x y z h = refl
first-copied false false x y z h = h

-- the spans of a block that come next
pub plan-step : (vs : List (Vec Span)) (k : ℕ) (v : Vec Span) (d : ℕ) → k < length vs → v ≡ get_or vs k v
    → in_plan (drop k (map (λ (v : Vec Span). v.items) vs)) d ≡ (in_spans v.items d || in_plan (drop (suc k) (map (λ (v : Vec Span). v.items) vs)) d)
plan-step [] k v d low is = absurd (omega (arith, low))
plan-step (x ∷ vs) zero v d low is = ap (λ (y : Vec Span). in_spans y.items d || in_plan (map (λ (v : Vec Span). v.items) vs) d) (sym is)
plan-step (x ∷ vs) (suc k) v d low is = plan-step vs k v d (omega (arith, low)) is

-- nothing is left
pub all-copied : (b : Bool) (x z w : ℤ) → b ≡ false → (if b then x else z) ≡ w → z ≡ w
all-copied true x z w is h = cc
all-copied false x z w is h = h

inside-or-past : (c n : ℕ) → (c < n) ⊎ (n ≤ c)
inside-or-past c n = grind arith

-- a word that is set to that of the same cell elsewhere
set-there : (to from : List ℤ) (c : ℕ) → length to ≡ length from → word_at (slice_set to c (word_at from c)) c ≡ word_at from c
set-there to from c same = cases (inside-or-past c (length to))
    (λ inside. get_or-set_same to c (word_at from c) (pos 0) inside)
    (λ past. rw (get_or_past (slice_set to c (word_at from c)) c (pos 0) (rw (length-set to c (word_at from c)) past), get_or_past from c (pos 0) (omega (arith, past, same))) refl)

now-inside : (start c : ℕ) → start ≤ c → (nat_le start c && nat_lt c (c + 1)) ≡ true
now-inside start c h = grind (arith, h)

still : (start c d : ℕ) → d ≢ c → (nat_le start d && nat_lt d (c + 1)) ≡ (nat_le start d && nat_lt d c)
still start c d ne = grind (arith, ne)

-- one more cell of a span
pub one-more : (to from before : List ℤ) (start c : ℕ) → start ≤ c → length to ≡ length from
    → ((d : ℕ) → word_at to d ≡ (if (nat_le start d && nat_lt d c) then word_at from d else word_at before d))
    → (d : ℕ) → word_at (slice_set to c (word_at from c)) d ≡ (if (nat_le start d && nat_lt d (c + 1)) then word_at from d else word_at before d)
one-more to from before start c low same h d = cases (alike d c)
    (λ is. subst (λ x. word_at (slice_set to c (word_at from c)) x ≡ (if (nat_le start x && nat_lt x (c + 1)) then word_at from x else word_at before x)) (sym is)
    (set-there to from c same ∙ sym (ap (λ b. if b then word_at from c else word_at before c) (now-inside start c low))))
    (λ ne. get_or-set_other to c d (word_at from c) (pos 0) ne ∙ h d ∙ sym (ap (λ b. if b then word_at from d else word_at before d) (still start c d ne)))

-- a memory that is put together from the words of two others
pub mixed : (cells : ℕ → Bool) (from before after goal : List ℤ) → IsCopied cells from before after
    → ((c : ℕ) → cells c ≡ true → word_at from c ≡ word_at goal c) → ((c : ℕ) → cells c ≡ false → word_at before c ≡ word_at goal c)
    → length after ≡ length goal → after ≡ goal
mixed cells from before after goal is inside outside size = same-memory after goal size (λ c. is c ∙ one c (cells c) (inside c) (outside c))
  where
    one : (c : ℕ) (b : Bool) → (b ≡ true → word_at from c ≡ word_at goal c) → (b ≡ false → word_at before c ≡ word_at goal c) → (if b then word_at from c else word_at before c) ≡ word_at goal c
    one c true h k = h refl
    one c false h k = k refl

-- the words that were copied, and those that weren't
pub copied-in : (cells : ℕ → Bool) (from before after : List ℤ) (c : ℕ) → IsCopied cells from before after → cells c ≡ true → word_at after c ≡ word_at from c
copied-in cells from before after c is h = is c ∙ ap (λ (b : Bool). if b then word_at from c else word_at before c) h

pub copied-out : (cells : ℕ → Bool) (from before after : List ℤ) (c : ℕ) → IsCopied cells from before after → cells c ≡ false → word_at after c ≡ word_at before c
copied-out cells from before after c is h = is c ∙ ap (λ (b : Bool). if b then word_at from c else word_at before c) h

-- a slice that is written back whole
pub whole-slice : {A : Type 0} (len : ℕ) (xs ys : List A) → length xs ≡ len → length ys ≡ len → take len (xs ++ drop (length xs) ys) ≡ xs
whole-slice len xs ys one other =
    let past : length ys ≤ length xs = omega (arith, one, other) in
    let all : length xs ≤ len = omega (arith, one) in
    ap (λ l. take len (xs ++ l)) (drop_all (length xs) ys past) ∙ ap (take len) (append-nil xs) ∙ take_all len xs all

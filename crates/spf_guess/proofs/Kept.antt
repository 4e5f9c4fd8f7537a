-- The first different numbers of a list, and what one more number adds to them.
use Rattle.std.proofs.Common.{◌≡◌, Bool, true, false, ℕ, zero, suc, nat_lt, List, [], ◌∷◌, ◌++◌, length, take, refl, sym, ap, subst, ◌∙◌, ℤ, arith}
use Rattle.std.specs.Prelude.{not, ◌||◌, if◌then◌else◌}
use Rattle.std.specs.List.{filter, list_any}
use Rattle.std.specs.Ordering.{int_eq}
use Rattle.std.proofs.lemmas.Bool.Decides.{Decides-int_eq}
use Rattle.spf_guess.specs.Kinds.{distinct, kept}

-- whether a number is in a list
abbrev pub has : ℤ → List ℤ → Bool
has x xs = list_any (int_eq x) xs

-- a list with this number at its end, unless it has the number
abbrev pub with_one : ℤ → List ℤ → List ℤ
with_one x xs = if has x xs then xs else xs ++ x ∷ []

pub eq_self : (x : ℤ) → int_eq x x ≡ true
eq_self x = (Decides-int_eq x x).1 refl

pub eq_turned : (x y : ℤ) (b : Bool) → int_eq x y ≡ b → int_eq y x ≡ b
eq_turned x y true e = (Decides-int_eq y x).1 (sym ((Decides-int_eq x y).0 e))
eq_turned x y false e = go (int_eq y x) refl
  where
    go : (b : Bool) → int_eq y x ≡ b → int_eq y x ≡ false
    go false d = d
    go true d = let back = (Decides-int_eq x y).1 (sym ((Decides-int_eq y x).0 d)) in cc

-- ---- without the numbers that are equal to one

abbrev without : ℤ → List ℤ → List ℤ
without y xs = filter (λ z. not (int_eq y z)) xs

has-without : (x y : ℤ) (xs : List ℤ) → int_eq x y ≡ false → has x (without y xs) ≡ has x xs
has-without x y [] e = refl
has-without x y (z ∷ zs) e = go (int_eq y z) refl (has-without x y zs e)
  where
    go : (b : Bool) → int_eq y z ≡ b → has x (without y zs) ≡ has x zs → has x (without y (z ∷ zs)) ≡ has x (z ∷ zs)
    go false d h = rw d (ap (λ (more : Bool). int_eq x z || more) h)
    go true d h =
        let same = (Decides-int_eq y z).0 d in
        let apart : int_eq x z ≡ false = subst (λ w. int_eq x w ≡ false) same e in
        rw (d, apart) h

without-more : (x y : ℤ) (xs : List ℤ) → int_eq y x ≡ false → without y (xs ++ x ∷ []) ≡ without y xs ++ x ∷ []
without-more x y [] e = rw e refl
without-more x y (z ∷ zs) e = go (int_eq y z) refl (without-more x y zs e)
  where
    go : (b : Bool) → int_eq y z ≡ b → without y (zs ++ x ∷ []) ≡ without y zs ++ x ∷ [] → without y (z ∷ zs ++ x ∷ []) ≡ without y (z ∷ zs) ++ x ∷ []
    go true d h = rw d h
    go false d h = rw d (ap (λ more. z ∷ more) h)

without-same : (x y : ℤ) (xs : List ℤ) → int_eq y x ≡ true → without y (xs ++ x ∷ []) ≡ without y xs
without-same x y [] e = rw e refl
without-same x y (z ∷ zs) e = go (int_eq y z) refl (without-same x y zs e)
  where
    go : (b : Bool) → int_eq y z ≡ b → without y (zs ++ x ∷ []) ≡ without y zs → without y (z ∷ zs ++ x ∷ []) ≡ without y (z ∷ zs)
    go true d h = rw d h
    go false d h = rw d (ap (λ more. z ∷ more) h)

-- ---- the different numbers

-- one more number in a list is one more among its different numbers, unless it is one of them
pub distinct-more : (xs : List ℤ) (x : ℤ) → distinct (xs ++ x ∷ []) ≡ with_one x (distinct xs)
distinct-more [] x = refl
distinct-more (y ∷ ys) x = ap (λ others. y ∷ without y others) (distinct-more ys x) ∙ go (has x (distinct ys)) (int_eq x y) refl refl
  where
    go : (a b : Bool) → has x (distinct ys) ≡ a → int_eq x y ≡ b → y ∷ without y (with_one x (distinct ys)) ≡ with_one x (y ∷ without y (distinct ys))
    go true true a e = rw (a, e) refl
    go false true a e = rw (a, e) (ap (λ more. y ∷ more) (without-same x y (distinct ys) (eq_turned x y true e)))
    go true false a e = rw (a, e, has-without x y (distinct ys) e, a) refl
    go false false a e = rw (a, e, has-without x y (distinct ys) e, a) (ap (λ more. y ∷ more) (without-more x y (distinct ys) (eq_turned x y false e)))

-- ---- the first of them

-- the numbers that are kept after one more came
abbrev pub kept_with : ℕ → List ℤ → ℤ → List ℤ
kept_with room xs x = if has x xs then xs else (if nat_lt (length xs) room then xs ++ x ∷ [] else xs)

lower : (m n : ℕ) → nat_lt (suc m) (suc n) ≡ nat_lt m n
lower m n = grind arith

some_room : (n : ℕ) → nat_lt 0 (suc n) ≡ true
some_room n = grind arith

pub none-taken : (n : ℕ) → take {A = ℤ} n [] ≡ []
none-taken zero = refl
none-taken (suc n) = refl

with_one-behind : (x y : ℤ) (ys : List ℤ) → int_eq x y ≡ false → with_one x (y ∷ ys) ≡ y ∷ with_one x ys
with_one-behind x y ys e = go (has x ys) refl
  where
    go : (b : Bool) → has x ys ≡ b → with_one x (y ∷ ys) ≡ y ∷ with_one x ys
    go true b = rw (e, b) refl
    go false b = rw (e, b) refl

kept_with-behind : (room : ℕ) (x y : ℤ) (ys : List ℤ) → int_eq x y ≡ false → kept_with (suc room) (y ∷ ys) x ≡ y ∷ kept_with room ys x
kept_with-behind room x y ys e = go (has x ys) (nat_lt (length ys) room) refl refl
  where
    go : (b d : Bool) → has x ys ≡ b → nat_lt (length ys) room ≡ d → kept_with (suc room) (y ∷ ys) x ≡ y ∷ kept_with room ys x
    go true d eb ed = rw (e, eb) refl
    go false true eb ed = rw (e, eb, lower (length ys) room, ed) refl
    go false false eb ed = rw (e, eb, lower (length ys) room, ed) refl

take-with : (room : ℕ) (xs : List ℤ) (x : ℤ) → take room (with_one x xs) ≡ kept_with room (take room xs) x
take-with zero xs x = refl
take-with (suc room) [] x = rw (some_room room, none-taken room) refl
take-with (suc room) (y ∷ ys) x = go (int_eq x y) refl (take-with room ys x)
  where
    go : (a : Bool) → int_eq x y ≡ a → take room (with_one x ys) ≡ kept_with room (take room ys) x
        → take (suc room) (with_one x (y ∷ ys)) ≡ kept_with (suc room) (y ∷ take room ys) x
    go true e h = rw e refl
    go false e h = ap (take (suc room)) (with_one-behind x y ys e) ∙ ap (λ more. y ∷ more) h ∙ sym (kept_with-behind room x y (take room ys) e)

-- what is kept of a list with one more number
pub kept-more : (room : ℕ) (xs : List ℤ) (x : ℤ) → kept room (xs ++ x ∷ []) ≡ kept_with room (kept room xs) x
kept-more room xs x = ap (take room) (distinct-more xs x) ∙ take-with room (distinct xs) x

-- a list has the numbers that are its different ones
pub has-distinct : (x : ℤ) (xs : List ℤ) → has x (distinct xs) ≡ has x xs
has-distinct x [] = refl
has-distinct x (y ∷ ys) = go (int_eq x y) refl (has-distinct x ys)
  where
    go : (b : Bool) → int_eq x y ≡ b → has x (distinct ys) ≡ has x ys → has x (distinct (y ∷ ys)) ≡ has x (y ∷ ys)
    go true e h = rw e refl
    go false e h = rw e (has-without x y (distinct ys) e ∙ h)

-- where room is left, all are taken
pub all-taken : (room : ℕ) (xs : List ℤ) → nat_lt (length (take room xs)) room ≡ true → take room xs ≡ xs
all-taken zero xs e = cc
all-taken (suc n) [] e = refl
all-taken (suc n) (x ∷ xs) e = ap (λ more. x ∷ more) (all-taken n xs (sym (lower (length (take n xs)) n) ∙ e))

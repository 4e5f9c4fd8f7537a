-- Elements of lists by their indices.
use Rattle.std.proofs.Common.{◌≡◌, ◌⊎◌, ℕ, zero, suc, ◌+◌, ◌<◌, List, [], ◌∷◌, ◌++◌, length, Some, refl, arith}
use Rattle.std.specs.Prelude.{slice_get}

pub at-index : {A : Type 0} (xs : List A) (n : ℕ) → n < length xs → (x : A) × (slice_get xs n ≡ Some x)
at-index [] n h = absurd (omega (arith, h))
at-index (x ∷ xs) zero h = (x, refl)
at-index (x ∷ xs) (suc n) h = at-index xs n (omega (arith, h))

pub index-within : {A : Type 0} (xs : List A) (n : ℕ) (x : A) → slice_get xs n ≡ Some x → n < length xs
index-within [] n x e = cc
index-within (y ∷ xs) zero x e = omega arith
index-within (y ∷ xs) (suc n) x e = let h = index-within xs n x e in omega (arith, h)

pub last-index : {A : Type 0} (xs : List A) (x : A) → slice_get (xs ++ x ∷ []) (length xs) ≡ Some x
last-index [] x = refl
last-index (y ∷ xs) x = last-index xs x

pub earlier-index : {A : Type 0} (xs ys : List A) (n : ℕ) → n < length xs → slice_get (xs ++ ys) n ≡ slice_get xs n
earlier-index [] ys n h = absurd (omega (arith, h))
earlier-index (x ∷ xs) ys zero h = refl
earlier-index (x ∷ xs) ys (suc n) h = earlier-index xs ys n (omega (arith, h))

pub one-longer : {A : Type 0} (xs : List A) (x : A) (n : ℕ) → length xs ≡ n → length (xs ++ x ∷ []) ≡ n + 1
one-longer [] x n e = omega (arith, e)
one-longer (y ∷ xs) x n e = let h = one-longer xs x (length xs) refl in omega (arith, h, e)

pub last_or_before : (x n : ℕ) → x < n + 1 → (x ≡ n) ⊎ (x < n)
last_or_before x n h = grind (arith, h)

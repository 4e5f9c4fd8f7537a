-- Which elements a list has.
use Rattle.std.proofs.Common.{◌≡◌, ◌⊎◌, Some, inl, inr, ℕ, zero, suc, List, [], ◌∷◌, refl, subst, arith, Contains}

pub cases : {A B C : Type 0} → A ⊎ B → (A → C) → (B → C) → C
cases (inl a) f g = f a
cases (inr b) f g = g b

pub first-in : {A : Type 0} (x : A) (xs : List A) → Contains (x ∷ xs) x
first-in x xs = (0, omega arith, refl)

pub later-in : {A : Type 0} (x y : A) (xs : List A) → Contains xs y → Contains (x ∷ xs) y
later-in x y xs (k, h, e) = (suc k, omega (arith, h), e)

pub none-in : {A : Type 0} (y : A) → Contains [] y → ⊥
none-in y (k, h, e) = omega (arith, h)

pub first-or-later : {A : Type 0} (x y : A) (xs : List A) → Contains (x ∷ xs) y → (x ≡ y) ⊎ Contains xs y
first-or-later x y xs (zero, h, e) = inl e
first-or-later x y xs (suc k, h, e) = inr (k, omega (arith, h), e)

-- a number stands in a list, or doesn't
pub in-or-not : (xs : List ℕ) (y : ℕ) → Contains xs y ⊎ (Contains xs y → ⊥)
in-or-not [] y = inr (none-in y)
in-or-not (x ∷ xs) y = cases (alike x y) (λ e. inl (subst (λ z. Contains (x ∷ xs) z) e (first-in x xs))) (λ ne. cases (in-or-not xs y) (λ i. inl (later-in x y xs i)) (λ out. inr (λ i. cases (first-or-later x y xs i) ne out)))
  where
    alike : (a b : ℕ) → (a ≡ b) ⊎ (a ≡ b → ⊥)
    alike a b = grind arith

-- what two options have that are the same
pub some_is : {A : Type 0} (x y : A) → Some x ≡ Some y → x ≡ y
some_is x y e = cc

-- Lists and their indices, and tests.
use Rattle.std.proofs.Common.{◌≡◌, ◌≢◌, ◌⊎◌, ℕ, ◌+◌, ◌<◌, ◌≤◌, zero, suc, Bool, true, false, if◌then◌else◌, List, [], ◌∷◌, ◌++◌, length, take, set, refl, sym, ap, ◌∙◌, inl, inr, Option, Some, None, arith, slice_get}
use Rattle.std.specs.Prelude.{map}

pub map-append : {X Y : Type 0} (f : X → Y) (xs ys : List X) → map f (xs ++ ys) ≡ map f xs ++ map f ys
map-append f [] ys = refl
map-append f (x ∷ xs) ys = ap (λ l. f x ∷ l) (map-append f xs ys)

pub set-set : {X : Type 0} (xs : List X) (i : ℕ) (y z : X) → set (set xs i y) i z ≡ set xs i z
set-set [] i y z = refl
set-set (x ∷ xs) zero y z = refl
set-set (x ∷ xs) (suc i) y z = ap (λ l. x ∷ l) (set-set xs i y z)

pub some-same : {X : Type 0} (x y : X) → Some x ≡ Some y → x ≡ y
some-same x y e = cc

-- of two lists that agree on a prefix, a longer prefix of one is that prefix of the other with more after it
pub take-grown : {X : Type 0} (k j : ℕ) (xs ys : List X) → k ≤ j → k ≤ length xs → length ys ≡ length xs → ((n : ℕ) → n < k → slice_get ys n ≡ slice_get xs n) → (more : List X) × (take j ys ≡ take k xs ++ more)
take-grown zero j xs ys le within size agree = (take j ys, refl)
take-grown (suc k) zero xs ys le within size agree = absurd (omega (arith, le))
take-grown (suc k) (suc j) [] ys le within size agree = absurd (omega (arith, within))
take-grown (suc k) (suc j) (x ∷ xs) [] le within size agree = absurd (omega (arith, size))
take-grown (suc k) (suc j) (x ∷ xs) (y ∷ ys) le within size agree =
    let rest = take-grown k j xs ys (omega (arith, le)) (omega (arith, within)) (omega (arith, size)) (λ n low. agree (suc n) (omega (arith, low))) in
    let head : y ≡ x = some-same y x (agree zero (omega arith)) in
    (rest.0, (λ t. head t ∷ rest.1 t))

pub still : (b x : Bool) → (if b then false else x) ≡ true → (b ≡ false) × (x ≡ true)
still true x h = absurd cc
still false x h = (refl, h)

pub less-or-same : (n i : ℕ) → n < i + 1 → (n < i) ⊎ (n ≡ i)
less-or-same n i h = grind (arith, h)

-- one more index isn't out
pub none-below : {X : Type 0} (xs : List (Option X)) (i : ℕ) → ((n : ℕ) → n < i → slice_get xs n ≢ Some None) → slice_get xs i ≢ Some None → (n : ℕ) → n < i + 1 → slice_get xs n ≢ Some None
none-below xs i h here n low out = elim (less-or-same n i low) [
  | inl less ↦ h n less out
  | inr same ↦ here (ap (slice_get xs) (sym same) ∙ out)
]

pub set_cases : {X : Type 0} (xs : List X) (i n : ℕ) (y z : X) → slice_get (set xs i y) n ≡ Some z → ((n ≡ i) × (z ≡ y)) ⊎ (slice_get xs n ≡ Some z)
set_cases [] i n y z h = inr h
set_cases (x ∷ xs) zero zero y z h = inl (refl, cc)
set_cases (x ∷ xs) zero (suc n) y z h = inr h
set_cases (x ∷ xs) (suc i) zero y z h = inr h
set_cases (x ∷ xs) (suc i) (suc n) y z h = elim (set_cases xs i n y z h) [ inl e ↦ inl (ap suc e.0, e.1) | inr e ↦ inr e ]

pub set_other : {X : Type 0} (xs : List X) (i n : ℕ) (y : X) → n ≢ i → slice_get (set xs i y) n ≡ slice_get xs n
set_other [] i n y h = refl
set_other (x ∷ xs) zero zero y h = absurd (h refl)
set_other (x ∷ xs) zero (suc n) y h = refl
set_other (x ∷ xs) (suc i) zero y h = refl
set_other (x ∷ xs) (suc i) (suc n) y h = set_other xs i n y (λ e. h (ap suc e))

pub set_here : {X : Type 0} (xs : List X) (i : ℕ) (y : X) → i < length xs → slice_get (set xs i y) i ≡ Some y
set_here [] i y h = absurd (omega (arith, h))
set_here (x ∷ xs) zero y h = refl
set_here (x ∷ xs) (suc i) y h = set_here xs i y (omega (arith, h))

-- ---- tests

pub true-or-false : (b : Bool) → (b ≡ true) ⊎ (b ≡ false)
true-or-false true = inl refl
true-or-false false = inr refl

pub not-both : (b : Bool) → b ≡ true → b ≡ false → ⊥
not-both true h k = cc
not-both false h k = cc

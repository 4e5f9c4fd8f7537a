-- The first of a list that passes a test, and the ranges of a list in normal form.
use Rattle.std.proofs.Common.{◌≡◌, Bool, true, false, List, [], ◌∷◌, ◌++◌, Some, None, refl, ap, ◌∙◌, subst, cond, Contains}
use Rattle.std.specs.Prelude.{find}
use Rattle.std.specs.List.{list_any}
use Rattle.spf_region.proofs.Bools.{or-cases, or-left, or-right}
use Rattle.spf_ast_lemmas.proofs.Members.{cases, first-in, later-in, first-or-later, none-in}

-- some item passes the test
pub any-there : {A : Type 0} (t : A → Bool) (xs : List A) → list_any t xs ≡ true → (x : A) × Contains xs x × (t x ≡ true)
any-there t [] e = cc
any-there {A} t (x ∷ xs) e = cases (or-cases (t x) _ e) (λ h. (x, first-in x xs, h)) (λ h. behind (any-there t xs h))
  where
    behind : (y : A) × Contains xs y × (t y ≡ true) → (y : A) × Contains (x ∷ xs) y × (t y ≡ true)
    behind (y, i, h) = (y, later-in x y xs i, h)

pub any-of : {A : Type 0} (t : A → Bool) (xs : List A) (x : A) → Contains xs x → t x ≡ true → list_any t xs ≡ true
any-of t [] x i h = absurd (none-in x i)
any-of t (y ∷ xs) x i h = cases (first-or-later y x xs i) (λ e. or-left (t y) _ (ap t e ∙ h)) (λ j. or-right (t y) _ (any-of t xs x j h))

pub none-any : {A : Type 0} (t : A → Bool) (xs : List A) (x : A) → list_any t xs ≡ false → Contains xs x → t x ≡ true → ⊥
none-any t xs x e i h = let y = any-of t xs x i h in cc

-- nothing is found where nothing passes
pub find-none : {A : Type 0} (t : A → Bool) (xs : List A) (x : A) → find t xs ≡ None → Contains xs x → t x ≡ true → ⊥
find-none t [] x e i h = none-in x i
find-none {A} t (y ∷ xs) x e i h = go (t y) refl e (find-none t xs x)
  where
    go : (b : Bool) → t y ≡ b → cond b (Some y) (find t xs) ≡ None → (find t xs ≡ None → Contains xs x → t x ≡ true → ⊥) → ⊥
    go true q e further = cc
    go false q e further = cases (first-or-later y x xs i) (λ same. let z = ap t same in cc) (λ j. further e j h)

pub none-find : {A : Type 0} (t : A → Bool) (xs : List A) → ((x : A) → Contains xs x → t x ≡ true → ⊥) → find t xs ≡ None
none-find t [] h = refl
none-find {A} t (y ∷ xs) h = go (t y) refl (none-find t xs (λ x i. h x (later-in y x xs i)))
  where
    go : (b : Bool) → t y ≡ b → find t xs ≡ None → cond b (Some y) (find t xs) ≡ None
    go true q further = absurd (h y (first-in y xs) q)
    go false q further = further

-- what is found passes, and nothing before it does
pub record Found {A : Type 0} (t : A → Bool) (xs : List A) (x : A) : Type 0 where
  pub before : List A
  pub later : List A
  pub parts : xs ≡ before ++ x ∷ later
  pub passes : t x ≡ true
  pub others : (y : A) → Contains before y → t y ≡ false

pub find-some : {A : Type 0} (t : A → Bool) (xs : List A) (x : A) → find t xs ≡ Some x → Found t xs x
find-some t [] x e = cc
find-some {A} t (y ∷ xs) x e = go (t y) refl e (find-some t xs x)
  where
    go : (b : Bool) → t y ≡ b → cond b (Some y) (find t xs) ≡ Some x → (find t xs ≡ Some x → Found t xs x) → Found t (y ∷ xs) x
    go true q e further =
        let same : y ≡ x = cc in
        record { before = []; later = xs; parts = ap (λ z. z ∷ xs) same; passes = subst (λ z. t z ≡ true) same q; others = λ z i. absurd (none-in z i) }
    go false q e further =
        let f = further e in
        record { before = y ∷ f.before; later = f.later; parts = ap (λ l. y ∷ l) f.parts; passes = f.passes; others = λ z i. cases (first-or-later y z f.before i) (λ same. subst (λ w. t w ≡ false) same q) (f.others z) }

-- and it stands in the list
pub found-there : {A : Type 0} (t : A → Bool) (xs : List A) (x : A) → find t xs ≡ Some x → Contains xs x
found-there t [] x e = cc
found-there {A} t (y ∷ xs) x e = go (t y) e (found-there t xs x)
  where
    go : (b : Bool) → cond b (Some y) (find t xs) ≡ Some x → (find t xs ≡ Some x → Contains xs x) → Contains (y ∷ xs) x
    go true e further = let same : y ≡ x = cc in subst (Contains (y ∷ xs)) same (first-in y xs)
    go false e further = later-in y x xs (further e)

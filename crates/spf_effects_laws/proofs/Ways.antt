-- What holds on every way along a tree, and how it goes together.
use Rattle.std.proofs.Common.{◌≡◌, ◌⊎◌, inl, inr, ℕ, zero, suc, List, [], ◌∷◌, refl, sym, subst, arith}
use Rattle.std.specs.List.{Contains}
use Rattle.spf_ast.specs.Interaction.{Interaction, Answer, AskLoad, AskStore, AskTurn, bind}
use Rattle.spf_effects_laws.specs.Ways.{Keeps}

-- ---- the cells that have been stored

abbrev pub IsIn : ℕ → List ℕ → Type 0
IsIn cell stored = Contains stored cell

pub in-none : {P : Type 0} (c : ℕ) → IsIn c [] → P
in-none c h = absurd (omega (arith, h.1))

pub in-first : (c d : ℕ) (ds : List ℕ) → c ≡ d → IsIn c (d ∷ ds)
in-first c d ds e = subst (λ x. IsIn x (d ∷ ds)) (sym e) (zero, omega arith, refl)

pub in-rest : (c d : ℕ) (ds : List ℕ) → IsIn c ds → IsIn c (d ∷ ds)
in-rest c d ds h = (suc h.0, (let l = h.1 in omega (arith, l)), h.2)

abbrev pub Grows : List ℕ → List ℕ → Type 0
Grows old new = (c : ℕ) → IsIn c old → IsIn c new

-- ---- ways

-- goes on from the answer
pub keeps-bind : {A B : Type 0} (may bare : ℕ → Type 0) (mid : A → List ℕ → Type 0) (ends : B → List ℕ → Type 0) (next : A → Interaction B) → ((a : A) (d : List ℕ) → mid a d → Keeps may bare ends d (next a)) → (t : Interaction A) (done : List ℕ) → Keeps may bare mid done t → Keeps may bare ends done (bind t next)
keeps-bind may bare mid ends next go (Answer a) done h = go a done h
keeps-bind may bare mid ends next go (AskLoad c k) done h = (h.0, λ w. keeps-bind may bare mid ends next go (k w) done (h.1 w))
keeps-bind may bare mid ends next go (AskStore c w t) done h = (h.0, keeps-bind may bare mid ends next go t (c ∷ done) h.1)
keeps-bind may bare mid ends next go (AskTurn t) done h = keeps-bind may bare mid ends next go t done h

-- more is allowed, and less is wanted of the end, where the cells stored by then are known to be more
pub keeps-mono : {A : Type 0} (may bare may' bare' : ℕ → Type 0) (ends ends' : A → List ℕ → Type 0) (first : List ℕ) → ((c : ℕ) → may c → may' c) → ((c : ℕ) → bare c → bare' c) → ((a : A) (d : List ℕ) → Grows first d → ends a d → ends' a d) → (t : Interaction A) (done : List ℕ) → Grows first done → Keeps may bare ends done t → Keeps may' bare' ends' done t
keeps-mono may bare may' bare' ends ends' first m b e (Answer a) done grows h = e a done grows h
keeps-mono may bare may' bare' ends ends' first m b e (AskLoad c k) done grows h =
    (either_bare h.0, λ w. keeps-mono may bare may' bare' ends ends' first m b e (k w) done grows (h.1 w))
  where
    either_bare : bare c ⊎ IsIn c done → bare' c ⊎ IsIn c done
    either_bare (inl x) = inl (b c x)
    either_bare (inr x) = inr x
keeps-mono may bare may' bare' ends ends' first m b e (AskStore c w t) done grows h =
    (m c h.0, keeps-mono may bare may' bare' ends ends' first m b e t (c ∷ done) (λ d x. in-rest d c done (grows d x)) h.1)
keeps-mono may bare may' bare' ends ends' first m b e (AskTurn t) done grows h = keeps-mono may bare may' bare' ends ends' first m b e t done grows h

-- two ends at once
pub keeps-both : {A : Type 0} (may bare may' bare' : ℕ → Type 0) (ends ends' : A → List ℕ → Type 0) (t : Interaction A) (done : List ℕ) → Keeps may bare ends done t → Keeps may' bare' ends' done t → Keeps may bare (λ a d. ends a d × ends' a d) done t
keeps-both may bare may' bare' ends ends' (Answer a) done h i = (h, i)
keeps-both may bare may' bare' ends ends' (AskLoad c k) done h i = (h.0, λ w. keeps-both may bare may' bare' ends ends' (k w) done (h.1 w) (i.1 w))
keeps-both may bare may' bare' ends ends' (AskStore c w t) done h i = (h.0, keeps-both may bare may' bare' ends ends' t (c ∷ done) h.1 i.1)
keeps-both may bare may' bare' ends ends' (AskTurn t) done h i = keeps-both may bare may' bare' ends ends' t done h i

-- of any tree: nothing is forbidden and nothing is wanted
abbrev pub Anything : ℕ → Type 0
Anything c = Unit {0}

pub keeps-any : {A : Type 0} (t : Interaction A) (done : List ℕ) → Keeps Anything Anything (λ a d. Unit {0}) done t
keeps-any (Answer a) done = tt
keeps-any (AskLoad c k) done = (inl tt, λ w. keeps-any (k w) done)
keeps-any (AskStore c w t) done = (tt, keeps-any t (c ∷ done))
keeps-any (AskTurn t) done = keeps-any t done

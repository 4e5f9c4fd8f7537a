-- First faults of one form after another.
use Rattle.std.proofs.Common.{◌≡◌, List, [], ◌∷◌, ◌++◌, ◌⊎◌, inl, inr, Some, refl, sym, ap, ◌∙◌, subst}
use Rattle.spf_types_names.specs.declared.fault.TypeError.{TypeError}
use Rattle.spf_types_names.specs.declared.fault.TypeError.TheVariants.{Refused, OutOfMemory}
use Rattle.spf_types_names.specs.Faults.{Fault, first}
use Rattle.spf_types_names.specs.Answers.{Refuses}

first_ahead : {f : Fault} (xs ys : List Fault) → first xs ≡ Some f → first (xs ++ ys) ≡ Some f
first_ahead [] ys e = cc
first_ahead (x ∷ xs) ys e = e

-- a refusal for the first faults is one for all
pub ahead : (xs ys : List Fault) (why : TypeError) → Refuses xs why → Refuses (xs ++ ys) why
ahead xs ys (Refused fault line) h = first_ahead xs ys h
ahead xs ys OutOfMemory h = tt

-- where the first forms have no faults, a refusal for the rest is one for all
pub behind : (xs ys : List Fault) (why : TypeError) → xs ≡ [] → Refuses ys why → Refuses (xs ++ ys) why
behind xs ys why e h = subst (λ fs. Refuses (fs ++ ys) why) (sym e) h

pub none_in : (xs ys : List Fault) → xs ≡ [] → ys ≡ [] → xs ++ ys ≡ []
none_in xs ys e f = ap (λ fs. fs ++ ys) e ∙ f

-- faults that are the same have the same refusals
pub along : (faults same : List Fault) (why : TypeError) → faults ≡ same → Refuses same why → Refuses faults why
along faults same why e h = subst (λ fs. Refuses fs why) (sym e) h

-- no fault in both means none in either
pub append_none : (xs ys : List Fault) → xs ++ ys ≡ [] → (xs ≡ []) × (ys ≡ [])
append_none [] ys e = (refl, e)
append_none (x ∷ xs) ys e = cc

-- the first of all faults is the first of the first ones, or there are none of these
pub first_in : (xs ys : List Fault) (f : Fault) → first (xs ++ ys) ≡ Some f → (first xs ≡ Some f) ⊎ ((xs ≡ []) × (first ys ≡ Some f))
first_in [] ys f e = inr (refl, e)
first_in (x ∷ xs) ys f e = inl e

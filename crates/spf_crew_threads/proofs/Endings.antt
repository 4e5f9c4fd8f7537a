-- What mates are once all have ended.
use Rattle.std.proofs.Common.{◌≡◌, ℕ, zero, suc, ◌<◌, true, List, [], ◌∷◌, length, get_or, sym, refl, ◌∙◌, subst, arith}
use Rattle.std.specs.List.{All}
use mathlib.Core.Option.{some, some-injective, some-ne-none}
use lib.ListN.{get_elem?}
use Rattle.spf_crew.specs.Values.{CrewValue}
use Rattle.spf_crew.specs.Mates.{MateValue, IsMateOf}
use Rattle.spf_crew.specs.Crews.{IsNumbered, AreAllMates, HaveRead}
use Rattle.spf_crew_threads.specs.Driving.{HasReadAt}

below : {A : Type 0} (l : List A) (i : ℕ) (a : A) → get_elem? l i ≡ some a → i < length l
below [] i a at = absurd (some-ne-none a (sym at))
below (x ∷ xs) zero a at = omega arith
below (x ∷ xs) (suc i) a at = let h = below xs i a at in omega (arith, h)

present : {A : Type 0} (l : List A) (i : ℕ) (d : A) → i < length l → get_elem? l i ≡ some (get_or l i d)
present [] i d less = absurd (omega arith)
present (x ∷ xs) zero d less = refl
present (x ∷ xs) (suc i) d less = present xs i d (omega (arith, less))

-- all mates of a crew are mates of it
pub all-of : (c : CrewValue) (mates : List MateValue) → AreAllMates c mates → All (IsMateOf c) mates
all-of c mates all = λ k d low. (all.each k (get_or mates k d) (present mates k d low)).of

-- one mate after all have ended
one : (c : CrewValue) (old new : List MateValue) → AreAllMates c old → length new ≡ length old → ((i : ℕ) (d : MateValue) → i < length old → HasReadAt c (get_or old i d) (get_or new i d))
    → (i : ℕ) (m : MateValue) → get_elem? new i ≡ some m → IsNumbered c i m × (m.seat.read ≡ true)
one c old new all count each i m at =
    let low = below new i m at in
    let inside : i < length old = omega (arith, low, count) in
    let h = each i m inside in
    let is : get_or new i m ≡ m = some-injective (get_or new i m) m (sym (present new i m low) ∙ at) in
    let was = all.each i (get_or old i m) (present old i m inside) in
    subst (λ (y : MateValue). IsNumbered c i y × (y.seat.read ≡ true)) is (record { of = h.of; from = h.from ∙ was.from; to = h.to ∙ was.to }, h.read)

pub still-all : (c : CrewValue) (old new : List MateValue) → AreAllMates c old → length new ≡ length old → ((i : ℕ) (d : MateValue) → i < length old → HasReadAt c (get_or old i d) (get_or new i d)) → AreAllMates c new
still-all c old new all count each = record { each = λ i m at. (one c old new all count each i m at).0; count = count ∙ all.count }

pub have-read : (c : CrewValue) (old new : List MateValue) → AreAllMates c old → length new ≡ length old → ((i : ℕ) (d : MateValue) → i < length old → HasReadAt c (get_or old i d) (get_or new i d)) → HaveRead new
have-read c old new all count each = λ i m at. (one c old new all count each i m at).1

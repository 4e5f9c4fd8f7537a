-- Facts on two things.
use Rattle.std.proofs.Common.{◌≡◌, subst}

-- what holds for two things holds for their equals
pub moved : {A B : Type 0} (P : A → B → Type 0) (a c : A) (b d : B) → a ≡ c → b ≡ d → P a b → P c d
moved P a c b d same alike h = subst (λ x. P x d) same (subst (λ x. P a x) alike h)

-- Rows are the same where they are found to be so, part by part.
use Rattle.std.proofs.Common.{◌≡◌, Bool, true, false, [], ◌∷◌, refl, ap, ◌∙◌, subst}
use Rattle.std.specs.Prelude.{◌&&◌, ◌↔◌}
use Rattle.std.specs.Ordering.{int_eq}
use Rattle.std.proofs.lemmas.Bool.Decides.{Decides-int_eq}
use Rattle.spf_ast.specs.Carried.{Carried, same_carried}

-- both of two tests hold
both : (x y : Bool) → (x && y) ≡ true → (x ≡ true) × (y ≡ true)
both true y h = (refl, h)
both false y h = cc

pub found-same : (one other : Carried) → same_carried one other ≡ true → one ≡ other
found-same [] [] h = refl
found-same [] (b ∷ other) h = cc
found-same (a ∷ one) [] h = cc
found-same (a ∷ one) (b ∷ other) h =
    let e = both (int_eq a b) (same_carried one other) h in
    ap (λ x. x ∷ one) ((Decides-int_eq a b).0 e.0) ∙ ap (λ l. b ∷ l) (found-same one other e.1)

pub same-found : (row : Carried) → same_carried row row ≡ true
same-found [] = refl
same-found (a ∷ row) = rw ((Decides-int_eq a a).1 refl) (same-found row)

pub Decides-same_carried : (one other : Carried) → (same_carried one other ≡ true) ↔ (one ≡ other)
Decides-same_carried one other = (found-same one other, λ same. subst (λ row. same_carried one row ≡ true) same (same-found one))

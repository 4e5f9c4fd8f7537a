-- What holds of a vector that a call gives where it succeeds.
use Rattle.std.proofs.Common.{◌≡◌, List, subst, sym}
use Rattle.std.specs.Prelude.{Result, Ok, Err, IfOk}
use Rattle.spf_region.specs.declared.range.Range.{Range}
use Rattle.spf_region.specs.declared.span.Span.{Span}

-- what holds of a list holds of the vector that has it
holds : {X V E : Type 0} (items : V → List X) (P : List X → Type 0) (r : Result V E) (xs : List X) → P xs → IfOk r (λ v. items v ≡ xs) → IfOk r (λ v. P (items v))
holds items P (Ok v) xs p e = subst P (sym e) p
holds items P (Err e) xs p h = tt

pub given : {V E : Type 0} (items : V → List Range) (P : List Range → Type 0) (r : Result V E) (xs : List Range) → P xs → IfOk r (λ v. items v ≡ xs) → IfOk r (λ v. P (items v))
given items P r xs p h = holds items P r xs p h

pub given-spans : {V E : Type 0} (items : V → List Span) (P : List Span → Type 0) (r : Result V E) (xs : List Span) → P xs → IfOk r (λ v. items v ≡ xs) → IfOk r (λ v. P (items v))
given-spans items P r xs p h = holds items P r xs p h

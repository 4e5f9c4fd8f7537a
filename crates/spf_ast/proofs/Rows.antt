-- Rows of words.
use Rattle.std.proofs.Common.{◌≡◌, ◌≢◌, ℕ, zero, suc, Bool, true, false, List, [], ◌∷◌, length, take, ℤ, pos, refl, ap, arith}
use Rattle.std.specs.Prelude.{◌&&◌}
use Rattle.std.specs.Ordering.{int_eq}
use Rattle.spf_ast.specs.Carried.{Carried, IsWidth, no_row, same_carried}
use Rattle.spf_ast.specs.RowFields.{IsRow}

abbrev zeros : List ℤ
zeros = pos 0 ∷ pos 0 ∷ pos 0 ∷ pos 0 ∷ []

-- four zeros are a row of any width
pub zeros-are : (width : ℕ) → IsWidth width → IsRow zeros width × (take width zeros ≡ no_row width)
zeros-are zero w = let no : ⊥ = omega (arith, w.0) in absurd no
zeros-are (suc zero) w = (record { some = omega arith; few = omega arith; all = refl; rest = refl }, refl)
zeros-are (suc (suc zero)) w = (record { some = omega arith; few = omega arith; all = refl; rest = refl }, refl)
zeros-are (suc (suc (suc zero))) w = (record { some = omega arith; few = omega arith; all = refl; rest = refl }, refl)
zeros-are (suc (suc (suc (suc zero)))) w = (record { some = omega arith; few = omega arith; all = refl; rest = refl }, refl)
zeros-are (suc (suc (suc (suc (suc n))))) w = let no : ⊥ = omega (arith, w.1) in absurd no

-- rows of unlike widths differ
pub same-width : (one other : Carried) → length one ≢ length other → same_carried one other ≡ false
same-width [] [] h = let no : ⊥ = h refl in absurd no
same-width [] (b ∷ other) h = refl
same-width (a ∷ one) [] h = refl
same-width (a ∷ one) (b ∷ other) h = go (int_eq a b) (same_carried one other) (same-width one other (λ e. h (ap suc e)))
  where
    go : (e rest : Bool) → rest ≡ false → (e && rest) ≡ false
    go true rest l = l
    go false rest l = refl

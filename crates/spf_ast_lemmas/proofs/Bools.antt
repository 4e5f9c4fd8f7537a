-- Tests that are joined.
use Rattle.std.proofs.Common.{◌≡◌, Bool, true, false, refl}
use Rattle.std.specs.Prelude.{◌||◌}

-- where neither of two tests holds, each fails
pub neither : (x y : Bool) → (x || y) ≡ false → (x ≡ false) × (y ≡ false)
neither true y e = cc
neither false y e = (refl, e)

-- where both of two tests fail, so does the one or the other
pub either_fails : (x y : Bool) → x ≡ false → y ≡ false → (x || y) ≡ false
either_fails true y d e = cc
either_fails false y d e = e

-- Products and sums of 64 bits fit 128.
use Rattle.std.proofs.Common.{◌≡◌, ℕ, ◌*◌, ◌≤◌, ◌^◌, ◌-◌, ℤ, pos, arith, FitsSigned, w64, to_z, ◌∙◌}
use Rattle.std.specs.Prelude.{◌+ℤ◌, ◌*ℤ◌, ◌<ℤ◌, unsigned_abs}
use Rattle.std.proofs.lemmas.Int.{ints, to_z-of_z, unsigned_abs-mul}
use Rattle.std.proofs.Math.Nat.{mul-le-mul}
use mir.Syntax.{w128}
use mir.Val.{of_z}

abs-small : (a : ℤ) → FitsSigned w64 a → unsigned_abs a ≤ 2 ^ 63
abs-small a f = omega (arith, ints, f)

products : (x y : ℕ) → x ≤ 2 ^ 63 → y ≤ 2 ^ 63 → x * y ≤ 2 ^ 126
products x y p q = mul-le-mul p q

pub product-small : (a b : ℤ) → FitsSigned w64 a → FitsSigned w64 b → unsigned_abs (a *ℤ b) ≤ 2 ^ 126
product-small a b f g = rw (unsigned_abs-mul a b) (products (unsigned_abs a) (unsigned_abs b) (abs-small a f) (abs-small b g))

pub sum-fits : (z o : ℤ) → unsigned_abs z ≤ 2 ^ 126 → FitsSigned w64 o → FitsSigned w128 (z +ℤ o)
sum-fits z o small f = omega (arith, ints)

pub sum-small : (z o : ℤ) → unsigned_abs z ≤ 2 ^ 126 → FitsSigned w64 o → (z +ℤ o) <ℤ pos (2 ^ 127 - 1)
sum-small z o small f = omega (arith, ints)

pub next-fits : (z : ℤ) → FitsSigned w128 z → z <ℤ pos (2 ^ 127 - 1) → FitsSigned w128 (z +ℤ pos 1)
next-fits z f h = omega (arith, ints)

-- ---- what conversions and a product give

wide-fits : (a : ℤ) → FitsSigned w64 a → FitsSigned w128 a
wide-fits a f = omega (arith, ints, f)

product-fits : (a b : ℤ) → FitsSigned w64 a → FitsSigned w64 b → FitsSigned w128 (a *ℤ b)
product-fits a b f g = let small = product-small a b f g in omega (arith, ints, small)

-- a word of 64 bits, as one of 128
pub widened : (a x : ℤ) → FitsSigned w64 a → x ≡ to_z w64 (of_z w64 a) → to_z w128 (of_z w128 x) ≡ a
widened a x f e =
    let same : x ≡ a = e ∙ to_z-of_z w64 a f in
    rw same (to_z-of_z w128 a (wide-fits a f))

-- the product of two such words
pub product-is : (a b x y : ℤ) → FitsSigned w64 a → FitsSigned w64 b → x ≡ to_z w64 (of_z w64 a) → y ≡ to_z w64 (of_z w64 b)
    → to_z w128 (of_z w128 (to_z w128 (of_z w128 x) *ℤ to_z w128 (of_z w128 y))) ≡ a *ℤ b
product-is a b x y f g d e = rw (widened a x f d, widened b y g e) (to_z-of_z w128 (a *ℤ b) (product-fits a b f g))

pub product-fits-wide : (a b x y : ℤ) → FitsSigned w64 a → FitsSigned w64 b → x ≡ to_z w64 (of_z w64 a) → y ≡ to_z w64 (of_z w64 b)
    → FitsSigned w128 (to_z w128 (of_z w128 x) *ℤ to_z w128 (of_z w128 y))
product-fits-wide a b x y f g d e = rw (widened a x f d, widened b y g e) (product-fits a b f g)

-- ---- what a sum gives

small-fits : (z : ℤ) → unsigned_abs z ≤ 2 ^ 126 → FitsSigned w128 z
small-fits z small = omega (arith, ints, small)

pub sum-fits-wide : (z o x : ℤ) → unsigned_abs z ≤ 2 ^ 126 → FitsSigned w64 o → x ≡ to_z w64 (of_z w64 o)
    → FitsSigned w128 (to_z w128 (of_z w128 z) +ℤ to_z w128 (of_z w128 x))
sum-fits-wide z o x small f e = rw (to_z-of_z w128 z (small-fits z small), widened o x f e) (sum-fits z o small f)

pub sum-is : (z o x : ℤ) → unsigned_abs z ≤ 2 ^ 126 → FitsSigned w64 o → x ≡ to_z w64 (of_z w64 o)
    → to_z w128 (of_z w128 (to_z w128 (of_z w128 z) +ℤ to_z w128 (of_z w128 x))) ≡ z +ℤ o
sum-is z o x small f e = rw (to_z-of_z w128 z (small-fits z small), widened o x f e) (to_z-of_z w128 (z +ℤ o) (sum-fits z o small f))

-- Tests and what they say.
use Rattle.std.proofs.Common.{◌≡◌, ◌⊎◌, inl, inr, Bool, true, false, ℤ, refl, sym, arith}
use Rattle.std.specs.Prelude.{◌≤ℤ◌, ◌<ℤ◌, ◌&&◌, ◌||◌, int_le, int_lt}
use Rattle.std.proofs.lemmas.Int.{ints}

pub and-left : (x y : Bool) → (x && y) ≡ true → x ≡ true
and-left true y e = refl
and-left false y e = cc

pub and-right : (x y : Bool) → (x && y) ≡ true → y ≡ true
and-right true y e = e
and-right false y e = cc

pub both-true : (x y : Bool) → x ≡ true → y ≡ true → (x && y) ≡ true
both-true true y e f = f
both-true false y e f = cc

pub or-cases : (x y : Bool) → (x || y) ≡ true → (x ≡ true) ⊎ (y ≡ true)
or-cases true y e = inl refl
or-cases false y e = inr e

pub or-left : (x y : Bool) → x ≡ true → (x || y) ≡ true
or-left true y e = refl
or-left false y e = cc

pub or-right : (x y : Bool) → y ≡ true → (x || y) ≡ true
or-right true y e = refl
or-right false y e = e

pub or-assoc : (x y z : Bool) → (x || (y || z)) ≡ ((x || y) || z)
or-assoc true y z = refl
or-assoc false y z = refl

pub or-swap : (x y z : Bool) → (x || (y || z)) ≡ (y || (x || z))
or-swap true true z = refl
or-swap true false z = refl
or-swap false y z = refl

pub same-bool : (x y : Bool) → (x ≡ true → y ≡ true) → (y ≡ true → x ≡ true) → x ≡ y
same-bool true y p q = sym (p refl)
same-bool false true p q = q refl
same-bool false false p q = refl

pub never : (x : Bool) → (x ≡ true → ⊥) → x ≡ false
never true p = absurd (p refl)
never false p = refl

pub int-le-is : (a b : ℤ) → int_le a b ≡ true → a ≤ℤ b
int-le-is a b e = grind (arith, ints, e)

pub int-le-of : (a b : ℤ) → a ≤ℤ b → int_le a b ≡ true
int-le-of a b h = grind (arith, ints, h)

pub int-lt-is : (a b : ℤ) → int_lt a b ≡ true → a <ℤ b
int-lt-is a b e = grind (arith, ints, e)

pub int-le-not : (a b : ℤ) → int_le a b ≡ false → b <ℤ a
int-le-not a b e = grind (arith, ints, e)

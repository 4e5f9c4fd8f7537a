-- What is kept between two numbers in any order.
use Rattle.std.proofs.Common.{◌≡◌, ◌⊎◌, inl, inr, Bool, true, false, ℤ, refl, sym, arith}
use Rattle.std.specs.Prelude.{Option, Some, None, if◌then◌else◌}
use Rattle.std.specs.Int.{int_min, int_max}
use Rattle.std.proofs.lemmas.Int.{ints, clamps}
use Rattle.spf_region.specs.declared.bound.Bound.TheVariants.{Unknown}
use Rattle.spf_region.specs.Bounds.{is_small, small, known}
use Rattle.spf_region.specs.Between.{known_between}

-- the lesser and the greater of two numbers are the two, in one order or the other
in_order : (x y : ℤ) → ((int_min x y ≡ x) × (int_max x y ≡ y)) ⊎ ((int_min x y ≡ y) × (int_max x y ≡ x))
in_order x y = grind (arith, ints, clamps)

known_none : (f low : Option ℤ) → known f low None ≡ Unknown
known_none (Some f) (Some l) = refl
known_none (Some f) None = refl
known_none None low = refl

known_no_low : (f high : Option ℤ) → known f None high ≡ Unknown
known_no_low (Some f) high = refl
known_no_low None high = refl

pub between_products : (f : Option ℤ) (x y : ℤ) → known_between f (small x) (small y) ≡ known f (small (int_min x y)) (small (int_max x y))
between_products f x y = go (is_small x) (is_small y) refl refl (in_order x y)
  where
    go : (p q : Bool) → is_small x ≡ p → is_small y ≡ q → ((int_min x y ≡ x) × (int_max x y ≡ y)) ⊎ ((int_min x y ≡ y) × (int_max x y ≡ x)) →
        known_between f (if p then Some x else None) (if q then Some y else None) ≡ known f (small (int_min x y)) (small (int_max x y))
    go true true a b (inl e) = rw (e.0, e.1, a, b) refl
    go true true a b (inr e) = rw (e.0, e.1, a, b) refl
    go true false a b (inl e) = rw (e.0, e.1, a, b) (sym (known_none f (Some x)))
    go true false a b (inr e) = rw (e.0, e.1, a, b) (sym (known_no_low f (Some x)))
    go false q a b (inl e) = rw (e.0, e.1, a) (sym (known_no_low f (small y)))
    go false q a b (inr e) = rw (e.0, e.1, a) (sym (known_none f (small y)))

-- How a bound between two numbers in any order is made.
use Rattle.std.specs.Prelude.{Option, Some, None, ℤ}
use Rattle.std.specs.Int.{int_min, int_max}
use Rattle.spf_region.specs.declared.bound.Bound.{Bound}
use Rattle.spf_region.specs.declared.bound.Bound.TheVariants.{Unknown}
use Rattle.spf_region.specs.Bounds.{known}

-- known where all three numbers are given; the last two may be in either order
abbrev pub known_between : Option ℤ → Option ℤ → Option ℤ → Bound
known_between factor (Some a) (Some b) = known factor (Some (int_min a b)) (Some (int_max a b))
known_between factor (Some a) None = Unknown
known_between factor None other = Unknown

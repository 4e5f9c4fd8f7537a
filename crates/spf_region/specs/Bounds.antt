-- Bounds of numbers at a block number k: a number lies between factor * k + low and factor * k + high, or nothing is known of it.
use Rattle.std.specs.Prelude.{
  ◌^◌,
  Bool,
  false,
  Option,
  Some,
  None,
  if◌then◌else◌,
  ◌&&◌,
  nat_le,
  nat_lt,
  ℤ,
  pos,
  negsuc,
  ◌+ℤ◌,
  ◌-ℤ◌,
  ◌*ℤ◌,
  neg_ℤ,
  int_le,
  int_lt,
}
use Rattle.std.specs.Ordering.{int_eq}
use Rattle.std.specs.Int.{int_min, int_max}
use Rattle.spf_region.specs.declared.bound.Bound.{Bound}
use Rattle.spf_region.specs.declared.bound.Bound.TheVariants.{Known, Unknown}

-- a number of magnitude at most 2^40
abbrev pub is_small : ℤ → Bool
is_small (pos n) = nat_le n (2 ^ 40)
is_small (negsuc n) = nat_lt n (2 ^ 40)

-- the number itself where it is small
abbrev pub small : ℤ → Option ℤ
small n = if is_small n then Some n else None

-- known where all three numbers are given
abbrev pub known : Option ℤ → Option ℤ → Option ℤ → Bound
known (Some factor) (Some low) (Some high) = Known factor low high
known (Some factor) (Some low) None = Unknown
known (Some factor) None high = Unknown
known None low high = Unknown

-- the bound of these numbers; unknown where one of them has a magnitude over 2^40
abbrev pub kept : ℤ → ℤ → ℤ → Bound
kept factor low high = known (small factor) (small low) (small high)

-- a number
abbrev pub number : ℤ → Bound
number n = kept (pos 0) n n

-- x + y
abbrev pub plus : Bound → Bound → Bound
plus Unknown y = Unknown
plus (Known a l h) Unknown = Unknown
plus (Known a l h) (Known b m i) = kept (a +ℤ b) (l +ℤ m) (h +ℤ i)

-- x - y
abbrev pub minus : Bound → Bound → Bound
minus Unknown y = Unknown
minus (Known a l h) Unknown = Unknown
minus (Known a l h) (Known b m i) = kept (a -ℤ b) (l -ℤ i) (h -ℤ m)

-- -x
abbrev pub negated : Bound → Bound
negated Unknown = Unknown
negated (Known a l h) = kept (neg_ℤ a) (neg_ℤ h) (neg_ℤ l)

-- the one number that a bound leaves at every block, where it does
abbrev pub constant : Bound → Option ℤ
constant Unknown = None
constant (Known a l h) = if int_eq a (pos 0) && int_eq l h then Some l else None

-- x * c
abbrev pub scaled : Bound → ℤ → Bound
scaled Unknown c = Unknown
scaled (Known a l h) c = kept (a *ℤ c) (int_min (l *ℤ c) (h *ℤ c)) (int_max (l *ℤ c) (h *ℤ c))

-- x * y, where the right one is a constant, or else the left one
abbrev pub times_constants : Bound → Option ℤ → Bound → Option ℤ → Bound
times_constants x left y (Some c) = scaled x c
times_constants x (Some c) y None = scaled y c
times_constants x None y None = Unknown

-- x * y
abbrev pub times : Bound → Bound → Bound
times x y = times_constants x (constant x) y (constant y)

-- at every block at least 0
abbrev pub is_at_least_zero : Bound → Bool
is_at_least_zero Unknown = false
is_at_least_zero (Known a l h) = int_eq a (pos 0) && int_le (pos 0) l

-- x % c for positive c: from 0 to c - 1 where x is at least 0, otherwise from -(c - 1) to c - 1
abbrev pub remainder_by : Bound → Option ℤ → Bound
remainder_by x None = Unknown
remainder_by x (Some c) =
    if int_lt (pos 0) c then (if is_at_least_zero x then kept (pos 0) (pos 0) (c -ℤ pos 1) else kept (pos 0) (neg_ℤ (c -ℤ pos 1)) (c -ℤ pos 1)) else Unknown

-- x % y
abbrev pub remainder : Bound → Bound → Bound
remainder x y = remainder_by x (constant y)

-- x & c for c of at least 0: from 0 to c; otherwise the other bound
abbrev pub masked_by : Option ℤ → Bound → Bound
masked_by None other = other
masked_by (Some c) other = if int_le (pos 0) c then kept (pos 0) (pos 0) c else other

-- x & y, by the right one where it is such a constant, or else by the left one
abbrev pub masked : Bound → Bound → Bound
masked x y = masked_by (constant y) (masked_by (constant x) Unknown)

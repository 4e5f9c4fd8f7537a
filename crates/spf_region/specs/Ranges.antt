-- Ranges of cells: the offsets and the whole arrays that a list of them has, and the one form in which a list is kept.
use Rattle.std.specs.Prelude.{
  ◌≡◌,
  ◌⊎◌,
  ℕ,
  zero,
  suc,
  ◌<◌,
  ◌≤◌,
  Bool,
  true,
  false,
  not,
  ◌==◌,
  ◌&&◌,
  ◌||◌,
  Option,
  List,
  [],
  ◌∷◌,
  find,
  ℤ,
  pos,
  ◌+ℤ◌,
  ◌-ℤ◌,
  ◌≤ℤ◌,
  ◌<ℤ◌,
  int_le,
  int_lt,
}
use Rattle.std.specs.List.{list_any}
use Rattle.std.specs.Ordering.{int_eq}
use Rattle.std.specs.Int.{int_gap, int_min, int_max}
use Rattle.spf_region.specs.declared.range.Range.{Range}
use Rattle.spf_region.specs.declared.range.Range.TheVariants.{Whole, Affine}

-- a set of offsets, each of an array and a factor
abbrev pub Offsets : Type 0
Offsets = ℕ → ℤ → ℤ → Bool

-- a set of arrays
abbrev pub Arrays : Type 0
Arrays = ℕ → Bool

abbrev pub is_between : ℤ → ℤ → ℤ → Bool
is_between low high z = int_le low z && int_le z high

-- the array of a range
abbrev pub array_of : Range → ℕ
array_of (Whole a) = a
array_of (Affine a f from to) = a

-- an affine range without an offset
abbrev pub is_empty : Range → Bool
is_empty (Whole a) = false
is_empty (Affine a f from to) = int_lt to from

-- the offsets of a range; a whole array has none
abbrev pub has_offset : Range → Offsets
has_offset (Whole a) array factor offset = false
has_offset (Affine a f from to) array factor offset = (array == a) && (int_eq factor f && is_between from to offset)

-- the array that a range is the whole of
abbrev pub is_whole : Range → Arrays
is_whole (Whole a) array = array == a
is_whole (Affine a f from to) array = false

-- the offsets of a list of ranges
abbrev pub offsets_of : List Range → Offsets
offsets_of list array factor offset = list_any (λ r. has_offset r array factor offset) list

-- the arrays that a list has as a whole
abbrev pub wholes_of : List Range → Arrays
wholes_of list array = list_any (λ r. is_whole r array) list

-- the arrays of a list: some range has that array
abbrev pub has_array : List Range → Arrays
has_array list array = list_any (λ r. array_of r == array) list

-- the set and the offsets of a range
abbrev pub joined : Range → Offsets → Offsets
joined r set array factor offset = has_offset r array factor offset || set array factor offset

-- the set and the array that a range is the whole of
abbrev pub whole_joined : Range → Arrays → Arrays
whole_joined r set array = is_whole r array || set array

-- the set and the array of a range that isn't empty
abbrev pub array_joined : Range → Arrays → Arrays
array_joined r set array = (not (is_empty r) && (array_of r == array)) || set array

-- union
abbrev pub in_either : Offsets → Offsets → Offsets
in_either v w array factor offset = v array factor offset || w array factor offset

abbrev pub whole_in_either : Arrays → Arrays → Arrays
whole_in_either v w array = v array || w array

-- intersection
abbrev pub in_both : Offsets → Offsets → Offsets
in_both v w array factor offset = v array factor offset && w array factor offset

abbrev pub whole_in_both : Arrays → Arrays → Arrays
whole_in_both v w array = v array && w array

-- each of n offsets from this one upward passes the test
abbrev pub every_offset : ℕ → ℤ → (ℤ → Bool) → Bool
every_offset zero offset test = true
every_offset (suc n) offset test = test offset && every_offset n (offset +ℤ pos 1) test

-- the set has each offset of an affine range; no set of offsets covers a whole array
abbrev pub covers : Offsets → Range → Bool
covers set (Whole a) = false
covers set (Affine a f from to) = every_offset (int_gap from (to +ℤ pos 1)) from (set a f)

-- offsets from l to h of a factor f, and from m to i of a factor g, have the same positive factor and lie within less than it
abbrev pub separate_offsets : (f l h g m i : ℤ) → Bool
separate_offsets f l h g m i = int_eq f g && (int_lt (pos 0) f && (int_lt (h -ℤ m) f && int_lt (i -ℤ l) f))

-- two ranges share no cell at different blocks, as far as arrays, factor and offsets say
abbrev pub separate : Range → Range → Bool
separate (Affine a f l h) (Affine b g m i) = not (a == b) || separate_offsets f l h g m i
separate (Affine a f l h) (Whole b) = not (a == b)
separate (Whole a) (Affine b g m i) = not (a == b)
separate (Whole a) (Whole b) = not (a == b)

-- offsets from l to h of a factor f, and from m to i of a factor g, are of factor 0 with none in common
abbrev pub disjoint_offsets : (f l h g m i : ℤ) → Bool
disjoint_offsets f l h g m i = int_eq f (pos 0) && (int_eq g (pos 0) && int_lt (int_min h i) (int_max l m))

-- two ranges share no cell at any blocks, as far as arrays, factor and offsets say
abbrev pub disjoint : Range → Range → Bool
disjoint (Affine a f l h) (Affine b g m i) = not (a == b) || disjoint_offsets f l h g m i
disjoint (Affine a f l h) (Whole b) = not (a == b)
disjoint (Whole a) (Affine b g m i) = not (a == b)
disjoint (Whole a) (Whole b) = not (a == b)

-- the first range that isn't separate from each of the list, itself included
abbrev pub first_unseparated : List Range → Option Range
first_unseparated list = find (λ r. list_any (λ s. not (separate r s)) list) list

-- the first range that isn't disjoint from each of the others
abbrev pub first_meeting : List Range → List Range → Option Range
first_meeting list others = find (λ r. list_any (λ s. not (disjoint r s)) others) list

-- the order of a list: by array; for each array the whole array first, then by factor, then by offset, with a gap before the next
abbrev pub IsBefore : Range → Range → Type 0
IsBefore (Whole a) (Whole b) = a < b
IsBefore (Whole a) (Affine b g m i) = a ≤ b
IsBefore (Affine a f l h) (Whole b) = a < b
IsBefore (Affine a f l h) (Affine b g m i) = (a < b) ⊎ ((a ≡ b) × ((f <ℤ g) ⊎ ((f ≡ g) × ((h +ℤ pos 1) <ℤ m))))

abbrev pub IsBeforeEach : Range → List Range → Type 0
IsBeforeEach r [] = Unit {0}
IsBeforeEach r (s ∷ rest) = IsBefore r s × IsBeforeEach r rest

-- a range with at least one offset, or a whole array
abbrev pub IsFilled : Range → Type 0
IsFilled (Whole a) = Unit {0}
IsFilled (Affine a f from to) = from ≤ℤ to

-- in normal form: no range is empty, and each stands before all that follow it
abbrev pub IsNormal : List Range → Type 0
IsNormal [] = Unit {0}
IsNormal (r ∷ rest) = IsFilled r × IsBeforeEach r rest × IsNormal rest

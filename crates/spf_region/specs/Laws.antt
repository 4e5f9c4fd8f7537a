-- What separate and disjoint lists mean for single offsets, and for cells; and which sets have a list in normal form.
use Rattle.std.specs.Prelude.{◌≡◌, ◌≢◌, ◌⊎◌, ℕ, true, false, ℤ, pos, ◌-ℤ◌, ◌<ℤ◌, List, slice_index_or}
use Rattle.spf_region.specs.declared.range.Range.{Range}
use Rattle.spf_region.specs.Ranges.{Offsets, Arrays, array_of, offsets_of, wholes_of, is_whole, joined, in_both, IsNormal}
use Rattle.spf_region.specs.Cells.{Extent, in_extent, is_cell}

-- an array has an entry in a list: as a whole, or an offset of some factor
abbrev pub HasEntry : Offsets → Arrays → ℕ → Type 0
HasEntry offsets wholes a = (wholes a ≡ true) ⊎ ((f : ℤ) × (o : ℤ) × (offsets a f o ≡ true))

-- no array is there as a whole, and any two offsets of an array have the same positive factor and are less than it apart
pub record AreSeparate (offsets : Offsets) (wholes : Arrays) : Type 0 where
  pub no_whole : (a : ℕ) → wholes a ≡ false
  pub near : (a : ℕ) (f g o p : ℤ) → offsets a f o ≡ true → offsets a g p ≡ true → (f ≡ g) × (pos 0 <ℤ f) × ((o -ℤ p) <ℤ f)

-- where both have an array, neither has it as a whole, and their offsets in it have factor 0 and differ
pub record AreDisjoint (offsets : Offsets) (wholes arrays : Arrays) (others : Offsets) (other_wholes other_arrays : Arrays) : Type 0 where
  pub no_whole : (a : ℕ) → wholes a ≡ true → other_arrays a ≡ true → ⊥
  pub no_other_whole : (a : ℕ) → arrays a ≡ true → other_wholes a ≡ true → ⊥
  pub differ : (a : ℕ) (f g o p : ℤ) → offsets a f o ≡ true → others a g p ≡ true → (f ≡ pos 0) × (g ≡ pos 0) × (o ≢ p)

-- no cell is in two arrays
abbrev pub LieApart : List Extent → Type 0
LieApart extents = (a b cell : ℕ) → a ≢ b → in_extent (slice_index_or extents a (0, 0)) cell ≡ true
    → in_extent (slice_index_or extents b (0, 0)) cell ≡ true → ⊥

-- a cell of the range at block k
abbrev pub IsCellAt : List Extent → ℤ → Range → ℕ → Type 0
IsCellAt extents k r cell = is_cell (slice_index_or extents (array_of r) (0, 0)) k r cell ≡ true

-- a list in normal form has the same offsets and whole arrays
pub record HasNormalForm (list : List Range) : Type 0 where
  pub normal : List Range
  pub is_normal : IsNormal normal
  pub offsets : offsets_of normal ≡ offsets_of list
  pub wholes : wholes_of normal ≡ wholes_of list

-- each list has a normal form
abbrev pub ListsHaveNormalForms : Type 0
ListsHaveNormalForms = (list : List Range) → HasNormalForm list

-- a list in normal form has these offsets, and no whole array
pub record IsListed (set : Offsets) : Type 0 where
  pub list : List Range
  pub is_normal : IsNormal list
  pub offsets : offsets_of list ≡ set
  pub wholes : (array : ℕ) → wholes_of list array ≡ false

-- the empty set has a list, and so does one with an affine range added, and what two sets that have one have in common
pub record SetsStayListed : Type 0 where
  pub none : IsListed (λ array factor offset. false)
  pub more : (r : Range) (set : Offsets) → ((array : ℕ) → is_whole r array ≡ false) → IsListed set → IsListed (joined r set)
  pub common : (v w : Offsets) → IsListed v → IsListed w → IsListed (in_both v w)

-- What an examined form reads, may write and surely writes, from left to right.
use Rattle.std.specs.Prelude.{ℕ, Bool, false, if◌then◌else◌, ◌&&◌, List, [], ◌∷◌, ◌++◌, ℤ, pos, ◌+ℤ◌, ◌-ℤ◌, int_le, int_lt}
use Rattle.std.specs.Ordering.{int_eq}
use Rattle.spf_region.specs.declared.bound.Bound.{Bound}
use Rattle.spf_region.specs.declared.bound.Bound.TheVariants.{Known, Unknown}
use Rattle.spf_region.specs.declared.range.Range.{Range}
use Rattle.spf_region.specs.declared.range.Range.TheVariants.{Whole, Affine}
use Rattle.spf_region.specs.Bounds.{is_small, kept}
use Rattle.spf_region.specs.Ranges.{Offsets, joined, in_both, covers}

-- the ranges that are read before they are surely written, those that may be written, and the offsets that are surely written
pub record Found : Type 0 where
  pub uncovered : List Range
  pub may : List Range
  pub written : Offsets

-- what is found in a form, given what is surely written before it
abbrev pub Finds : Type 0
Finds = Offsets → Found

-- no offset
abbrev pub nowhere : Offsets
nowhere array factor offset = false

abbrev pub finds_nothing : Finds
finds_nothing w = record { uncovered = []; may = []; written = w }

infixr 10 ◌then◌
-- one form, and then another
abbrev pub ◌then◌ : Finds → Finds → Finds
(first then next) w =
    let a = first w in
    let b = next a.written in
    record { uncovered = a.uncovered ++ b.uncovered; may = a.may ++ b.may; written = b.written }

-- a form that may be left out: its effects count, but it surely writes nothing
abbrev pub perhaps : Finds → Finds
perhaps form w = record (form w) { written = w }

-- one of two forms: the effects of both count, and what both surely write is surely written
abbrev pub either : Finds → Finds → Finds
either one other w =
    let a = one w in
    let b = other w in
    record { uncovered = a.uncovered ++ b.uncovered; may = a.may ++ b.may; written = in_both a.written b.written }

-- ---- elements and ranges of elements

-- the range of these offsets, unless it is covered
abbrev pub unless_covered : Offsets → Range → List Range
unless_covered w r = if covers w r then [] else r ∷ []

-- a read of an element whose index has this bound
abbrev pub reads_element : ℕ → Bound → Finds
reads_element array Unknown w = record { uncovered = Whole array ∷ []; may = []; written = w }
reads_element array (Known f l h) w = record { uncovered = unless_covered w (Affine array f l h); may = []; written = w }

-- a write somewhere into an array
abbrev pub may_write_whole : ℕ → Finds
may_write_whole array w = record { uncovered = []; may = Whole array ∷ []; written = w }

-- a write of an element whose index has this bound; where the bound leaves one offset, that one is surely written
abbrev pub writes_element : ℕ → Bound → Finds
writes_element array Unknown w = may_write_whole array w
writes_element array (Known f l h) w =
    record { uncovered = []; may = Affine array f l h ∷ []; written = if int_eq l h then joined (Affine array f l h) w else w }

-- a write that may go to the elements from an offset of at least l up to but excluding one of at most i
abbrev pub may_write_between : ℕ → (f l i : ℤ) → Finds
may_write_between array f l i w =
    record { uncovered = []; may = if int_lt l i then Affine array f l (i -ℤ pos 1) ∷ [] else []; written = w }

-- a write that surely goes to the elements from an offset between l and h up to but excluding one between m and i,
-- where each end is a single offset
abbrev pub surely_writes_between : ℕ → (f l h m i : ℤ) → Finds
surely_writes_between array f l h m i w = record {
  uncovered = [];
  may = [];
  written = if int_eq l h && (int_eq m i && int_lt l m) then joined (Affine array f l (m -ℤ pos 1)) w else w;
}

-- a write of a range whose ends have these bounds
abbrev pub writes_range : ℕ → Bound → Bound → Finds
writes_range array (Known f l h) (Known g m i) =
    if int_eq f g then may_write_between array f l i then surely_writes_between array f l h m i else may_write_whole array
writes_range array (Known f l h) Unknown = may_write_whole array
writes_range array Unknown high = may_write_whole array

-- ---- turns of a loop from a low to a high end with these bounds

-- the bound of the loop's name
abbrev pub turn_bound : Bound → Bound → Bound
turn_bound (Known f l h) (Known g m i) = if int_eq f g then kept f l (i -ℤ pos 1) else Unknown
turn_bound (Known f l h) Unknown = Unknown
turn_bound Unknown high = Unknown

-- no turn is made
abbrev pub has_no_turn : Bound → Bound → Bool
has_no_turn (Known f l h) (Known g m i) = int_eq f g && int_le i l
has_no_turn (Known f l h) Unknown = false
has_no_turn Unknown high = false

-- a store that each turn makes: its array, and how far its index is from the loop's name
pub record Sweep : Type 0 where
  pub array : ℕ
  pub distance : ℤ

-- with the offsets of the turns from the first to the last, moved by the distance, unless they are too great to be kept
abbrev pub sweep_joined : (f first last : ℤ) → Sweep → Offsets → Offsets
sweep_joined f first last s w =
    if is_small (first +ℤ s.distance) && is_small (last +ℤ s.distance)
    then joined (Affine s.array f (first +ℤ s.distance) (last +ℤ s.distance)) w
    else w

abbrev pub sweeps_joined : (f first last : ℤ) → List Sweep → Offsets → Offsets
sweeps_joined f first last [] w = w
sweeps_joined f first last (s ∷ rest) w = sweeps_joined f first last rest (sweep_joined f first last s w)

-- with all that the turns surely write, where both ends are one offset each, and there is a turn
abbrev pub swept : Bound → Bound → List Sweep → Offsets → Offsets
swept (Known f l h) (Known g m i) sweeps w =
    if int_eq f g && (int_eq l h && (int_eq m i && int_lt l m)) then sweeps_joined f l (m -ℤ pos 1) sweeps w else w
swept (Known f l h) Unknown sweeps w = w
swept Unknown high sweeps w = w

-- the turns of a loop: the body's effects count, unless there is no turn, and the sweeps are surely written
abbrev pub turns : Bound → Bound → List Sweep → Finds → Finds
turns low high sweeps body w =
    if has_no_turn low high then finds_nothing w else record (body w) { written = swept low high sweeps w }

-- How lists of ranges grow by what is found in a form.
use Rattle.std.specs.Prelude.{◌≡◌, List}
use Rattle.spf_region.specs.declared.range.Range.{Range}
use Rattle.spf_region.specs.Ranges.{Offsets, offsets_of, wholes_of, in_either, whole_in_either, in_both, whole_in_both}
use Rattle.spf_effects_findings.specs.Found.{Finds}

-- the new list has what the old one had, and these ranges
pub record Joins (ranges old new : List Range) : Type 0 where
  pub offsets : offsets_of new ≡ in_either (offsets_of ranges) (offsets_of old)
  pub wholes : wholes_of new ≡ whole_in_either (wholes_of ranges) (wholes_of old)

-- three lists: what was read uncovered, what may be written and what is surely written
pub record Lists : Type 0 where
  pub uncovered : List Range
  pub may : List Range
  pub written : List Range

-- the lists have what they had, and what is found in a form after it
pub record Extends (finds : Finds) (old new : Lists) : Type 0 where
  pub uncovered : Joins (finds (offsets_of old.written)).uncovered old.uncovered new.uncovered
  pub may : Joins (finds (offsets_of old.written)).may old.may new.may
  pub written : offsets_of new.written ≡ (finds (offsets_of old.written)).written
  pub wholes : wholes_of new.written ≡ wholes_of old.written

-- of what is surely written, what another list has too is left
pub record KeepsCommon (other : List Range) (old new : Lists) : Type 0 where
  pub uncovered : new.uncovered ≡ old.uncovered
  pub may : new.may ≡ old.may
  pub offsets : offsets_of new.written ≡ in_both (offsets_of other) (offsets_of old.written)
  pub wholes : wholes_of new.written ≡ whole_in_both (wholes_of other) (wholes_of old.written)

-- what is surely written has grown so; the other lists are as they were
pub record IsSwept (more : Offsets → Offsets) (old new : Lists) : Type 0 where
  pub uncovered : new.uncovered ≡ old.uncovered
  pub may : new.may ≡ old.may
  pub offsets : offsets_of new.written ≡ more (offsets_of old.written)
  pub wholes : wholes_of new.written ≡ wholes_of old.written

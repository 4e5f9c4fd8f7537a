-- Lists that grow by what is found at an element.
use Rattle.std.proofs.Common.{◌≡◌, ℕ, Bool, true, false, List, [], ◌∷◌, ℤ, refl, sym, ◌∙◌}
use Rattle.std.specs.Prelude.{Result, Ok, Err, OnOk, ◌||◌}
use Rattle.std.specs.Ordering.{int_eq}
use Rattle.spf_region.specs.declared.bound.Bound.TheVariants.{Known, Unknown}
use Rattle.spf_region.specs.declared.range.Range.{Range}
use Rattle.spf_region.specs.declared.range.Range.TheVariants.{Whole, Affine}
use Rattle.spf_region.specs.Ranges.{offsets_of, wholes_of, joined, whole_joined, covers, has_offset, is_whole}
use Rattle.spf_effects_findings.specs.Extends.{Joins, Extends, IsSwept}
use Rattle.spf_effects_findings.specs.Found.{reads_element, may_write_whole, writes_element}

or_none : (x : Bool) → (x || false) ≡ x
or_none true = refl
or_none false = refl

-- nothing more
pub nothing_more : (list : List Range) → Joins [] list list
nothing_more list = record { offsets = refl; wholes = refl }

-- one more range
pub one_more : (r : Range) (old new : List Range) → offsets_of new ≡ joined r (offsets_of old) → wholes_of new ≡ whole_joined r (wholes_of old) → Joins (r ∷ []) old new
one_more r old new h k = record {
  offsets = h ∙ (λ i array f o. ◌||◌ (sym (or_none (has_offset r array f o)) i) (offsets_of old array f o));
  wholes = k ∙ (λ i array. ◌||◌ (sym (or_none (is_whole r array)) i) (wholes_of old array));
}

-- a whole array that is read
pub read_whole : {E : Type 0} (result : Result (Unit {0}) E) (array : ℕ) (uncovered may written new : List Range) → OnOk result (offsets_of new ≡ joined (Whole array) (offsets_of uncovered)) → OnOk result (wholes_of new ≡ whole_joined (Whole array) (wholes_of uncovered)) → OnOk result (Extends (reads_element array Unknown) (record { uncovered = uncovered; may = may; written = written }) (record { uncovered = new; may = may; written = written }))
read_whole (Ok x) array uncovered may written new h k =
    record { uncovered = one_more (Whole array) uncovered new h k; may = nothing_more may; written = refl; wholes = refl }
read_whole (Err e) array uncovered may written new h k = tt

-- a range that is read uncovered
pub read_range : {E : Type 0} (result : Result (Unit {0}) E) (array : ℕ) (f low high : ℤ) (uncovered may written new : List Range) → covers (offsets_of written) (Affine array f low high) ≡ false → OnOk result (offsets_of new ≡ joined (Affine array f low high) (offsets_of uncovered)) → OnOk result (wholes_of new ≡ whole_joined (Affine array f low high) (wholes_of uncovered)) → OnOk result (Extends (reads_element array (Known f low high)) (record { uncovered = uncovered; may = may; written = written }) (record { uncovered = new; may = may; written = written }))
read_range (Ok x) array f low high uncovered may written new bare h k = record {
  uncovered = rw bare (one_more (Affine array f low high) uncovered new h k);
  may = nothing_more may;
  written = refl;
  wholes = refl;
}
read_range (Err e) array f low high uncovered may written new bare h k = tt

-- an array into which a write may go at any index
pub write_whole : {E : Type 0} (result : Result (Unit {0}) E) (array : ℕ) (uncovered may written new : List Range) → OnOk result (offsets_of new ≡ joined (Whole array) (offsets_of may)) → OnOk result (wholes_of new ≡ whole_joined (Whole array) (wholes_of may)) → OnOk result (Extends (may_write_whole array) (record { uncovered = uncovered; may = may; written = written }) (record { uncovered = uncovered; may = new; written = written }))
write_whole (Ok x) array uncovered may written new h k =
    record { uncovered = nothing_more uncovered; may = one_more (Whole array) may new h k; written = refl; wholes = refl }
write_whole (Err e) array uncovered may written new h k = tt

-- a write of one of several elements
pub write_some : (array : ℕ) (f low high : ℤ) (uncovered may written new : List Range) → int_eq low high ≡ false → offsets_of new ≡ joined (Affine array f low high) (offsets_of may) → wholes_of new ≡ whole_joined (Affine array f low high) (wholes_of may) → Extends (writes_element array (Known f low high)) (record { uncovered = uncovered; may = may; written = written }) (record { uncovered = uncovered; may = new; written = written })
write_some array f low high uncovered may written new apart h k = record {
  uncovered = nothing_more uncovered;
  may = one_more (Affine array f low high) may new h k;
  written = rw apart refl;
  wholes = refl;
}

-- a write of one element
pub write_one : {E : Type 0} (result : Result (Unit {0}) E) (array : ℕ) (f low high : ℤ) (uncovered may written new sure : List Range) → int_eq low high ≡ true → offsets_of new ≡ joined (Affine array f low high) (offsets_of may) → wholes_of new ≡ whole_joined (Affine array f low high) (wholes_of may) → OnOk result (offsets_of sure ≡ joined (Affine array f low high) (offsets_of written)) → OnOk result (wholes_of sure ≡ whole_joined (Affine array f low high) (wholes_of written)) → OnOk result (Extends (writes_element array (Known f low high)) (record { uncovered = uncovered; may = may; written = written }) (record { uncovered = uncovered; may = new; written = sure }))
write_one (Ok x) array f low high uncovered may written new sure same h k p q = record {
  uncovered = nothing_more uncovered;
  may = one_more (Affine array f low high) may new h k;
  written = rw same p;
  wholes = q;
}
write_one (Err e) array f low high uncovered may written new sure same h k p q = tt

-- a range that is surely written, too
pub sure_range : {E : Type 0} (result : Result (Unit {0}) E) (r : Range) (uncovered may written new : List Range) → ((array : ℕ) → is_whole r array ≡ false) → OnOk result (offsets_of new ≡ joined r (offsets_of written)) → OnOk result (wholes_of new ≡ whole_joined r (wholes_of written)) → OnOk result (IsSwept (joined r) (record { uncovered = uncovered; may = may; written = written }) (record { uncovered = uncovered; may = may; written = new }))
sure_range (Ok u) r uncovered may written new affine h k = record {
  uncovered = refl;
  may = refl;
  offsets = h;
  wholes = k ∙ (λ i array. affine array i || wholes_of written array);
}
sure_range (Err e) r uncovered may written new affine h k = tt

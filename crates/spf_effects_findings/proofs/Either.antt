-- One of two forms.
use Rattle.std.proofs.Common.{◌≡◌, Bool, true, false, List, [], refl, ap, ◌∙◌}
use Rattle.std.specs.Prelude.{Result, Ok, Err, IfOk, ◌||◌, ◌&&◌}
use Rattle.spf_region.specs.declared.range.Range.{Range}
use Rattle.spf_region.specs.Ranges.{offsets_of, wholes_of, in_both, whole_in_both, in_either, whole_in_either}
use Rattle.spf_effects_findings.specs.Extends.{Lists, Extends}
use Rattle.spf_effects_findings.specs.Found.{Finds, either}
use Rattle.spf_effects_findings.proofs.Then.{joins_then}

pub or_none : (x : Bool) → (x || false) ≡ x
or_none true = refl
or_none false = refl

and_same : (x : Bool) → (x && x) ≡ x
and_same true = refl
and_same false = refl

-- a list that is joined with an empty one
pub copied_offsets : {E : Type 0} (result : Result (List Range) E) (list : List Range) → IfOk result (λ copy. offsets_of copy ≡ in_either (offsets_of list) (offsets_of [])) → IfOk result (λ copy. offsets_of copy ≡ offsets_of list)
copied_offsets (Ok copy) list h = h ∙ (λ i array f o. or_none (offsets_of list array f o) i)
copied_offsets (Err e) list h = tt

pub copied_wholes : {E : Type 0} (result : Result (List Range) E) (list : List Range) → IfOk result (λ copy. wholes_of copy ≡ whole_in_either (wholes_of list) (wholes_of [])) → IfOk result (λ copy. wholes_of copy ≡ wholes_of list)
copied_wholes (Ok copy) list h = h ∙ (λ i array. or_none (wholes_of list array) i)
copied_wholes (Err e) list h = tt

-- one form, and then the other from what was surely written before both
pub extends_either : (f g : Finds) (old one two : Lists) (copy common : List Range) → offsets_of copy ≡ offsets_of old.written → wholes_of copy ≡ wholes_of old.written → Extends f old one → Extends g (record { uncovered = one.uncovered; may = one.may; written = copy }) two → offsets_of common ≡ in_both (offsets_of one.written) (offsets_of two.written) → wholes_of common ≡ whole_in_both (wholes_of one.written) (wholes_of two.written) → Extends (either f g) old (record { uncovered = two.uncovered; may = two.may; written = common })
extends_either f g old one two copy common e w h k m n = record {
  uncovered = joins_then _ _ old.uncovered one.uncovered two.uncovered h.uncovered (rw e at k.uncovered);
  may = joins_then _ _ old.may one.may two.may h.may (rw e at k.may);
  written = m ∙ ap (λ v. in_both v (offsets_of two.written)) h.written ∙ ap (in_both (f (offsets_of old.written)).written) (k.written ∙ ap (λ v. (g v).written) e);
  wholes =
      n ∙ ap (λ v. whole_in_both v (wholes_of two.written)) h.wholes
      ∙ ap (whole_in_both (wholes_of old.written)) (k.wholes ∙ w)
      ∙ (λ i array. and_same (wholes_of old.written array) i);
}

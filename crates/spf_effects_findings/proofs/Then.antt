-- Forms one after another.
use Rattle.std.proofs.Common.{◌≡◌, ℕ, Bool, true, false, List, [], ◌∷◌, ◌++◌, ℤ, append_assoc, subst, refl, sym, ap, ◌∙◌}
use Rattle.std.specs.Prelude.{Result, Ok, Err, OnOk, ◌||◌}
use Rattle.std.specs.List.{list_any}
use Rattle.spf_region.specs.declared.range.Range.{Range}
use Rattle.spf_region.specs.Ranges.{offsets_of, wholes_of, has_offset, is_whole}
use Rattle.spf_effects_findings.specs.Extends.{Joins, Lists, Extends}
use Rattle.spf_effects_findings.specs.Found.{Finds, finds_nothing, ◌then◌, perhaps}

pub or_assoc : (x y z : Bool) → (x || (y || z)) ≡ ((x || y) || z)
or_assoc true y z = refl
or_assoc false y z = refl

pub or_moves : (x y z : Bool) → (y || (x || z)) ≡ ((x || y) || z)
or_moves true true z = refl
or_moves true false z = refl
or_moves false y z = refl

any_append : (p : Range → Bool) (xs ys : List Range) → list_any p (xs ++ ys) ≡ (list_any p xs || list_any p ys)
any_append p [] ys = refl
any_append p (x ∷ xs) ys = ap (λ b. p x || b) (any_append p xs ys) ∙ or_assoc (p x) (list_any p xs) (list_any p ys)

pub joins_then : (xs ys old mid new : List Range) → Joins xs old mid → Joins ys mid new → Joins (xs ++ ys) old new
joins_then xs ys old mid new h k = record {
  offsets = λ i array f o. offset array f o i;
  wholes = λ i array. whole array i;
}
  where
    offset : (array : ℕ) (f o : ℤ) → offsets_of new array f o ≡ (offsets_of (xs ++ ys) array f o || offsets_of old array f o)
    offset array f o =
        (λ i. k.offsets i array f o)
        ∙ ap (λ z. offsets_of ys array f o || z) (λ i. h.offsets i array f o)
        ∙ or_moves (offsets_of xs array f o) (offsets_of ys array f o) (offsets_of old array f o)
        ∙ ap (λ z. z || offsets_of old array f o) (sym (any_append (λ r. has_offset r array f o) xs ys))

    whole : (array : ℕ) → wholes_of new array ≡ (wholes_of (xs ++ ys) array || wholes_of old array)
    whole array =
        (λ i. k.wholes i array)
        ∙ ap (λ z. wholes_of ys array || z) (λ i. h.wholes i array)
        ∙ or_moves (wholes_of xs array) (wholes_of ys array) (wholes_of old array)
        ∙ ap (λ z. z || wholes_of old array) (sym (any_append (λ r. is_whole r array) xs ys))

-- nothing is found
pub extends_nothing : (lists : Lists) → Extends finds_nothing lists lists
extends_nothing lists = record {
  uncovered = record { offsets = refl; wholes = refl };
  may = record { offsets = refl; wholes = refl };
  written = refl;
  wholes = refl;
}

-- one form, and then another
pub extends_then : (f g : Finds) (old mid new : Lists) → Extends f old mid → Extends g mid new → Extends (f then g) old new
extends_then f g old mid new h k = record {
  uncovered = joins_then _ _ old.uncovered mid.uncovered new.uncovered h.uncovered (rw h.written at k.uncovered);
  may = joins_then _ _ old.may mid.may new.may h.may (rw h.written at k.may);
  written = k.written ∙ ap (λ w. (g w).written) h.written;
  wholes = k.wholes ∙ h.wholes;
}

-- where the second one may fail
pub extends_then_on : {E : Type 0} (result : Result (Unit {0}) E) (f g : Finds) (old mid new : Lists) → Extends f old mid → OnOk result (Extends g mid new) → OnOk result (Extends (f then g) old new)
extends_then_on (Ok x) f g old mid new h k = extends_then f g old mid new h k
extends_then_on (Err e) f g old mid new h k = tt

-- a form that may be left out, after which what is surely written is put back
pub extends_perhaps : (f : Finds) (old new : Lists) → Extends f old new → Extends (perhaps f) old (record { uncovered = new.uncovered; may = new.may; written = old.written })
extends_perhaps f old new h = record { uncovered = h.uncovered; may = h.may; written = refl; wholes = refl }

-- two forms and a third, grouped to the right
pub extends_regrouped : (f g h : Finds) (old mid new : Lists) → Extends (f then g) old mid → Extends h mid new → Extends (f then (g then h)) old new
extends_regrouped f g h old mid new a b =
    let both = extends_then (f then g) h old mid new a b in
    let w = offsets_of old.written in
    let after_f = (f w).written in
    let after_g = (g after_f).written in
    record {
      uncovered = subst (λ l. Joins l old.uncovered new.uncovered) (append_assoc (f w).uncovered (g after_f).uncovered (h after_g).uncovered) both.uncovered;
      may = subst (λ l. Joins l old.may new.may) (append_assoc (f w).may (g after_f).may (h after_g).may) both.may;
      written = both.written;
      wholes = both.wholes;
    }

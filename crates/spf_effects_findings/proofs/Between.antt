-- Lists that grow by the elements between two ends.
use Rattle.std.proofs.Common.{◌≡◌, ℕ, Bool, true, false, List, [], ◌∷◌, ℤ, refl, sym, subst}
use Rattle.std.specs.Prelude.{Result, Ok, Err, OnOk, Some, None, if◌then◌else◌, ◌&&◌, ◌-ℤ◌, pos, int_lt}
use Rattle.std.specs.Ordering.{int_eq}
use Rattle.spf_region.specs.declared.range.Range.{Range}
use Rattle.spf_region.specs.declared.range.Range.TheVariants.{Affine}
use Rattle.spf_region.specs.Ranges.{offsets_of, wholes_of, joined, whole_joined}
use Rattle.spf_effects_findings.specs.Extends.{Joins, Lists, Extends}
use Rattle.spf_effects_findings.specs.Found.{may_write_between, surely_writes_between, writes_range, ◌then◌}
use Rattle.spf_region.specs.declared.bound.Bound.TheVariants.{Known}
use Rattle.spf_effects_findings.proofs.Grown.{one_more, nothing_more}

pub none_there : (b : Bool) (x : ℤ) → (if b then Some x else None) ≡ None → b ≡ false
none_there true x e = cc
none_there false x e = refl

pub some_there : (b : Bool) (x y : ℤ) → (if b then Some x else None) ≡ Some y → (b ≡ true) × (x ≡ y)
some_there true x y e = (refl, cc)
some_there false x y e = cc

pub may_none : (array : ℕ) (f l i : ℤ) (lists : Lists) → (if int_lt l i then Some (i -ℤ pos 1) else None) ≡ None → Extends (may_write_between array f l i) lists lists
may_none array f l i lists e = record {
  uncovered = nothing_more lists.uncovered;
  may = rw (none_there (int_lt l i) (i -ℤ pos 1) e) (nothing_more lists.may);
  written = refl;
  wholes = refl;
}

pub may_some : {E : Type 0} (result : Result (Unit {0}) E) (array : ℕ) (f l i last : ℤ) (uncovered may written new : List Range) → (if int_lt l i then Some (i -ℤ pos 1) else None) ≡ Some last → OnOk result (offsets_of new ≡ joined (Affine array f l last) (offsets_of may)) → OnOk result (wholes_of new ≡ whole_joined (Affine array f l last) (wholes_of may)) → OnOk result (Extends (may_write_between array f l i) (record { uncovered = uncovered; may = may; written = written }) (record { uncovered = uncovered; may = new; written = written }))
may_some (Ok x) array f l i last uncovered may written new e h k =
    let s = some_there (int_lt l i) (i -ℤ pos 1) last e in
    record {
      uncovered = nothing_more uncovered;
      may = rw s.0 (subst (λ z. Joins (Affine array f l z ∷ []) may new) (sym s.1) (one_more (Affine array f l last) may new h k));
      written = refl;
      wholes = refl;
    }
may_some (Err x) array f l i last uncovered may written new e h k = tt

pub sure_none : (array : ℕ) (f l h m i : ℤ) (lists : Lists) → (if int_eq l h && (int_eq m i && int_lt l m) then Some (m -ℤ pos 1) else None) ≡ None → Extends (surely_writes_between array f l h m i) lists lists
sure_none array f l h m i lists e = record {
  uncovered = nothing_more lists.uncovered;
  may = nothing_more lists.may;
  written = rw (none_there (int_eq l h && (int_eq m i && int_lt l m)) (m -ℤ pos 1) e) refl;
  wholes = refl;
}

pub sure_some : {E : Type 0} (result : Result (Unit {0}) E) (array : ℕ) (f l h m i last : ℤ) (uncovered may written new : List Range) → (if int_eq l h && (int_eq m i && int_lt l m) then Some (m -ℤ pos 1) else None) ≡ Some last → OnOk result (offsets_of new ≡ joined (Affine array f l last) (offsets_of written)) → OnOk result (wholes_of new ≡ whole_joined (Affine array f l last) (wholes_of written)) → OnOk result (Extends (surely_writes_between array f l h m i) (record { uncovered = uncovered; may = may; written = written }) (record { uncovered = uncovered; may = may; written = new }))
sure_some (Ok x) array f l h m i last uncovered may written new e p q =
    let s = some_there (int_eq l h && (int_eq m i && int_lt l m)) (m -ℤ pos 1) last e in
    record {
      uncovered = nothing_more uncovered;
      may = nothing_more may;
      written = rw (s.0, s.1) p;
      wholes = q;
    }
sure_some (Err x) array f l h m i last uncovered may written new e p q = tt

-- a range whose ends have one factor
pub range_of_one_factor : {E : Type 0} (result : Result (Unit {0}) E) (array : ℕ) (f l h g m i : ℤ) (old new : Lists) → int_eq f g ≡ true → OnOk result (Extends (may_write_between array f l i then surely_writes_between array f l h m i) old new) → OnOk result (Extends (writes_range array (Known f l h) (Known g m i)) old new)
range_of_one_factor result array f l h g m i old new same k = rw same k

-- Each list of ranges has a normal form.
use Rattle.std.proofs.Common.{◌≡◌, ℕ, Bool, true, false, List, [], ◌∷◌, refl, ap, ◌∙◌, subst}
use Rattle.std.specs.Prelude.{◌||◌, ◌&&◌}
use Rattle.spf_region.specs.declared.range.Range.{Range}
use Rattle.spf_region.specs.Ranges.{Offsets, Arrays, offsets_of, wholes_of, is_whole, is_empty, joined, whole_joined, in_both}
use Rattle.spf_region.specs.Merging.{interleaved, coalesced, met}
use Rattle.spf_region.specs.Laws.{HasNormalForm, IsListed, SetsStayListed}
use Rattle.spf_region.proofs.Merged.{met-normal, met-offsets, met-wholes, added-normal, added-offsets, added-wholes, empty-offsets, empty-wholes}

pub normal-form : (list : List Range) → HasNormalForm list
normal-form [] = record { normal = []; is_normal = tt; offsets = refl; wholes = refl }
normal-form (r ∷ rest) = with-first (is_empty r) refl (normal-form rest)
  where
    with-first : (b : Bool) → is_empty r ≡ b → HasNormalForm rest → HasNormalForm (r ∷ rest)
    with-first true e n = record { normal = n.normal; is_normal = n.is_normal; offsets = n.offsets ∙ empty-offsets r (offsets_of rest) e; wholes = n.wholes ∙ empty-wholes r (wholes_of rest) e }
    with-first false e n = record {
      normal = coalesced (interleaved (r ∷ []) n.normal);
      is_normal = added-normal r n.normal e n.is_normal;
      offsets = added-offsets r n.normal e n.is_normal ∙ ap (joined r) n.offsets;
      wholes = added-wholes r n.normal e n.is_normal ∙ ap (whole_joined r) n.wholes;
    }

-- a set with one more range
more-listed : (r : Range) (set : Offsets) → ((array : ℕ) → is_whole r array ≡ false) → IsListed set → IsListed (joined r set)
more-listed r set affine l = go (is_empty r) refl
  where
    go : (b : Bool) → is_empty r ≡ b → IsListed (joined r set)
    go true e = subst IsListed (empty-offsets r set e) l
    go false e = record {
      list = coalesced (interleaved (r ∷ []) l.list);
      is_normal = added-normal r l.list e l.is_normal;
      offsets = added-offsets r l.list e l.is_normal ∙ ap (joined r) l.offsets;
      wholes = λ a. ap (λ (w : Arrays). w a) (added-wholes r l.list e l.is_normal) ∙ ap (λ b. b || wholes_of l.list a) (affine a) ∙ l.wholes a;
    }

-- what two sets have in common
common-listed : (v w : Offsets) → IsListed v → IsListed w → IsListed (in_both v w)
common-listed v w l m = record {
  list = met l.list m.list;
  is_normal = met-normal l.list m.list l.is_normal m.is_normal;
  offsets = met-offsets l.list m.list l.is_normal m.is_normal ∙ (λ i. in_both (l.offsets i) (m.offsets i));
  wholes = λ a. ap (λ (t : Arrays). t a) (met-wholes l.list m.list l.is_normal m.is_normal) ∙ ap (λ b. b && wholes_of m.list a) (l.wholes a);
}

pub sets-stay-listed : SetsStayListed
sets-stay-listed = record { none = record { list = []; is_normal = tt; offsets = refl; wholes = λ a. refl }; more = more-listed; common = common-listed }

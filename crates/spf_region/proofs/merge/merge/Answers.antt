use Rattle.std.proofs.Common.{◌≡◌, ◌∙◌, ap, subst, sym}
use Rattle.spf_region.specs.Ranges.{has_array, whole_in_either, offsets_of, wholes_of, in_either, IsNormal}
use Rattle.spf_region.specs.Merging.{coalesced}
use Rattle.spf_region.proofs.Merged.{merged-offsets, merged-wholes, merged-arrays, merged-normal}
use Rattle.spf_region.proofs.Results.{given}
use Rattle.spf_region.proofs.merge.merge.Goals as goal

pub returns-clause-offsets : goal.returns-clause-offsets
returns-clause-offsets c =
    let is = c.deref.ensures.value ∙ c.in_ok-all.ensures in
    given (λ v. v.items) (λ l. offsets_of l ≡ in_either (offsets_of c.args.left.now) (offsets_of c.args.right.now)) c.coalesce.result (coalesced c.deref.result.now) (ap (λ l. offsets_of (coalesced l)) is ∙ merged-offsets c.args.left.now c.args.right.now c.requires.left c.requires.right) c.coalesce.ensures

pub returns-clause-wholes : goal.returns-clause-wholes
returns-clause-wholes c =
    let is = c.deref.ensures.value ∙ c.in_ok-all.ensures in
    given (λ v. v.items) (λ l. wholes_of l ≡ whole_in_either (wholes_of c.args.left.now) (wholes_of c.args.right.now)) c.coalesce.result (coalesced c.deref.result.now) (ap (λ l. wholes_of (coalesced l)) is ∙ merged-wholes c.args.left.now c.args.right.now c.requires.left c.requires.right) c.coalesce.ensures

pub returns-clause-normal : goal.returns-clause-normal
returns-clause-normal c =
    let is = c.deref.ensures.value ∙ c.in_ok-all.ensures in
    given (λ v. v.items) IsNormal c.coalesce.result (coalesced c.deref.result.now) (subst (λ l. IsNormal (coalesced l)) (sym is) (merged-normal c.args.left.now c.args.right.now c.requires.left c.requires.right)) c.coalesce.ensures

pub returns-clause-arrays : goal.returns-clause-arrays
returns-clause-arrays c =
    let is = c.deref.ensures.value ∙ c.in_ok-all.ensures in
    given (λ v. v.items) (λ l. has_array l ≡ whole_in_either (has_array c.args.left.now) (has_array c.args.right.now)) c.coalesce.result (coalesced c.deref.result.now) (ap (λ l. has_array (coalesced l)) is ∙ merged-arrays c.args.left.now c.args.right.now c.requires.left c.requires.right) c.coalesce.ensures

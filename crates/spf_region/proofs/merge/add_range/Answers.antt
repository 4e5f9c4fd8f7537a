use Rattle.std.proofs.Common.{◌≡◌, ◌∙◌, ap, subst, sym}
use Rattle.spf_region.specs.Ranges.{has_array, array_joined, offsets_of, wholes_of, joined, whole_joined, IsNormal}
use Rattle.spf_region.specs.Merging.{coalesced}
use Rattle.spf_region.proofs.Merged.{added-offsets, added-wholes, added-arrays, added-normal}
use Rattle.spf_region.proofs.Results.{given}
use Rattle.spf_region.proofs.merge.add_range.Goals as goal

pub returns-clause-offsets : goal.returns-clause-offsets
returns-clause-offsets c =
    let is = c.deref.ensures.value ∙ c.in_ok-all.ensures in
    given (λ v. v.items) (λ l. offsets_of l ≡ joined c.args.range (offsets_of c.args.ranges.now)) c.coalesce.result (coalesced c.deref.result.now) (ap (λ l. offsets_of (coalesced l)) is ∙ added-offsets c.args.range c.args.ranges.now c.requires.filled c.requires.normal) c.coalesce.ensures

pub returns-clause-wholes : goal.returns-clause-wholes
returns-clause-wholes c =
    let is = c.deref.ensures.value ∙ c.in_ok-all.ensures in
    given (λ v. v.items) (λ l. wholes_of l ≡ whole_joined c.args.range (wholes_of c.args.ranges.now)) c.coalesce.result (coalesced c.deref.result.now) (ap (λ l. wholes_of (coalesced l)) is ∙ added-wholes c.args.range c.args.ranges.now c.requires.filled c.requires.normal) c.coalesce.ensures

pub returns-clause-normal : goal.returns-clause-normal
returns-clause-normal c =
    let is = c.deref.ensures.value ∙ c.in_ok-all.ensures in
    given (λ v. v.items) IsNormal c.coalesce.result (coalesced c.deref.result.now) (subst (λ l. IsNormal (coalesced l)) (sym is) (added-normal c.args.range c.args.ranges.now c.requires.filled c.requires.normal)) c.coalesce.ensures

pub returns-clause-arrays : goal.returns-clause-arrays
returns-clause-arrays c =
    let is = c.deref.ensures.value ∙ c.in_ok-all.ensures in
    given (λ v. v.items) (λ l. has_array l ≡ array_joined c.args.range (has_array c.args.ranges.now)) c.coalesce.result (coalesced c.deref.result.now) (ap (λ l. has_array (coalesced l)) is ∙ added-arrays c.args.range c.args.ranges.now c.requires.filled c.requires.normal) c.coalesce.ensures

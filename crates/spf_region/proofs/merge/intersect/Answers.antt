use Rattle.std.proofs.Common.{◌≡◌}
use Rattle.spf_region.specs.Ranges.{offsets_of, wholes_of, in_both, whole_in_both, IsNormal}
use Rattle.spf_region.specs.Merging.{met}
use Rattle.spf_region.proofs.Merged.{met-offsets, met-wholes, met-normal}
use Rattle.spf_region.proofs.Results.{given}
use Rattle.spf_region.proofs.merge.intersect.Goals as goal

pub returns-clause-offsets : goal.returns-clause-offsets
returns-clause-offsets c = given (λ v. v.items) (λ l. offsets_of l ≡ in_both (offsets_of c.args.left.now) (offsets_of c.args.right.now)) c.common_ranges.result (met c.args.left.now c.args.right.now) (met-offsets c.args.left.now c.args.right.now c.requires.left c.requires.right) c.common_ranges.ensures

pub returns-clause-wholes : goal.returns-clause-wholes
returns-clause-wholes c = given (λ v. v.items) (λ l. wholes_of l ≡ whole_in_both (wholes_of c.args.left.now) (wholes_of c.args.right.now)) c.common_ranges.result (met c.args.left.now c.args.right.now) (met-wholes c.args.left.now c.args.right.now c.requires.left c.requires.right) c.common_ranges.ensures

pub returns-clause-normal : goal.returns-clause-normal
returns-clause-normal c = given (λ v. v.items) IsNormal c.common_ranges.result (met c.args.left.now c.args.right.now) (met-normal c.args.left.now c.args.right.now c.requires.left c.requires.right) c.common_ranges.ensures

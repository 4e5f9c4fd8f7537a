use Rattle.std.proofs.Common.{ap, ◌∙◌, w64}
use Rattle.std.proofs.lemmas.Int.{to_z-of_z}
use Rattle.std.specs.Prelude.{◌+ℤ◌}
use Rattle.spf_region.proofs.Wide.{sum-fits-wide, sum-is, sum-small}
use Rattle.spf_region.proofs.cells.at_block.Goals as goal

pub overflow_add-result : goal.overflow_add-result
overflow_add-result c = sum-fits-wide c.product.result c.args.offset c.from.result c.product.ensures.size c.ranges.offset c.from.ensures

pub returns-clause-size : goal.returns-clause-size
returns-clause-size c = rw (sum-is c.product.result c.args.offset c.from.result c.product.ensures.size c.ranges.offset c.from.ensures) (sum-small c.product.result c.args.offset c.product.ensures.size c.ranges.offset)

pub returns-clause-value : goal.returns-clause-value
returns-clause-value c =
    let product = rw (to_z-of_z w64 c.args.factor c.ranges.factor, to_z-of_z w64 c.args.k c.ranges.k) at c.product.ensures.value in
    sum-is c.product.result c.args.offset c.from.result c.product.ensures.size c.ranges.offset c.from.ensures ∙ ap (λ z. z +ℤ c.args.offset) product

use Rattle.spf_region.proofs.Wide.{product-fits-wide, product-is, product-small}
use Rattle.spf_region.proofs.cells.product.Goals as goal

pub overflow_mul-result : goal.overflow_mul-result
overflow_mul-result c = product-fits-wide c.args.factor c.args.k c.from.result c.from-2.result c.ranges.factor c.ranges.k c.from.ensures c.from-2.ensures

pub returns-clause-size : goal.returns-clause-size
returns-clause-size c = rw (product-is c.args.factor c.args.k c.from.result c.from-2.result c.ranges.factor c.ranges.k c.from.ensures c.from-2.ensures) (product-small c.args.factor c.args.k c.ranges.factor c.ranges.k)

pub returns-clause-value : goal.returns-clause-value
returns-clause-value c = product-is c.args.factor c.args.k c.from.result c.from-2.result c.ranges.factor c.ranges.k c.from.ensures c.from-2.ensures

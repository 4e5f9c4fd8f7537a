use Rattle.std.proofs.Common.{Bool, ap}
use Rattle.std.specs.Prelude.{if◌then◌else◌}
use Rattle.spf_region.specs.declared.bound.Bound.TheVariants.{Unknown}
use Rattle.spf_effects_walk.proofs.context.parameter_bound.Goals as goal

pub returns-then-contains : goal.returns-then-contains
returns-then-contains c = ap (λ (b : Bool). if b then Unknown else c.args.bound) (c.if-contains.ensures {u = tt})

pub returns : goal.returns
returns c = ap (λ (b : Bool). if b then Unknown else c.args.bound) (c.if-contains.ensures {u = tt})

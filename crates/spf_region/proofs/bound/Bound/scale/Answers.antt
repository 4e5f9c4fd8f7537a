use Rattle.std.proofs.Common.{rules, ◌∙◌, ap, sym, ◌*ℤ◌, FitsSigned, w64}
use Rattle.std.proofs.lemmas.Int.{to_z-of_z}
use Rattle.spf_region.specs.Bounds.{small, scaled}
use Rattle.spf_region.proofs.Bounds.{between_products}
use Rattle.spf_region.proofs.bound.Bound.scale.Goals as goal

pub returns-in-Known : goal.returns-in-Known
returns-in-Known c =
    let f : FitsSigned w64 c.in-Known.factor = search rules in
    let l : FitsSigned w64 c.in-Known.low = search rules in
    let h : FitsSigned w64 c.in-Known.high = search rules in
    let between = between_products (small (c.in-Known.factor *ℤ c.args.c)) (c.in-Known.low *ℤ c.args.c) (c.in-Known.high *ℤ c.args.c) in
    let e = rw (c.small_product.ensures, c.small_product-in-Known.ensures, c.small_product-in-Known-2.ensures, to_z-of_z w64 _ c.ranges.c, to_z-of_z w64 _ f, to_z-of_z w64 _ l, to_z-of_z w64 _ h) at c.known_between.ensures in
    e ∙ between ∙ ap (λ b. scaled b c.args.c) (sym c.in-Known.is)

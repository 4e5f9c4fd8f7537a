use Rattle.std.proofs.Common.{◌≡◌, ℤ, pos, negsuc, ap, ◌∙◌, arith, w64, to_z, of_z, FitsSigned}
use Rattle.std.specs.Prelude.{◌+ℤ◌, ◌-ℤ◌}
use Rattle.std.proofs.lemmas.Int.{to_z-of_z, ints}
use Rattle.spf_region.specs.Bounds.{kept}
use Rattle.spf_effects_walk.proofs.bounds.up_to.Goals as goal

with_none : (n : ℤ) → FitsSigned w64 n → to_z w64 (of_z w64 n) +ℤ pos 0 ≡ n
with_none n fits = omega (arith, ints)

one_less : (n : ℤ) → FitsSigned w64 n → to_z w64 (of_z w64 n) +ℤ negsuc 0 ≡ n -ℤ pos 1
one_less n fits = ap (λ z. z +ℤ negsuc 0) (to_z-of_z w64 n fits)

pub returns : goal.returns
returns c =
    c.plus.ensures.plus
    ∙ (λ i. kept (with_none c.args.factor c.ranges.factor i) (with_none c.args.first c.ranges.first i) (one_less c.args.end c.ranges.end i))

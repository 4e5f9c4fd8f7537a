use Rattle.std.proofs.Common.{◌≡◌, Bool, true, ℤ, pos, negsuc, sym, ap, ◌∙◌, arith, rules, w64, to_z, of_z, FitsSigned}
use Rattle.std.specs.Prelude.{◌+ℤ◌, Some, None, if◌then◌else◌}
use Rattle.std.specs.Int.{w128}
use Rattle.std.proofs.lemmas.Int.{to_z-of_z}
use Rattle.std.proofs.lemmas.Bool.Decides.{nat_tests}
use Rattle.spf_region.specs.Bounds.{is_small}
use Rattle.spf_effects_walk.proofs.sweeps.small_sum.Goals as goal

wide : (n : ℤ) → FitsSigned w64 n → FitsSigned w128 n
wide n f = record { sfits = omega arith }

-- the sum as the code computes it
sum_is : (n d from : ℤ) → FitsSigned w64 n → FitsSigned w128 d → FitsSigned w128 (n +ℤ d) → from ≡ to_z w64 (of_z w64 n) → to_z w128 (of_z w128 (to_z w128 (of_z w128 from) +ℤ to_z w128 (of_z w128 d))) ≡ n +ℤ d
sum_is n d from f g s is =
    let a : to_z w128 (of_z w128 from) ≡ n = ap (λ z. to_z w128 (of_z w128 z)) (is ∙ to_z-of_z w64 n f) ∙ to_z-of_z w128 n (wide n f) in
    let b : to_z w128 (of_z w128 d) ≡ d = to_z-of_z w128 d g in
    ap (λ z. to_z w128 (of_z w128 z)) (λ i. a i +ℤ b i) ∙ to_z-of_z w128 (n +ℤ d) s

small_fits : (v : ℤ) → is_small v ≡ true → FitsSigned w64 v
small_fits (pos n) h = record { sfits = grind (arith, nat_tests) }
small_fits (negsuc n) h = record { sfits = grind (arith, nat_tests) }

pub returns-then-is_small : goal.returns-then-is_small
returns-then-is_small c =
    let v = c.args.n +ℤ c.args.distance in
    let fits : FitsSigned w128 v = search rules in
    let is = sum_is c.args.n c.args.distance c.from.result c.ranges.n c.ranges.distance fits c.from.ensures in
    let small : is_small v ≡ true = sym (c.if-is_small.ensures {u = tt} ∙ ap is_small is) in
    ap (λ z. Some (to_z w64 (of_z w64 z))) is ∙ ap (λ z. Some z) (to_z-of_z w64 v (small_fits v small)) ∙ ap (λ (b : Bool). if b then Some v else None) (sym small)

pub returns-else-is_small : goal.returns-else-is_small
returns-else-is_small c =
    let v = c.args.n +ℤ c.args.distance in
    let fits : FitsSigned w128 v = search rules in
    let is = sum_is c.args.n c.args.distance c.from.result c.ranges.n c.ranges.distance fits c.from.ensures in
    ap (λ (b : Bool). if b then Some v else None) (c.if-is_small.ensures {u = tt} ∙ ap is_small is)

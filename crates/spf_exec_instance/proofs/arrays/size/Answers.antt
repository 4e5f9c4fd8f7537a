use Rattle.std.proofs.Common.{rules, ◌+ℤ◌, ◌*ℤ◌, pos, w64, FitsSigned, to_z, of_z, sym, ap, ◌∙◌}
use Rattle.std.specs.Int.{w128}
use Rattle.std.proofs.lemmas.Int.{to_z-of_z}
use lib.Signed.{lt_z}
use lib.IntN.{nat_abs}
use Rattle.spf_exec_instance.proofs.Cells.{size_fits, coded_size-is, size_below, size_above}
use Rattle.spf_exec_instance.proofs.arrays.size.Goals as goal

pub overflow_add-size : goal.overflow_add-size
overflow_add-size c =
    let f : FitsSigned w64 c.args.array.now.factor = search rules in
    let g : FitsSigned w64 c.args.array.now.offset = search rules in
    rw (coded_size-is c.args.array.now.factor c.args.array.now.offset c.args.len f g c.ranges.len.fits) (size_fits c.args.array.now.factor c.args.array.now.offset c.args.len f g c.ranges.len.fits)

pub returns-then-size-lt0 : goal.returns-then-size-lt0
returns-then-size-lt0 c =
    let f : FitsSigned w64 c.args.array.now.factor = search rules in
    let g : FitsSigned w64 c.args.array.now.offset = search rules in
    let e = coded_size-is c.args.array.now.factor c.args.array.now.offset c.args.len f g c.ranges.len.fits in
    let k = size_fits c.args.array.now.factor c.args.array.now.offset c.args.len f g c.ranges.len.fits in
    let z = ap (λ x. to_z w128 (of_z w128 x)) e ∙ to_z-of_z w128 (c.args.array.now.factor *ℤ pos c.args.len +ℤ c.args.array.now.offset) k in
    size_below (c.args.array.now.factor *ℤ pos c.args.len +ℤ c.args.array.now.offset) (ap (λ x. lt_z x (pos 0)) (sym z) ∙ c.if-size-lt0.true)

pub returns-else-size-lt0 : goal.returns-else-size-lt0
returns-else-size-lt0 c =
    let f : FitsSigned w64 c.args.array.now.factor = search rules in
    let g : FitsSigned w64 c.args.array.now.offset = search rules in
    let e = coded_size-is c.args.array.now.factor c.args.array.now.offset c.args.len f g c.ranges.len.fits in
    let k = size_fits c.args.array.now.factor c.args.array.now.offset c.args.len f g c.ranges.len.fits in
    let z = ap (λ x. to_z w128 (of_z w128 x)) e ∙ to_z-of_z w128 (c.args.array.now.factor *ℤ pos c.args.len +ℤ c.args.array.now.offset) k in
    ap nat_abs z ∙ size_above (c.args.array.now.factor *ℤ pos c.args.len +ℤ c.args.array.now.offset) (ap (λ x. lt_z x (pos 0)) (sym z) ∙ c.if-size-lt0.false)

use Rattle.std.proofs.Common.{rules, sym, ◌∙◌, w64, FitsSigned}
use Rattle.std.proofs.lemmas.Int.{to_z-of_z}
use Rattle.spf_region.proofs.Pairs.{overlap-same}
use Rattle.spf_region.proofs.merge.overlap.Goals as goal

pub returns-else-factor-other_factor : goal.returns-else-factor-other_factor
returns-else-factor-other_factor c =
    let p = c.in-Affine-Affine in
    let same = overlap-same c.args.range.now c.args.other.now p.array p.other_array p.factor p.from p.to p.other_factor p.other_from p.other_to p.is-0 p.is-1 (search rules) (search rules) in
    let f : FitsSigned w64 p.factor = search rules in
    let l : FitsSigned w64 p.from = search rules in
    let h : FitsSigned w64 p.to = search rules in
    let m : FitsSigned w64 p.other_from = search rules in
    let i : FitsSigned w64 p.other_to = search rules in
    let e = rw (to_z-of_z w64 _ f, to_z-of_z w64 _ l, to_z-of_z w64 _ h, to_z-of_z w64 _ m, to_z-of_z w64 _ i) at c.common.ensures in
    e ∙ sym same

use Rattle.std.proofs.Common.{arith, ◌≤ℤ◌, sym, ap, ◌∙◌}
use Rattle.std.specs.List.{list_any}
use Rattle.std.proofs.lemmas.Int.{ints}
use Rattle.spf_region.specs.Ranges.{covers, offsets_of}
use Rattle.spf_region.specs.Spanning.{spans}
use Rattle.spf_region.proofs.Covers.{covers-spans}
use Rattle.spf_region.proofs.query.covers_offsets.Goals as goal

pub returns-else-to-from : goal.returns-else-to-from
returns-else-to-from c =
    let p = c.in-Affine in
    let le : p.from ≤ℤ p.to = grind (arith, ints, c.if-to-from.false) in
    c.is_spanned.ensures ∙ ap (λ r. list_any (spans r) c.args.ranges.now) p.is
    ∙ sym (covers-spans p.array p.factor p.from p.to c.args.ranges.now c.requires le)
    ∙ ap (λ r. covers (offsets_of c.args.ranges.now) r) (sym p.is)

use Rattle.std.proofs.Common.{rules, ◌≡◌, ◌∙◌, sym, refl, ℤ, pos, int_lt, w64}
use Rattle.std.specs.Int.{int_min, int_max}
use Rattle.std.proofs.lemmas.Int.{to_z-of_z}
use Rattle.spf_region.specs.Ranges.{disjoint_offsets}
use Rattle.spf_region.proofs.range.are_disjoint_offsets.Goals as goal

of_zeros : (f l h g m i : ℤ) → f ≡ pos 0 → g ≡ pos 0 → disjoint_offsets f l h g m i ≡ int_lt (int_min h i) (int_max l m)
of_zeros f l h g m i e d = rw (e, d) refl

pub returns : goal.returns
returns c =
    let f : c.args.factor ≡ pos 0 = search rules in
    let g : c.args.other_factor ≡ pos 0 = search rules in
    let e = rw (to_z-of_z w64 _ c.ranges.from, to_z-of_z w64 _ c.ranges.to, to_z-of_z w64 _ c.ranges.other_from, to_z-of_z w64 _ c.ranges.other_to) at c.have_none_in_common.ensures in
    e ∙ sym (of_zeros _ c.args.from c.args.to _ c.args.other_from c.args.other_to f g)

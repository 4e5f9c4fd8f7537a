use Rattle.std.proofs.Common.{rules, sym, ◌∙◌, w64, FitsSigned}
use Rattle.std.proofs.lemmas.Int.{to_z-of_z}
use Rattle.spf_effects_findings.proofs.Between.{range_of_one_factor}
use Rattle.spf_effects_findings.proofs.findings.Findings.write_range.Goals as goal

pub returns-then-is_same : goal.returns-then-is_same
returns-then-is_same c =
    let f : FitsSigned w64 c.in-Known-Known.factor = search rules in
    let l : FitsSigned w64 c.in-Known-Known.low = search rules in
    let h : FitsSigned w64 c.in-Known-Known.high = search rules in
    let g : FitsSigned w64 c.in-Known-Known.other_factor = search rules in
    let m : FitsSigned w64 c.in-Known-Known.end_low = search rules in
    let i : FitsSigned w64 c.in-Known-Known.end_high = search rules in
    let same = rw (to_z-of_z w64 c.in-Known-Known.factor f, to_z-of_z w64 c.in-Known-Known.other_factor g) at (sym c.is_same.ensures ∙ c.if-is_same.true) in
    let k = rw (to_z-of_z w64 c.in-Known-Known.factor f, to_z-of_z w64 c.in-Known-Known.low l, to_z-of_z w64 c.in-Known-Known.high h, to_z-of_z w64 c.in-Known-Known.end_low m, to_z-of_z w64 c.in-Known-Known.end_high i) at c.write_between.ensures in
    rw (c.in-Known-Known.is-0, c.in-Known-Known.is-1) (range_of_one_factor c.write_between.result c.args.array c.in-Known-Known.factor c.in-Known-Known.low c.in-Known-Known.high c.in-Known-Known.other_factor c.in-Known-Known.end_low c.in-Known-Known.end_high c.args.self.now c.write_between.new.self same k)

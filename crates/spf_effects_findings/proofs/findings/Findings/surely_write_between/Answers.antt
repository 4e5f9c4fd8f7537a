use Rattle.std.proofs.Common.{rules, sym, ◌∙◌, w64, FitsSigned}
use Rattle.std.proofs.lemmas.Int.{to_z-of_z}
use Rattle.spf_effects_findings.proofs.Between.{sure_none, sure_some}
use Rattle.spf_effects_findings.proofs.findings.Findings.surely_write_between.Goals as goal

pub returns-in-Some : goal.returns-in-Some
returns-in-Some c =
    let first_low : FitsSigned w64 c.args.first.low = search rules in
    let first_high : FitsSigned w64 c.args.first.high = search rules in
    let end_low : FitsSigned w64 c.args.end.low = search rules in
    let end_high : FitsSigned w64 c.args.end.high = search rules in
    let old = c.self.inside in
    let l : FitsSigned w64 c.in-Some.last = search rules in
    let e = rw (to_z-of_z w64 c.args.first.low first_low, to_z-of_z w64 c.args.first.high first_high, to_z-of_z w64 c.args.end.low end_low, to_z-of_z w64 c.args.end.high end_high) at (sym c.last_of_one.ensures ∙ c.in-Some.is) in
    let p = rw (to_z-of_z w64 c.args.factor c.ranges.factor, to_z-of_z w64 c.args.first.low first_low, to_z-of_z w64 c.in-Some.last l) at c.add.ensures.offsets in
    rw (← c.self.view_is) (sure_some c.add.result c.args.array c.args.factor c.args.first.low c.args.first.high c.args.end.low c.args.end.high c.in-Some.last old.uncovered old.may old.written c.add.new.self e p c.add.ensures.wholes)

pub returns-in-None : goal.returns-in-None
returns-in-None c =
    let first_low : FitsSigned w64 c.args.first.low = search rules in
    let first_high : FitsSigned w64 c.args.first.high = search rules in
    let end_low : FitsSigned w64 c.args.end.low = search rules in
    let end_high : FitsSigned w64 c.args.end.high = search rules in
    let e = rw (to_z-of_z w64 c.args.first.low first_low, to_z-of_z w64 c.args.first.high first_high, to_z-of_z w64 c.args.end.low end_low, to_z-of_z w64 c.args.end.high end_high) at (sym c.last_of_one.ensures ∙ c.in-None.is) in
    sure_none c.args.array c.args.factor c.args.first.low c.args.first.high c.args.end.low c.args.end.high c.args.self.now e

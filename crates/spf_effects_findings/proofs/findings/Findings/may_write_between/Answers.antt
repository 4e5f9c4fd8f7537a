use Rattle.std.proofs.Common.{rules, sym, ◌∙◌, w64, FitsSigned}
use Rattle.std.proofs.lemmas.Int.{to_z-of_z}
use Rattle.spf_effects_findings.proofs.Between.{may_some}
use Rattle.spf_effects_findings.proofs.findings.Findings.may_write_between.Goals as goal

pub returns-in-Some : goal.returns-in-Some
returns-in-Some c =
    let old = c.self.inside in
    let l : FitsSigned w64 c.in-Some.last = search rules in
    let e = rw (to_z-of_z w64 c.args.first c.ranges.first, to_z-of_z w64 c.args.end c.ranges.end) at (sym c.last_between.ensures ∙ c.in-Some.is) in
    let p = rw (to_z-of_z w64 c.args.factor c.ranges.factor, to_z-of_z w64 c.args.first c.ranges.first, to_z-of_z w64 c.in-Some.last l) at c.add.ensures.offsets in
    rw (← c.self.view_is) (may_some c.add.result c.args.array c.args.factor c.args.first c.args.end c.in-Some.last old.uncovered old.may old.written c.add.new.self e p c.add.ensures.wholes)

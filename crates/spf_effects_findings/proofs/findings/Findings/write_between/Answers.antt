use Rattle.std.proofs.Common.{rules, w64, FitsSigned}
use Rattle.std.proofs.lemmas.Int.{to_z-of_z}
use Rattle.spf_effects_findings.specs.Found.{may_write_between, surely_writes_between}
use Rattle.spf_effects_findings.proofs.Then.{extends_then_on}
use Rattle.spf_effects_findings.proofs.findings.Findings.write_between.Goals as goal

pub returns : goal.returns
returns c =
    let first_low : FitsSigned w64 c.args.first.low = search rules in
    let end_high : FitsSigned w64 c.args.end.high = search rules in
    let h = rw (to_z-of_z w64 c.args.factor c.ranges.factor, to_z-of_z w64 c.args.first.low first_low, to_z-of_z w64 c.args.end.high end_high) at (c.in_ok-may_write_between.ensures {u = tt}) in
    let k = rw (to_z-of_z w64 c.args.factor c.ranges.factor) at c.surely_write_between.ensures in
    extends_then_on c.surely_write_between.result (may_write_between c.args.array c.args.factor c.args.first.low c.args.end.high) (surely_writes_between c.args.array c.args.factor c.args.first.low c.args.first.high c.args.end.low c.args.end.high) c.args.self.now c.may_write_between.new.self c.surely_write_between.new.self h k

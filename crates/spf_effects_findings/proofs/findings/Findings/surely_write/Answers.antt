use Rattle.spf_effects_findings.proofs.Grown.{sure_range}
use Rattle.spf_effects_findings.proofs.findings.Findings.surely_write.Goals as goal

pub returns : goal.returns
returns c =
    let old = c.self.inside in
    rw (← c.self.view_is) (sure_range c.add.result c.args.range old.uncovered old.may old.written c.add.new.self c.requires.affine c.add.ensures.offsets c.add.ensures.wholes)

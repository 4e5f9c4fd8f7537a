use Rattle.spf_effects_findings.proofs.Grown.{write_whole}
use Rattle.spf_effects_findings.proofs.findings.Findings.may_write_whole.Goals as goal

pub returns : goal.returns
returns c =
    let old = c.self.inside in
    rw (← c.self.view_is) (write_whole c.add.result c.args.array old.uncovered old.may old.written c.add.new.self c.add.ensures.offsets c.add.ensures.wholes)

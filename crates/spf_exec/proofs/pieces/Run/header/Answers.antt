use Rattle.spf_ast.specs.ConstructView.{construct}
use Rattle.spf_exec_instance.specs.Instance.{program_of}
use Rattle.spf_exec.proofs.Constructs.{index_of_first}
use Rattle.spf_exec.proofs.pieces.Run.header.Goals as goal

pub header_of-requires-clause-construct : goal.header_of-requires-clause-construct
header_of-requires-clause-construct c =
    let p = program_of c.args.instance.now in
    let r = rw (← c.self.view_is) at c.requires.run in
    index_of_first p.main c.self.inside.place c.self.inside.passed (construct c.args.construct) (rw (← c.self.view_is) at c.requires.construct) r.passed

pub returns-clause-header : goal.returns-clause-header
returns-clause-header c = rw (← c.self.view_is) (c.header_of.ensures.header c.self.inside.place c.self.inside.passed)

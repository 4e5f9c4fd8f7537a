use Rattle.spf_ast.specs.RawView.{raw_program}
use Rattle.spf_types.proofs.Whole.{whole}
use Rattle.spf_types.proofs.program.resolve.Goals as goal

pub returns : goal.returns
returns c =
    let w = whole (raw_program c.args.raw) c.requires c.resolved_of.result c.resolved_of.ensures in
    record { program = w.program_is; only = w.only; accepted = w.accepted; refused = w.refused; refused_exactly = w.refused_exactly }

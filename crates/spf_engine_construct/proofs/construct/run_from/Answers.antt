use Rattle.std.proofs.Common.{sym, subst}
use Rattle.spf_ast.specs.Lawful.{IsLawful}
use Rattle.spf_check.specs.Accepting.{IsAccepted}
use Rattle.spf_engine_construct.proofs.construct.run_from.Goals as goal

pub run_crew-requires-clause-job : goal.run_crew-requires-clause-job
run_crew-requires-clause-job g c κs within =
    c.accepted_constructs_can_run.ensures _ (subst IsLawful (sym c.requires.there.program) c.program-program.ensures.lawful)
    (subst IsAccepted (sym c.requires.there.program) c.program-program.ensures.accepted) c.requires.there.construct c.requires.there.cells

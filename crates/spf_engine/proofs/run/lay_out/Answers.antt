use Rattle.std.proofs.Common.{sym, ap, subst}
use Rattle.spf_ast.specs.Lawful.{IsLawful}
use Rattle.spf_ast.specs.View.{program as seen_program}
use Rattle.spf_engine.proofs.run.lay_out.Goals as goal

pub make-requires : goal.make-requires
make-requires c = record {
  orderly = c.breaks_stay_in_their_loops.ensures.programs (seen_program c.program.result.now)
      (subst IsLawful (sym (ap seen_program c.program.ensures.program)) c.program.ensures.lawful);
}

use Rattle.std.proofs.Common.{sym, ap, subst}
use Rattle.spf_ast.specs.Lawful.{IsLawful}
use Rattle.spf_ast.specs.Silence.{FunctionsAreSilent}
use Rattle.spf_ast.specs.Syntax.{Program}
use Rattle.spf_ast.specs.View.{program as seen_program}
use Rattle.spf_engine.proofs.run.set_up.Goals as goal

pub fill_tables-requires : goal.fill_tables-requires
fill_tables-requires c = record {
  silent = subst (λ (p : Program). FunctionsAreSilent p.functions) (sym c.in_ok-instance.ensures.program)
      (c.lawful_programs_are_quiet_and_small.ensures.functions (seen_program c.args.checked.now) c.program.ensures.lawful);
}

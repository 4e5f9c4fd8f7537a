use Rattle.std.proofs.Common.{Result, Ok, Err, sym, subst}
use Rattle.std.specs.Prelude.{IfOk}
use Rattle.spf_ast.specs.Lawful.{IsLawful}
use Rattle.spf_check.specs.Accepting.{IsAccepted}
use Rattle.spf_tests_runtime.proofs.starting.start.Goals as goal

-- what holds anyway
if-ok : {A E : Type 0} (r : Result A E) (P : Type 0) → P → IfOk r (λ x. P)
if-ok (Ok x) P h = h
if-ok (Err why) P h = tt

pub returns-clause-runs : goal.returns-clause-runs
returns-clause-runs c =
    if-ok c.start_fold.result _
    (c.accepted_constructs_can_run.ensures _ (subst IsLawful (sym c.requires.program) c.program-program.ensures.lawful)
    (subst IsAccepted (sym c.requires.program) c.program-program.ensures.accepted) c.requires.construct c.requires.entry)

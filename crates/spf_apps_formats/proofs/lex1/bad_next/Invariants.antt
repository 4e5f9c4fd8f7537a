use Rattle.spf_apps_formats.specs.Signatures.{AreBelow}
use Rattle.spf_apps_formats.specs.Lex1.{next_at}
use Rattle.spf_apps_formats.proofs.lex1.bad_next.Given as goal

abbrev pub invariant-loop-entry : goal.invariant-loop-entry
invariant-loop-entry l = AreBelow next_at l.entry l.states l.file

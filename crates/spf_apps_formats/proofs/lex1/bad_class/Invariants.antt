use Rattle.spf_apps_formats.specs.Signatures.{AreBelow}
use Rattle.spf_apps_formats.specs.Lex1.{class_at}
use Rattle.spf_apps_formats.proofs.lex1.bad_class.Given as goal

abbrev pub invariant-loop-byte : goal.invariant-loop-byte
invariant-loop-byte l = AreBelow class_at l.byte l.classes l.file

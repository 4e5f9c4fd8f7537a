use Rattle.spf_apps_formats.specs.Signatures.{AgreesBelow}
use Rattle.spf_apps_formats.proofs.signature.departure.Given as goal

abbrev pub invariant-loop-offset : goal.invariant-loop-offset
invariant-loop-offset l = AgreesBelow l.offset l.text l.file

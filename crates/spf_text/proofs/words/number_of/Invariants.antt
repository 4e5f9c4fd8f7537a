use Rattle.std.proofs.Common.{◌≡◌, drop}
use Rattle.spf_text.specs.Tokens.{number_from}
use Rattle.spf_text.proofs.words.number_of.Given as goal

abbrev pub invariant-loop-digit : goal.invariant-loop-digit
invariant-loop-digit l = number_from l.value (drop l.digit-index l.digits) ≡ number_from 0 l.digits

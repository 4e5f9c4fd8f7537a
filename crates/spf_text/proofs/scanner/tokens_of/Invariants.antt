use Rattle.std.proofs.Common.{length, ◌-◌}
use Rattle.spf_text.proofs.Scanned.{ScannedUpTo}
use Rattle.spf_text.proofs.scanner.tokens_of.Given as goal

abbrev pub invariant-loop-at : goal.invariant-loop-at
invariant-loop-at l = ScannedUpTo l.text l.tokens.items l.at

abbrev pub decreases-loop-at : goal.decreases-loop-at
decreases-loop-at l = length l.text - l.at

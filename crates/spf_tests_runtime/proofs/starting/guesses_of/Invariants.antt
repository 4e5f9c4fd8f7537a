use Rattle.std.proofs.Common.{◌≡◌, length}
use Rattle.spf_tests_runtime.proofs.starting.guesses_of.Given as goal

-- a guess for each value so far
abbrev pub invariant-loop-value : goal.invariant-loop-value
invariant-loop-value l = length l.guesses.items ≡ l.value-index

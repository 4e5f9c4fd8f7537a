use Rattle.std.proofs.Common.{◌≢◌, ℕ, ◌<◌, Some, None, slice_get}
use Rattle.spf_chain.proofs.file.lowest_out.Given as goal

-- no index so far is out
abbrev pub invariant-loop-block : goal.invariant-loop-block
invariant-loop-block l = (n : ℕ) → n < l.block → slice_get l.homes n ≢ Some None

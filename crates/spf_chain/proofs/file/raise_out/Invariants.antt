use Rattle.std.proofs.Common.{◌≡◌, ◌<◌, ◌≤◌, Some, None, slice_get}
use Rattle.spf_chain.specs.Chains.{HasRaised}
use Rattle.spf_chain.proofs.file.raise_out.Given as goal

-- the flags of the indices so far are raised
abbrev pub invariant-loop-block : goal.invariant-loop-block
invariant-loop-block l = HasRaised (λ n. (l.from ≤ n) × (n < l.block) × (slice_get l.homes n ≡ Some None)) l.initial.warden l.warden

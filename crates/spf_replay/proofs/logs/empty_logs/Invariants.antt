use Rattle.std.proofs.Common.{◌≡◌, ℕ, [], length}
use Rattle.spf_replay.specs.SeenSteps.{log_at}
use Rattle.spf_replay.proofs.logs.empty_logs.Given as goal

abbrev pub invariant-loop-i : goal.invariant-loop-i
invariant-loop-i l = (length l.logs.items ≡ l.i) × ((n : ℕ) → log_at l.logs.items n ≡ [])

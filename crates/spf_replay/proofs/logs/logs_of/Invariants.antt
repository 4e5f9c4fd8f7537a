use Rattle.std.proofs.Common.{◌≡◌, ℕ, ◌++◌, length, drop}
use Rattle.spf_speculation.specs.Steps.{log_of, AreBelow}
use Rattle.spf_replay.specs.SeenSteps.{seen_steps, log_at}
use Rattle.spf_replay.proofs.logs.logs_of.Given as goal

abbrev pub invariant-loop-step : goal.invariant-loop-step
invariant-loop-step l = (length l.logs.items ≡ l.blocks) × AreBelow l.blocks (seen_steps (drop l.step-index l.steps))
    × ((n : ℕ) → log_at l.logs.items n ++ log_of n (seen_steps (drop l.step-index l.steps)) ≡ log_of n (seen_steps l.steps))

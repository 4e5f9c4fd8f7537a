use Rattle.std.proofs.Common.{◌+◌, ◌-◌, ◌≤◌, ℕ, length}
use Rattle.spf_ast.specs.Carried.{Carried}
use Rattle.spf_replay.specs.Entered.{entry_of, HasGuesses}
use Rattle.spf_replay.specs.Runners.{IsScratch}
use Rattle.spf_replay.specs.SeenSteps.{seen_steps}
use Rattle.spf_replay.proofs.Simulated.{IsMade, weights}
use Rattle.spf_replay.proofs.schedule.schedule_of.Given as goal

abbrev pub invariant-loop-alloc : goal.invariant-loop-alloc
invariant-loop-alloc l = record {
  made : (guess : ℕ → Carried) → HasGuesses l.entered guess
      → IsMade (entry_of l.entered) guess l.state l.runners.items l.running.items (seen_steps l.steps.items) l.draws.state;
  few : length l.steps.items ≤ l.limit;
  scratch : IsScratch l.entered l.scratch;
}

abbrev pub decreases-loop-alloc : goal.decreases-loop-alloc
decreases-loop-alloc l = (l.limit - length l.steps.items) + weights (entry_of l.entered) 0 l.runners.items

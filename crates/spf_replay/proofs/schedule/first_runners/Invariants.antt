use Rattle.std.proofs.Common.{◌≡◌, ℕ, Some, length}
use Rattle.std.specs.Prelude.{slice_get}
use Rattle.spf_ast.specs.Carried.{Carried}
use Rattle.spf_replay.specs.declared.runner.Runner.{Runner}
use Rattle.spf_replay.specs.Entered.{entry_of, HasGuesses}
use Rattle.spf_replay.specs.Runners.{IsBlockOf}
use Rattle.spf_replay.specs.Schedule.{beginning}
use Rattle.spf_replay.proofs.schedule.first_runners.Given as goal

abbrev pub invariant-loop-n : goal.invariant-loop-n
invariant-loop-n l = (length l.runners.items ≡ l.n)
    × ((guess : ℕ → Carried) (state : ℕ) → HasGuesses l.entered guess → (k : ℕ) (r : Runner) → slice_get l.runners.items k ≡ Some r
    → IsBlockOf (entry_of l.entered) (beginning (entry_of l.entered) guess state) k r)

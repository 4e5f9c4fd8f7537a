use Rattle.std.proofs.Common.{◌≡◌, ◌<◌, ◌≤◌, ℕ, Some}
use Rattle.std.specs.Prelude.{slice_get}
use Rattle.spf_replay.specs.declared.runner.Runner.{Runner}
use Rattle.spf_replay.specs.Entered.{entry_of}
use Rattle.spf_replay.specs.Runners.{IsBlockOf, AreBlocksOf, RunsAgainOnEntry}
use Rattle.spf_replay.specs.Schedule.{Situation, after_filing}
use Rattle.spf_replay.proofs.filing.file.Given as goal

abbrev pub invariant-loop-n : goal.invariant-loop-n
invariant-loop-n l = (s : Situation) → AreBlocksOf (entry_of l.entered) s l.fn.runners → RunsAgainOnEntry (entry_of l.entered) s
    → ((k : ℕ) (r : Runner) → slice_get l.runners k ≡ Some r → l.n ≤ k → IsBlockOf (entry_of l.entered) s k r)
    × ((k : ℕ) (r : Runner) → slice_get l.runners k ≡ Some r → k < l.n → IsBlockOf (entry_of l.entered) (after_filing (entry_of l.entered) s) k r)

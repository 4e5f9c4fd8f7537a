use Rattle.std.proofs.Common.{◌<◌, ℕ}
use Rattle.std.specs.Prelude.{slice_get}
use Rattle.spf_ast.specs.Carried.{Carried}
use Rattle.spf_speculation.specs.Steps.{log_of}
use Rattle.spf_replay.specs.Deciding.{IsLogAt}
use Rattle.spf_replay.specs.SeenSteps.{seen_steps}
use Rattle.spf_replay.specs.Entered.{entry_of, HasGuesses}
use Rattle.spf_replay.specs.Runners.{HasRoom, AreOwnWords}
use Rattle.spf_replay.proofs.section.is_speculative_run.Given as goal

abbrev pub invariant-loop-n : goal.invariant-loop-n
invariant-loop-n l = record {
  room : HasRoom l.entered l.scratch;
  words : AreOwnWords l.entered l.scratch.cells.items;
  logs : (guess : ℕ → Carried) → HasGuesses l.entered guess → (k : ℕ) → k < l.n
      → IsLogAt (entry_of l.entered) guess (slice_get l.entered.reals.now k) k (log_of k (seen_steps l.steps));
}

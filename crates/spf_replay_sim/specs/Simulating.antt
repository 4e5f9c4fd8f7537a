-- The result of a simulation.
use Rattle.std.specs.Prelude.{◌≡◌, ◌≤◌, ℕ, List, Option, Some, None}
use Rattle.spf_ast.specs.Syntax.{Program}
use Rattle.spf_ast.specs.Program.{outcome, seen_outcome}
use Rattle.spf_guess_statistics.specs.Guess.{Hosts}
use Rattle.spf_guess_statistics.specs.Statistics.{tally}
use Rattle.spf_replay_log.specs.Log.{sections_of}
use Rattle.spf_replay.specs.Limits.{max_steps}
use Rattle.spf_replay.specs.Expecting.{expected, IsSchedule}
use Rattle.spf_replay.specs.Verdicts.{IsVerdict}
use Rattle.spf_replay.specs.declared.verdict.Verdict.TheVariants.{Yes}
use Rattle.spf_replay_walk.specs.Judging.{seen_log}
use Rattle.spf_replay_sim.specs.Drawing.{step_count, AreOfFewBlocks, HasTooManySteps}
use Rattle.spf_replay_sim.specs.declared.simulation.Simulated.{Simulated}

-- the log is the schedule from this seed, which isn't too long, and the verdict on it is Yes; outcome and statistics are those of the program's run
pub record IsSimulation (hosts : Hosts) (p : Program) (input : List ℕ) (seed : ℕ) (s : Simulated) : Type 0 where
  pub log : IsSchedule hosts p input seed (seen_log s.log.items)
  pub few : step_count (seen_log s.log.items) ≤ max_steps
  pub blocks : AreOfFewBlocks (sections_of s.log.items)
  pub right : IsVerdict (expected hosts p input) (seen_log s.log.items) Yes
  pub outcome_is : seen_outcome s.outcome ≡ outcome p input
  pub stats_are : s.stats ≡ (tally hosts p input).stats

-- a simulation, unless the schedule has too many steps
abbrev pub ComesTo : Hosts → Program → List ℕ → (seed : ℕ) → Option Simulated → Type 0
ComesTo hosts p input seed None = HasTooManySteps hosts p input seed
ComesTo hosts p input seed (Some s) = IsSimulation hosts p input seed s

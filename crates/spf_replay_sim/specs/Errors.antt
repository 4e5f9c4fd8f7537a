-- Why a run isn't simulated to its end.
use Rattle.std.specs.Prelude.{◌≡◌, ◌<◌, ◌≤◌, ℕ, [], Option, Some, None}
use Rattle.spf_exec_instance.specs.RunErrors.{counted}
use Rattle.spf_guess_statistics.specs.Guess.{Hosts}
use Rattle.spf_guess.specs.Answers.{WereTold}
use Rattle.spf_engine.specs.declared.error.EngineError.{EngineError}
use Rattle.spf_engine.specs.declared.error.EngineError.TheVariants as engine_error
use Rattle.spf_replay_sim.specs.declared.error.SimError.{SimError}
use Rattle.spf_replay_sim.specs.declared.error.SimError.TheVariants.{TooManyCells, NoHost, TooManySteps, OutOfMemory}

-- the error of a run as one of its simulation
abbrev pub error_of : EngineError → SimError
error_of (engine_error.TooManyCells count) = TooManyCells count
error_of (engine_error.NoHost number) = NoHost number
error_of engine_error.OutOfMemory = OutOfMemory

-- too many cells are the cause, and this is their number; or memory ran out
abbrev pub AreTooMany : ℕ → SimError → Type 0
AreTooMany cells (TooManyCells count) = count ≡ counted cells
AreTooMany cells (NoHost number) = ⊥
AreTooMany cells TooManySteps = ⊥
AreTooMany cells OutOfMemory = Unit {0}

-- the cause of each error of a run with this number of cells, and this limit, and this host missing; after the first
-- two, hosts were told nothing
abbrev pub IsNotSimulated : (cells limit : ℕ) → Option ℕ → (before now : Hosts) → SimError → Type 0
IsNotSimulated cells limit missing before now (TooManyCells count) = (limit < cells) × (count ≡ counted cells) × WereTold before [] now
IsNotSimulated cells limit missing before now (NoHost number) = (cells ≤ limit) × (missing ≡ Some number) × WereTold before [] now
IsNotSimulated cells limit missing before now TooManySteps = (cells ≤ limit) × (missing ≡ None)
IsNotSimulated cells limit missing before now OutOfMemory = Unit {0}

-- Why a run doesn't reach its end.
use Rattle.std.specs.Prelude.{◌≡◌, ◌<◌, ◌≤◌, ℕ, [], Option, Some}
use Rattle.spf_exec_instance.specs.RunErrors.{counted}
use Rattle.spf_guess_statistics.specs.Guess.{Hosts}
use Rattle.spf_guess.specs.Answers.{WereTold}
use Rattle.spf_engine.specs.declared.error.EngineError.{EngineError}
use Rattle.spf_engine.specs.declared.error.EngineError.TheVariants.{TooManyCells, NoHost, OutOfMemory}

-- too many cells are the cause, and this is their number; or memory ran out
abbrev pub AreTooMany : ℕ → EngineError → Type 0
AreTooMany cells (TooManyCells count) = count ≡ counted cells
AreTooMany cells (NoHost number) = ⊥
AreTooMany cells OutOfMemory = Unit {0}

-- the first host that is missing is the cause; or memory ran out
abbrev pub IsMissing : Option ℕ → EngineError → Type 0
IsMissing missing (TooManyCells count) = ⊥
IsMissing missing (NoHost number) = missing ≡ Some number
IsMissing missing OutOfMemory = Unit {0}

-- hosts were told nothing where the program wasn't begun
abbrev pub WereToldNothing : EngineError → Hosts → Hosts → Type 0
WereToldNothing (TooManyCells count) before now = WereTold before [] now
WereToldNothing (NoHost number) before now = WereTold before [] now
WereToldNothing OutOfMemory before now = Unit {0}

-- the cause of each error of a run with this number of cells, and this limit, and this host missing; after the first
-- two, hosts were told nothing
abbrev pub IsCauseOf : (cells limit : ℕ) → Option ℕ → (before now : Hosts) → EngineError → Type 0
IsCauseOf cells limit missing before now (TooManyCells count) = (limit < cells) × (count ≡ counted cells) × WereTold before [] now
IsCauseOf cells limit missing before now (NoHost number) = (cells ≤ limit) × (missing ≡ Some number) × WereTold before [] now
IsCauseOf cells limit missing before now OutOfMemory = Unit {0}

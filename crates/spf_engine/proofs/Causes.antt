-- Why a run wasn't begun.
use Rattle.std.proofs.Common.{◌⊎◌, inl, inr, ◌<◌, ◌≤◌, ℕ, Option, refl, arith}
use Rattle.spf_guess_statistics.specs.Guess.{Hosts}
use Rattle.spf_engine.specs.Errors.{AreTooMany, IsMissing, IsCauseOf}
use Rattle.spf_engine.specs.declared.error.EngineError.{EngineError}
use Rattle.spf_engine.specs.declared.error.EngineError.TheVariants.{TooManyCells, NoHost, OutOfMemory}

-- it wasn't set up: there are too many cells, a host is missing, or memory ran out
pub not-set-up : (cells limit : ℕ) (missing : Option ℕ) (hosts : Hosts) (error : EngineError)
    → (limit < cells → AreTooMany cells error) → (cells ≤ limit → IsMissing missing error) → IsCauseOf cells limit missing hosts hosts error
not-set-up cells limit missing hosts error many few = by_error error many few (order limit cells)
  where
    order : (m n : ℕ) → (m < n) ⊎ (n ≤ m)
    order m n = grind arith

    by_error : (error : EngineError) → (limit < cells → AreTooMany cells error) → (cells ≤ limit → IsMissing missing error) → (limit < cells) ⊎ (cells ≤ limit) → IsCauseOf cells limit missing hosts hosts error
    by_error (TooManyCells count) many few (inl l) = (l, many l, λ host pairs block. refl)
    by_error (TooManyCells count) many few (inr l) = absurd (few l)
    by_error (NoHost number) many few (inl l) = absurd (many l)
    by_error (NoHost number) many few (inr l) = (l, few l, λ host pairs block. refl)
    by_error OutOfMemory many few l = tt

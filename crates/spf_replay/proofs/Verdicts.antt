-- Verdicts.
use Rattle.std.proofs.Common.{◌≡◌, ◌⊎◌, ℕ, suc, ◌<◌, List, [], ◌∷◌, length, refl, ap, arith}
use Rattle.std.specs.Prelude.{slice_get}
use Rattle.spf_ast_lemmas.proofs.Members.{cases}
use Rattle.spf_speculation.specs.Steps.{Step}
use Rattle.spf_replay.specs.declared.verdict.Verdict.{Verdict}
use Rattle.spf_replay.specs.declared.verdict.Verdict.TheVariants.{Yes, No}
use Rattle.spf_replay.specs.Verdicts.{Expected, SectionFits, IsVerdict, HaveSameRuns}

pub one-verdict : (expected : List Expected) (log : List (List Step)) (one other : Verdict) → IsVerdict expected log one → IsVerdict expected log other → one ≡ other
one-verdict expected log Yes Yes h g = refl
one-verdict expected log Yes (No k) h g = absurd (g.1 (h k))
one-verdict expected log (No k) Yes h g = absurd (h.1 (g k))
one-verdict expected log (No k) (No j) h g = cases (order k j)
    (λ less. absurd (h.1 (g.0 k less)))
    (λ rest. cases rest (λ more. absurd (g.1 (h.0 j more))) (λ same. ap (λ n. No n) same))
  where
    order : (a b : ℕ) → (a < b) ⊎ ((b < a) ⊎ (a ≡ b))
    order a b = grind arith

pub each-section : (expected : List Expected) (log : List (List Step)) → ((n : ℕ) → SectionFits expected log n) → length log ≡ length expected
each-section [] [] h = refl
each-section [] (steps ∷ log) h = absurd (h 0)
each-section (x ∷ expected) [] h = absurd (h 0)
each-section (x ∷ expected) (steps ∷ log) h = ap suc (each-section expected log (λ n. h (suc n)))

pub same-verdict : (one other : List Expected) (log : List (List Step)) (v : Verdict) → ((n : ℕ) → HaveSameRuns (slice_get one n) (slice_get other n))
    → IsVerdict one log v → IsVerdict other log v
same-verdict one other log Yes same h = λ n. (same n (slice_get log n)).0 (h n)
same-verdict one other log (No k) same h = ((λ n less. (same n (slice_get log n)).0 (h.0 n less)), (λ fits. h.1 ((same k (slice_get log k)).1 fits)))

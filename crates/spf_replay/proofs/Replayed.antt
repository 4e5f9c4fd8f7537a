-- The schedule of a whole run.
use Rattle.std.proofs.Common.{◌≡◌, ℕ, zero, suc, List, [], ◌∷◌, refl, subst, arith}
use Rattle.std.specs.List.{All}
use Rattle.spf_speculation_entry.specs.Entry.{IsEntry}
use Rattle.spf_speculation.specs.Steps.{Step}
use Rattle.spf_replay.specs.Schedule.{beginning}
use Rattle.spf_replay.specs.Laws.{SchedulesAreRuns}
use Rattle.spf_replay.specs.Verdicts.{Expected, SectionFits}
use Rattle.spf_replay.specs.Expecting.{AreScheduled}
use Rattle.spf_replay.proofs.Going.{goes, goes-once}

pub all-go : (constructs : List Expected) (state : ℕ) → (log : List (List Step)) × AreScheduled constructs state log
all-go [] state = ([], tt)
all-go (x ∷ others) state =
    let first = goes x.entry (beginning x.entry x.guess state) in
    let later = all-go others first.1 in
    (first.0 ∷ later.0, (first.1, first.2, later.1))

pub all-once : (constructs : List Expected) (state : ℕ) (one other : List (List Step)) → AreScheduled constructs state one → AreScheduled constructs state other → one ≡ other
all-once [] state [] [] h k = refl
all-once [] state [] (y ∷ ys) h k = absurd k
all-once [] state (x ∷ xs) other h k = absurd h
all-once (x ∷ others) state [] other h k = absurd h
all-once (x ∷ others) state (steps ∷ log) [] h k = absurd k
all-once (x ∷ others) state (steps ∷ log) (also ∷ more) h k =
    let first = goes-once x.entry h.1 k.1 in
    let later = all-once others k.0 log more (subst (λ last. AreScheduled others last log) first.1 h.2) k.2 in
    λ i. first.0 i ∷ later i

pub all-run : SchedulesAreRuns → (constructs : List Expected) (state : ℕ) (log : List (List Step)) → All (λ x. IsEntry x.entry) constructs → AreScheduled constructs state log
    → (n : ℕ) → SectionFits constructs log n
all-run law [] state [] are h n = tt
all-run law [] state (steps ∷ log) are h n = absurd h
all-run law (x ∷ others) state [] are h n = absurd h
all-run law (x ∷ others) state (steps ∷ log) are h zero = law x.entry x.guess state h.0 steps (are 0 x (omega arith)) h.1
all-run law (x ∷ others) state (steps ∷ log) are h (suc n) = all-run law others h.0 log (later x others are) h.2 n
  where
    later : (x : Expected) (xs : List Expected) → All (λ x. IsEntry x.entry) (x ∷ xs) → All (λ x. IsEntry x.entry) xs
    later x xs h k d low = h (suc k) d (omega arith)

-- Logs that are joined from the last block down are merged.
use Rattle.std.proofs.Common.{◌≡◌, ◌≢◌, ℕ, zero, suc, ◌<◌, ◌≤◌, List, [], ◌∷◌, ◌++◌, refl, ap, ◌∙◌, subst, arith}
use Rattle.std.proofs.lemmas.List.{append-nil}
use Rattle.spf_ast_lemmas.proofs.Members.{cases}
use Rattle.spf_ast.specs.Event.{Event}
use Rattle.spf_speculation.specs.Steps.{Step, log_of, AreBelow, Merges, steps_of}
use Rattle.spf_speculation.proofs.Within.{alike}
use Rattle.spf_speculation.proofs.Merging.{log-own, log-other}
use Rattle.spf_crew.specs.Joined.{joined_down}

-- the log of a block whose steps come first, and that of another one
own-first : (n : ℕ) (log : List Event) (rest : List Step) → log_of n (steps_of n log ++ rest) ≡ log ++ log_of n rest
own-first n [] rest = refl
own-first n (e ∷ log) rest = log-own n (record { block = n; event = e }) (steps_of n log ++ rest) refl ∙ ap (λ l. e ∷ l) (own-first n log rest)

other-first : (n k : ℕ) (log : List Event) (rest : List Step) → k ≢ n → log_of n (steps_of k log ++ rest) ≡ log_of n rest
other-first n k [] rest ne = refl
other-first n k (e ∷ log) rest ne = log-other n (record { block = k; event = e }) (steps_of k log ++ rest) ne ∙ other-first n k log rest ne

-- no block at or above the count has a step
none-above : (count n : ℕ) (logs : ℕ → List Event) → count ≤ n → log_of n (joined_down count logs) ≡ []
none-above zero n logs h = refl
none-above (suc count) n logs h = other-first n count (logs count) (joined_down count logs) (omega (arith, h)) ∙ none-above count n logs (omega (arith, h))

down-log : (count n : ℕ) (logs : ℕ → List Event) → n < count → log_of n (joined_down count logs) ≡ logs n
down-log zero n logs h = absurd (omega (arith, h))
down-log (suc count) n logs h = cases (alike count n)
    (λ same. subst (λ k. log_of k (joined_down (suc count) logs) ≡ logs k) same
    (own-first count (logs count) (joined_down count logs) ∙ ap (λ l. logs count ++ l) (none-above count count logs (omega arith)) ∙ append-nil (logs count)))
    (λ ne. other-first n count (logs count) (joined_down count logs) ne ∙ down-log count n logs (omega (arith, h, ne)))

below-first : (count n : ℕ) (log : List Event) (rest : List Step) → n < count → AreBelow count rest → AreBelow count (steps_of n log ++ rest)
below-first count n [] rest low h = h
below-first count n (e ∷ log) rest low h = (low, below-first count n log rest low h)

below-more : (count : ℕ) (steps : List Step) → AreBelow count steps → AreBelow (suc count) steps
below-more count [] h = tt
below-more count (s ∷ steps) h = let low = h.0 in (omega (arith, low), below-more count steps h.1)

down-below : (count : ℕ) (logs : ℕ → List Event) → AreBelow count (joined_down count logs)
down-below zero logs = tt
down-below (suc count) logs =
    below-first (suc count) count (logs count) (joined_down count logs) (omega arith) (below-more count (joined_down count logs) (down-below count logs))

pub down-merges : (count : ℕ) (logs : ℕ → List Event) → Merges count logs (joined_down count logs)
down-merges count logs = record { below = down-below count logs; logs_are = λ n low. down-log count n logs low }

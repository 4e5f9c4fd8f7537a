-- Logs that are joined block by block are merged.
use Rattle.std.proofs.Common.{◌≡◌, ◌≢◌, ℕ, zero, suc, ◌<◌, ◌≤◌, List, [], ◌∷◌, ◌++◌, refl, sym, ap, ◌∙◌, subst, arith}
use Rattle.std.proofs.lemmas.List.{append-nil}
use Rattle.spf_ast_lemmas.proofs.Members.{cases}
use Rattle.spf_ast.specs.Event.{Event}
use Rattle.spf_speculation.specs.Steps.{Step, log_of, AreBelow, Merges, steps_of, joined}
use Rattle.spf_speculation.proofs.Within.{alike}
use Rattle.spf_speculation.proofs.Merging.{log-own, log-other}

log-append : (n : ℕ) (one other : List Step) → log_of n (one ++ other) ≡ log_of n one ++ log_of n other
log-append n [] other = refl
log-append n (s ∷ one) other = cases (alike s.block n)
    (λ same. log-own n s (one ++ other) same ∙ ap (λ l. s.event ∷ l) (log-append n one other) ∙ sym (ap (λ l. l ++ log_of n other) (log-own n s one same)))
    (λ ne. log-other n s (one ++ other) ne ∙ log-append n one other ∙ sym (ap (λ l. l ++ log_of n other) (log-other n s one ne)))

own-steps : (n : ℕ) (log : List Event) → log_of n (steps_of n log) ≡ log
own-steps n [] = refl
own-steps n (e ∷ log) = log-own n (record { block = n; event = e }) (steps_of n log) refl ∙ ap (λ l. e ∷ l) (own-steps n log)

other-steps : (n k : ℕ) (log : List Event) → k ≢ n → log_of n (steps_of k log) ≡ []
other-steps n k [] ne = refl
other-steps n k (e ∷ log) ne = log-other n (record { block = k; event = e }) (steps_of k log) ne ∙ other-steps n k log ne

-- no block at or above the count has a step
none-joined : (count n : ℕ) (logs : ℕ → List Event) → count ≤ n → log_of n (joined count logs) ≡ []
none-joined zero n logs h = refl
none-joined (suc count) n logs h =
    log-append n (joined count logs) (steps_of count (logs count))
    ∙ ap (λ l. l ++ log_of n (steps_of count (logs count))) (none-joined count n logs (omega (arith, h)))
    ∙ other-steps n count (logs count) (omega (arith, h))

joined-log : (count n : ℕ) (logs : ℕ → List Event) → n < count → log_of n (joined count logs) ≡ logs n
joined-log zero n logs h = absurd (omega (arith, h))
joined-log (suc count) n logs h = log-append n (joined count logs) (steps_of count (logs count)) ∙ cases (alike n count)
    (λ same. ap (λ l. l ++ log_of n (steps_of count (logs count))) (none-joined count n logs (omega (arith, same)))
    ∙ subst (λ k. log_of k (steps_of count (logs count)) ≡ logs k) (sym same) (own-steps count (logs count)))
    (λ ne. ap (λ l. log_of n (joined count logs) ++ l) (other-steps n count (logs count) (λ e. ne (sym e)))
    ∙ append-nil (log_of n (joined count logs))
    ∙ joined-log count n logs (omega (arith, h, ne)))

below-append : (count : ℕ) (one other : List Step) → AreBelow count one → AreBelow count other → AreBelow count (one ++ other)
below-append count [] other h k = k
below-append count (s ∷ one) other h k = (h.0, below-append count one other h.1 k)

below-steps : (count n : ℕ) (log : List Event) → n < count → AreBelow count (steps_of n log)
below-steps count n [] h = tt
below-steps count n (e ∷ log) h = (h, below-steps count n log h)

below-more : (count : ℕ) (steps : List Step) → AreBelow count steps → AreBelow (suc count) steps
below-more count [] h = tt
below-more count (s ∷ steps) h = let low = h.0 in (omega (arith, low), below-more count steps h.1)

joined-below : (count : ℕ) (logs : ℕ → List Event) → AreBelow count (joined count logs)
joined-below zero logs = tt
joined-below (suc count) logs =
    below-append (suc count) (joined count logs) (steps_of count (logs count))
    (below-more count (joined count logs) (joined-below count logs))
    (below-steps (suc count) count (logs count) (omega arith))

pub joined-merges : (count : ℕ) (logs : ℕ → List Event) → Merges count logs (joined count logs)
joined-merges count logs = record { below = joined-below count logs; logs_are = λ n low. joined-log count n logs low }

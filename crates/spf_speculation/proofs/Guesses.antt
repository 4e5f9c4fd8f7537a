-- Each block is first attempted at its guess.
use Rattle.std.proofs.Common.{◌≡◌, inl, inr, ℕ, zero, suc, ◌+◌, ◌<◌, List, [], ◌∷◌, Some, refl, sym, subst, arith}
use Rattle.std.specs.Prelude.{slice_get, Option, Result}
use Rattle.std.proofs.lemmas.List.{append-nil}
use Rattle.spf_ast.specs.declared.outcome.Trap.{Trap}
use Rattle.spf_ast.specs.Carried.{Carried}
use Rattle.spf_ast.specs.Event.{Event}
use Rattle.spf_ast.specs.Interaction.{Ending, Value, Trapped}
use Rattle.spf_speculation_entry.specs.Entry.{Entry, begins_at}
use Rattle.spf_speculation_entry.specs.Attempts.{IsAttempt}
use Rattle.spf_speculation.specs.Runs.{IsRealLog, at_once, again, LogsComeTo, no_more_blocks, gave_value, gave_trap}
use Rattle.spf_speculation.specs.Laws.{BeginsAtItsGuess}
use Rattle.spf_speculation.proofs.Blocks.{whole-attempt}

one-attempt : (e : Entry) (guess : ℕ → Carried) (real : Option Carried) (n : ℕ) (log : List Event) → IsAttempt e n (begins_at e guess n) 1 log → BeginsAtItsGuess e guess real n log
one-attempt e guess real n log is = record { first = log; rest = []; split = sym (append-nil log); attempt = is; again = inl refl }

of-real : (e : Entry) (guess : ℕ → Carried) (n : ℕ) (v : Carried) (log : List Event) (answer : Ending Carried) → IsRealLog e guess n v log answer → BeginsAtItsGuess e guess (Some v) n log
of-real e guess n v log answer (at_once same w) =
    one-attempt e guess (Some v) n log (subst (λ x. IsAttempt e n x 1 log) (sym same) (whole-attempt e n v 1 log answer w))
of-real e guess n v log answer (again first second is ne one two) =
    record { first = first; rest = second; split = is; attempt = one; again = inr (v, refl, ne) }

-- the block that is d blocks after block n
pub first-at-guess : (e : Entry) (guess : ℕ → Carried) (logs : ℕ → List Event)
    → {n : ℕ} {v : Carried} {values : List Carried} {result : Result Carried Trap} → LogsComeTo e guess logs n v values result
    → (k d : ℕ) → k ≡ n + d → k < e.header.blocks → BeginsAtItsGuess e guess (slice_get values d) k (logs k)
first-at-guess e guess logs {n} (no_more_blocks all) k d at low = absurd (omega (arith, all, at, low))
first-at-guess e guess logs {n} {v} (gave_value next state room real rest) k zero at low =
    let here : n ≡ k = omega (arith, at) in
    subst (λ x. BeginsAtItsGuess e guess (Some v) x (logs x)) here (of-real e guess n v (logs n) (Value next state) real)
first-at-guess e guess logs {n} {v} (gave_value next state room real rest) k (suc d) at low =
    first-at-guess e guess logs rest k d (omega (arith, at)) low
first-at-guess e guess logs {n} {v} (gave_trap trap output room real later) k zero at low =
    let here : n ≡ k = omega (arith, at) in
    subst (λ x. BeginsAtItsGuess e guess (Some v) x (logs x)) here (of-real e guess n v (logs n) (Trapped trap output) real)
first-at-guess e guess logs {n} {v} (gave_trap trap output room real later) k (suc d) at low =
    one-attempt e guess (slice_get (v ∷ []) (suc d)) k (logs k) (later k (omega (arith, at)) low)

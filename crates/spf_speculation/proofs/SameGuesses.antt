-- Speculative runs with the same guesses for their blocks.
use Rattle.std.proofs.Common.{◌≡◌, ℕ, zero, suc, ◌<◌, List, refl, sym, ◌∙◌, subst, arith}
use Rattle.std.specs.Prelude.{Result}
use Rattle.spf_ast.specs.declared.outcome.Trap.{Trap}
use Rattle.spf_ast.specs.Carried.{Carried}
use Rattle.spf_ast.specs.Event.{Event}
use Rattle.spf_ast.specs.Interaction.{Ending, Value, Trapped}
use Rattle.spf_speculation_entry.specs.Entry.{Entry, begins_at}
use Rattle.spf_speculation_entry.specs.Attempts.{IsAttempt}
use Rattle.spf_speculation.specs.Runs.{IsRealLog, at_once, again, LogsComeTo, no_more_blocks, gave_value, gave_trap}

-- these guesses are the same for the blocks after the first
abbrev pub AreTheSameFor : Entry → (ℕ → Carried) → (ℕ → Carried) → Type 0
AreTheSameFor e guess other = (n : ℕ) → 0 < n → n < e.header.blocks → guess n ≡ other n

same-begin : (e : Entry) (guess other : ℕ → Carried) → AreTheSameFor e guess other → (n : ℕ) → n < e.header.blocks → begins_at e guess n ≡ begins_at e other n
same-begin e guess other same zero low = refl
same-begin e guess other same (suc n) low = same (suc n) (omega arith) low

real-log : (e : Entry) (guess other : ℕ → Carried) (n : ℕ) → begins_at e guess n ≡ begins_at e other n → (v : Carried) (log : List Event) (answer : Ending Carried) → IsRealLog e guess n v log answer → IsRealLog e other n v log answer
real-log e guess other n same v log answer (at_once begin whole) = at_once (sym same ∙ begin) whole
real-log e guess other n same v log answer (again first second split wrong one two) =
    again first second split (λ right. wrong (same ∙ right)) (subst (λ x. IsAttempt e n x 1 first) same one) two

pub logs-come : (e : Entry) (guess other : ℕ → Carried) → AreTheSameFor e guess other → (logs : ℕ → List Event)
    → {n : ℕ} {v : Carried} {values : List Carried} {result : Result Carried Trap} → LogsComeTo e guess logs n v values result → LogsComeTo e other logs n v values result
logs-come e guess other same logs (no_more_blocks all) = no_more_blocks all
logs-come e guess other same logs {n} {v} (gave_value next state room real rest) =
    gave_value next state room (real-log e guess other n (same-begin e guess other same n room) v (logs n) (Value next state) real) (logs-come e guess other same logs rest)
logs-come e guess other same logs {n} {v} (gave_trap trap output room real later) =
    gave_trap trap output room (real-log e guess other n (same-begin e guess other same n room) v (logs n) (Trapped trap output) real)
    (λ k above below. subst (λ x. IsAttempt e k x 1 (logs k)) (same-begin e guess other same k below) (later k above below))

-- Speculative runs: each block is first attempted at its guess, and again at its real row where the guess was wrong.
use Rattle.std.specs.Prelude.{◌≡◌, ◌≢◌, ℕ, suc, ◌<◌, List, [], ◌∷◌, ◌++◌, Result, Ok, Err}
use Rattle.spf_ast.specs.declared.outcome.Trap.{Trap}
use Rattle.spf_ast.specs.Carried.{Carried}
use Rattle.spf_ast.specs.Event.{Event, IsConsistent}
use Rattle.spf_ast.specs.Interaction.{State, Ending, Value, Trapped}
use Rattle.spf_speculation_entry.specs.Entry.{Entry, begins_at}
use Rattle.spf_speculation_entry.specs.Attempts.{IsAttempt, IsWhole}
use Rattle.spf_speculation.specs.Steps.{Step, events_of, log_of, AreBelow}

-- The log of block n, whose real row is v, with the answer of the block at v: right away, where its first attempt began
-- at v; otherwise again, where a first attempt from a wrong guess, whole or chopped, was followed by a second one from
-- v, which is whole.
pub data IsRealLog (e : Entry) (guess : ℕ → Carried) (n : ℕ) (v : Carried) (log : List Event) (answer : Ending Carried) : Type 0 where
  at_once : begins_at e guess n ≡ v → IsWhole e n v 1 log answer → IsRealLog e guess n v log answer
  again : (first second : List Event) → log ≡ first ++ second → begins_at e guess n ≢ v
      → IsAttempt e n (begins_at e guess n) 1 first → IsWhole e n v 2 second answer → IsRealLog e guess n v log answer

-- the log of a block that has no real row: one attempt from its guess, whole or chopped
abbrev pub IsGuessedLog : Entry → (ℕ → Carried) → ℕ → List Event → Type 0
IsGuessedLog e guess n log = IsAttempt e n (begins_at e guess n) 1 log

-- The logs of the blocks from block n on, whose real row is v, come to these real rows and this result: the row that
-- each block gives is the real row of the next one, up to the first trap. The blocks after that one have no real row.
pub data LogsComeTo (e : Entry) (guess : ℕ → Carried) (logs : ℕ → List Event) : ℕ → Carried → List Carried → Result Carried Trap → Type 0 where
  no_more_blocks : {n : ℕ} {v : Carried} → n ≡ e.header.blocks → LogsComeTo e guess logs n v [] (Ok v)
  gave_value : {n : ℕ} {v : Carried} {values : List Carried} {result : Result Carried Trap} (next : Carried) (state : State)
      → n < e.header.blocks → IsRealLog e guess n v (logs n) (Value next state)
      → LogsComeTo e guess logs (suc n) next values result
      → LogsComeTo e guess logs n v (v ∷ values) result
  gave_trap : {n : ℕ} {v : Carried} (trap : Trap) (output : List ℕ)
      → n < e.header.blocks → IsRealLog e guess n v (logs n) (Trapped trap output)
      → ((k : ℕ) → n < k → k < e.header.blocks → IsGuessedLog e guess k (logs k))
      → LogsComeTo e guess logs n v (v ∷ []) (Err trap)

-- The steps are a speculative run from this entry with these guesses, and have these real rows and this result: the
-- blocks share one memory, and their logs come to this.
pub record IsSpeculativeRun (e : Entry) (guess : ℕ → Carried) (steps : List Step) (values : List Carried) (result : Result Carried Trap) : Type 0 where
  pub below : AreBelow e.header.blocks steps
  pub consistent : IsConsistent (events_of steps) e.memory
  pub logs : LogsComeTo e guess (λ n. log_of n steps) 0 e.header.start values result

-- A speculative run is its blocks' logs beside one memory.
use Rattle.std.proofs.Common.{◌≡◌, ◌↔◌, inl, inr, ℕ, zero, suc, ◌+◌, ◌-◌, ◌<◌, List, [], ◌∷◌, Option, Some, None, refl, sym, subst, arith}
use Rattle.std.specs.Prelude.{slice_get, Result}
use Rattle.spf_ast.specs.declared.outcome.Trap.{Trap}
use Rattle.spf_ast.specs.Carried.{Carried}
use Rattle.spf_ast.specs.Event.{Event, IsConsistent}
use Rattle.spf_ast.specs.Interaction.{Ending, Value, Trapped}
use Rattle.spf_speculation_entry.specs.Entry.{Entry, IsEntry, own, plain_blocks, begins_at}
use Rattle.spf_speculation.specs.Steps.{Step, log_of}
use Rattle.spf_speculation.specs.Runs.{IsRealLog, at_once, again, IsGuessedLog, LogsComeTo, no_more_blocks, gave_value, gave_trap}
use Rattle.spf_speculation.specs.Laws.{IsBefore, entry_answer, Answered, answered_on, answered}
use Rattle.spf_speculation.proofs.Within.{AreWithin}
use Rattle.spf_speculation.proofs.Merging.{log-consistent}
use Rattle.spf_speculation.proofs.Blocks.{BlockLaws, blocks-apart, attempt-within, real-within, attempt-answers}
use Rattle.spf_speculation.proofs.Answered.{plain-answered}
use Rattle.spf_speculation.proofs.Runs.{run-plain}
use Rattle.spf_replay.specs.Deciding.{IsRun, IsLogAt, HasItsLogs}

-- ---- from a run to its logs

-- the block that is d blocks after block n
logs-at : (e : Entry) (guess : ℕ → Carried) (logs : ℕ → List Event)
    → {n : ℕ} {v : Carried} {values : List Carried} {result : Result Carried Trap} → LogsComeTo e guess logs n v values result
    → (k d : ℕ) → k ≡ n + d → k < e.header.blocks → IsLogAt e guess (slice_get values d) k (logs k)
logs-at e guess logs {n} (no_more_blocks all) k d at low = absurd (omega (arith, all, at, low))
logs-at e guess logs {n} {v} (gave_value next state room real rest) k zero at low =
    let here : n ≡ k = omega (arith, at) in
    subst (λ x. IsLogAt e guess (Some v) x (logs x)) here (Value next state, real)
logs-at e guess logs {n} {v} (gave_value next state room real rest) k (suc d) at low = logs-at e guess logs rest k d (omega (arith, at)) low
logs-at e guess logs {n} {v} (gave_trap trap output room real later) k zero at low =
    let here : n ≡ k = omega (arith, at) in
    subst (λ x. IsLogAt e guess (Some v) x (logs x)) here (Trapped trap output, real)
logs-at e guess logs {n} {v} (gave_trap trap output room real later) k (suc d) at low = later k (omega (arith, at)) low

run-logs : BlockLaws → (e : Entry) (guess : ℕ → Carried) (steps : List Step) → IsEntry e → IsRun e guess steps → HasItsLogs e guess steps
run-logs laws e guess steps h r =
    let values = (run-plain laws e guess steps r.values r.result h r.run).same_values in
    record {
      below = r.run.below;
      consistent = r.run.consistent;
      logs = λ n low. subst (λ vs. IsLogAt e guess (slice_get vs n) n (log_of n steps)) values (logs-at e guess (λ k. log_of k steps) r.run.logs n n (omega arith) low);
    }

-- ---- from logs to the run

before-none : (e : Entry) (n : ℕ) → IsBefore e n []
before-none e zero = refl
before-none e (suc n) = inl refl

-- the answer of a block's log at its real value is that of the block on the entry's memory
answer-is : BlockLaws → (e : Entry) → IsEntry e → (guess : ℕ → Carried) (n : ℕ) (v : Carried) (log : List Event) (answer : Ending Carried)
    → (n ≡ 0 → v ≡ e.header.start) → IsConsistent log e.memory → IsRealLog e guess n v log answer → answer ≡ entry_answer e n v
answer-is laws e h guess n v log answer first is (at_once same w) = attempt-answers laws e n v 1 [] log answer h (before-none e n) w is
answer-is laws e h guess zero v log answer first is (again one two split ne a w) = absurd (ne (sym (first refl)))
answer-is laws e h guess (suc n) v log answer first is (again one two split ne a w) =
    attempt-answers laws e (suc n) v 2 one two answer h (inr (begins_at e guess (suc n), 1, a)) w (subst (λ l. IsConsistent l e.memory) split is)

-- what the logs of the blocks from an index on are, where the blocks come to this
abbrev pub AreLogsFrom : Entry → (ℕ → Carried) → (ℕ → List Event) → ℕ → List Carried → Type 0
AreLogsFrom e guess logs n values = (k d : ℕ) → k ≡ n + d → k < e.header.blocks → IsLogAt e guess (slice_get values d) k (logs k)

-- a block that came to this, and those after it
come-one : (e : Entry) (guess : ℕ → Carried) (logs : ℕ → List Event) (n : ℕ) (v : Carried) (x : Ending Carried) (others : Carried → Answered)
    → n < e.header.blocks → ((answer : Ending Carried) → IsRealLog e guess n v (logs n) answer → answer ≡ x)
    → AreLogsFrom e guess logs n (answered_on v x others).values
    → ((next : Carried) → AreLogsFrom e guess logs (suc n) (others next).values → LogsComeTo e guess logs (suc n) next (others next).values (others next).result)
    → LogsComeTo e guess logs n v (answered_on v x others).values (answered_on v x others).result
come-one e guess logs n v (Value next state) others low is at more =
    let here : IsLogAt e guess (Some v) n (logs n) = at n 0 (omega arith) low in
    gave_value next state low (subst (IsRealLog e guess n v (logs n)) (is here.0 here.1) here.1)
    (more next (λ k d from below. at k (suc d) (omega (arith, from)) below))
come-one e guess logs n v (Trapped trap output) others low is at more =
    let here : IsLogAt e guess (Some v) n (logs n) = at n 0 (omega arith) low in
    gave_trap trap output low (subst (IsRealLog e guess n v (logs n)) (is here.0 here.1) here.1)
    (λ k from below. guessed k (at k (suc (k - suc n)) (omega (arith, from)) below))
  where
    guessed : (k : ℕ) → IsLogAt e guess (slice_get (v ∷ []) (suc (k - suc n))) k (logs k) → IsGuessedLog e guess k (logs k)
    guessed k g = g

come-from : BlockLaws → (e : Entry) → IsEntry e → (guess : ℕ → Carried) (logs : ℕ → List Event)
    → ((k : ℕ) → k < e.header.blocks → IsConsistent (logs k) e.memory)
    → (count n : ℕ) (v : Carried) → n + count ≡ e.header.blocks → (n ≡ 0 → v ≡ e.header.start)
    → AreLogsFrom e guess logs n (answered (entry_answer e) n count v).values
    → LogsComeTo e guess logs n v (answered (entry_answer e) n count v).values (answered (entry_answer e) n count v).result
come-from laws e h guess logs is zero n v size first at = no_more_blocks (omega (arith, size))
come-from laws e h guess logs is (suc count) n v size first at =
    let low : n < e.header.blocks = omega (arith, size) in
    come-one e guess logs n v (entry_answer e n v) (λ next. answered (entry_answer e) (suc n) count next) low
    (λ answer real. answer-is laws e h guess n v (logs n) answer first (is n low) real) at
    (λ next more. come-from laws e h guess logs is count (suc n) next (omega (arith, size)) (λ none. absurd (omega (arith, none))) more)

pub log-within : (e : Entry) → IsEntry e → (guess : ℕ → Carried) (real : Option Carried) (n : ℕ) (log : List Event) → IsLogAt e guess real n log → AreWithin (own e n) log
log-within e h guess (Some v) n log is = real-within e h guess n v log is.0 is.1
log-within e h guess None n log is = attempt-within e h n (begins_at e guess n) 1 log is

logs-run : BlockLaws → (e : Entry) (guess : ℕ → Carried) (steps : List Step) → IsEntry e → HasItsLogs e guess steps → IsRun e guess steps
logs-run laws e guess steps h r =
    let plain = plain-answered laws e h in
    let within : (n : ℕ) → n < e.header.blocks → AreWithin (own e n) (log_of n steps) =
    λ n low. log-within e h guess (slice_get (plain_blocks e).values n) n (log_of n steps) (r.logs n low) in
    record {
      values = (answered (entry_answer e) 0 e.header.blocks e.header.start).values;
      result = (answered (entry_answer e) 0 e.header.blocks e.header.start).result;
      run = record {
        below = r.below;
        consistent = r.consistent;
        logs = come-from laws e h guess (λ n. log_of n steps)
            (λ k low. log-consistent e.header.blocks (own e) (blocks-apart e h) steps e.memory r.below within r.consistent k low)
            e.header.blocks 0 e.header.start (omega arith) (λ none. refl)
            (λ k d at low. let same : k ≡ d = omega (arith, at) in
            subst (λ vs. IsLogAt e guess (slice_get vs d) k (log_of k steps)) plain.0 (subst (λ x. IsLogAt e guess (slice_get (plain_blocks e).values x) k (log_of k steps)) same (r.logs k low)));
      };
    }

pub runs-have-their-logs : BlockLaws → (e : Entry) (guess : ℕ → Carried) (steps : List Step) → IsEntry e → IsRun e guess steps ↔ HasItsLogs e guess steps
runs-have-their-logs laws e guess steps h = (run-logs laws e guess steps h, logs-run laws e guess steps h)

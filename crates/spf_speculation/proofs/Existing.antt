-- Whatever the guesses, there is a speculative run: each attempt is a plain run, without the loads of other blocks' cells.
use Rattle.std.proofs.Common.{◌≡◌, ◌≢◌, ◌⊎◌, inl, inr, ℕ, zero, suc, ◌+◌, ◌<◌, ◌≤◌, Bool, true, false, List, [], ◌∷◌, ◌++◌, Some, ℤ, refl, sym, ◌∙◌, subst, arith, eq-eqb, Contains}
use Rattle.std.specs.Prelude.{slice_set, if◌then◌else◌, ◌==◌, nat_le, Result, Ok, Err}
use Rattle.std.proofs.lemmas.Bool.Decides.{Decides-eqb, Decides-int_eq}
use Rattle.spf_ast_lemmas.proofs.Members.{cases, first-in, later-in}
use Rattle.spf_ast.specs.declared.outcome.Trap.{Trap}
use Rattle.spf_ast.specs.Carried.{Carried, same_carried}
use Rattle.spf_ast.specs.Event.{Event, Load, Store, Turn, word_at, after, IsConsistent}
use Rattle.spf_ast.specs.Interaction.{Interaction, Answer, AskLoad, AskStore, AskTurn, Ended, Stopped, Ending, Value, Trapped, perform, every_cell}
use Rattle.spf_ast.specs.Construct.{part_of}
use Rattle.spf_ast.specs.Plain.{plain_events, plain_answer}
use Rattle.spf_speculation.specs.Steps.{joined}
use Rattle.spf_speculation_entry.proofs.Rows.{Decides-same_carried}
use Rattle.spf_speculation_entry.specs.Entry.{Entry, IsEntry, own, asks_at, begins_at}
use Rattle.spf_speculation_entry.specs.Attempts.{IsAttempt, IsWhole, OthersAreOf, on_cells}
use Rattle.spf_speculation.specs.Runs.{IsRealLog, at_once, again, IsGuessedLog, LogsComeTo, no_more_blocks, gave_value, gave_trap}
use Rattle.spf_speculation.specs.Laws.{HasASpeculativeRun}
use Rattle.spf_speculation.proofs.Within.{alike, true-or-false, outside-after, consistent-both}
use Rattle.spf_speculation.proofs.Trees.{IsOutside, outside-set, chose-true, chose-false}
use Rattle.spf_speculation.proofs.Kept.{kept, on-load, off-load}
use Rattle.spf_speculation.proofs.Joined.{joined-merges}
use Rattle.spf_speculation.proofs.Blocks.{BlockLaws, setup_at, stores-own, whole-attempt, attempt-within}
use Rattle.spf_speculation.proofs.Runs.{merging-runs}

-- ---- plain runs as attempts

not-reached : (a : ℕ) → nat_le (suc a) 0 ≡ false
not-reached a = cases (true-or-false (nat_le (suc a) 0)) (λ t. absurd (grind (arith, t))) (λ f. f)

-- no turn of a plain run stops it
plain-performed : {A : Type 0} (a : ℕ) (t : Interaction A) (m : List ℤ) → perform every_cell [] (Some (suc a)) t (plain_events t m) ≡ Ended (plain_answer t m) []
plain-performed a (Answer x) m = refl
plain-performed a (AskLoad c k) m = rw (eq-eqb c c refl) (plain-performed a (k (word_at m c)) m)
plain-performed a (AskStore c v t) m = rw (eq-eqb c c refl, (Decides-int_eq v v).1 refl) (plain-performed a t (slice_set m c v))
plain-performed a (AskTurn t) m =
    chose-false (nat_le (suc a) 0) (Stopped 0 (plain_events t m)) (perform every_cell [] (Some (suc a)) t (plain_events t m)) (not-reached a) ∙ plain-performed a t m

others-plain : {A : Type 0} (cells : ℕ → Bool) (t : Interaction A) (m n : List ℤ) → IsOutside cells n m → ((d : ℕ) (w : ℤ) → Contains (plain_events t n) (Store d w) → cells d ≡ true) → OthersAreOf m cells (plain_events t n)
others-plain cells (Answer x) m n out h = tt
others-plain cells (AskLoad c k) m n out h =
    (λ other. out c other, others-plain cells (k (word_at n c)) m n out (λ d w i. h d w (later-in (Load c (word_at n c)) (Store d w) (plain_events (k (word_at n c)) n) i)))
others-plain cells (AskStore c v t) m n out h =
    others-plain cells t m (slice_set n c v) (outside-set cells n m c v (h c v (first-in (Store c v) (plain_events t (slice_set n c v)))) out)
    (λ d w i. h d w (later-in (Store c v) (Store d w) (plain_events t (slice_set n c v)) i))
others-plain cells (AskTurn t) m n out h = others-plain cells t m n out (λ d w i. h d w (later-in (Turn 0) (Store d w) (plain_events t n) i))

kept-consistent : (cells : ℕ → Bool) (es : List Event) (m : List ℤ) → IsConsistent es m → IsConsistent (on_cells cells es) m
kept-consistent cells [] m h = tt
kept-consistent cells (Load c w ∷ es) m h = cases (true-or-false (cells c))
    (λ own. subst (λ l. IsConsistent l m) (sym (on-load cells c w es own)) (h.0, kept-consistent cells es m h.1))
    (λ out. subst (λ l. IsConsistent l m) (sym (off-load cells c w es out)) (kept-consistent cells es m h.1))
kept-consistent cells (Store c w ∷ es) m h = kept-consistent cells es (slice_set m c w) h
kept-consistent cells (Turn n ∷ es) m h = kept-consistent cells es m h

-- the log of a plain run of a block on this memory
abbrev plain_log : Entry → ℕ → Carried → List ℤ → List Event
plain_log e n v m = on_cells (own e n) (plain_events (asks_at e n v) m)

plain-whole : BlockLaws → (e : Entry) → IsEntry e → (n : ℕ) (v : Carried) (a : ℕ) (m : List ℤ) → IsOutside (own e n) m e.memory → IsWhole e n v (suc a) (plain_log e n v m) (plain_answer (asks_at e n v) m)
plain-whole laws e h n v a m out =
    kept (own e n) e.memory (Some (suc a)) (asks_at e n v) (plain_events (asks_at e n v) m) (Ended (plain_answer (asks_at e n v) m) []) (plain-performed a (asks_at e n v) m) refl
    (others-plain (own e n) (asks_at e n v) e.memory m out (stores-own laws e h n v m))

plain-consistent : BlockLaws → (e : Entry) (n : ℕ) (v : Carried) (m : List ℤ) → IsConsistent (plain_log e n v m) m
plain-consistent laws e n v m = kept-consistent (own e n) (plain_events (asks_at e n v) m) m (laws.runs e.program e.construct (part_of e.construct n) (setup_at e n v) m).is.consistent

-- ---- single blocks

-- at each row a block has a log as at its real one
record HasARealLog (e : Entry) (guess : ℕ → Carried) (n : ℕ) (v : Carried) : Type 0 where
  log : List Event
  answer : Ending Carried
  real : IsRealLog e guess n v log answer
  consistent : IsConsistent log e.memory

same-or-not : (v w : Carried) → (v ≡ w) ⊎ (v ≢ w)
same-or-not v w =
    cases (true-or-false (same_carried v w)) (λ t. inl ((Decides-same_carried v w).0 t)) (λ f. inr (λ e. wrong (same_carried v w) ((Decides-same_carried v w).1 e) f))
  where
    wrong : (b : Bool) → b ≡ true → b ≡ false → ⊥
    wrong b h k = cc

-- the first attempt, and that it is one
first_log : Entry → (ℕ → Carried) → ℕ → List Event
first_log e guess n = plain_log e n (begins_at e guess n) e.memory

first-whole : BlockLaws → (e : Entry) → IsEntry e → (guess : ℕ → Carried) (n : ℕ) → IsWhole e n (begins_at e guess n) 1 (first_log e guess n) (plain_answer (asks_at e n (begins_at e guess n)) e.memory)
unfolding first_log
first-whole laws e h guess n = plain-whole laws e h n (begins_at e guess n) 0 e.memory (λ c out. refl)

first-attempt : BlockLaws → (e : Entry) → IsEntry e → (guess : ℕ → Carried) (n : ℕ) → IsAttempt e n (begins_at e guess n) 1 (first_log e guess n)
first-attempt laws e h guess n = whole-attempt e n (begins_at e guess n) 1 (first_log e guess n) _ (first-whole laws e h guess n)

first-consistent : BlockLaws → (e : Entry) (guess : ℕ → Carried) (n : ℕ) → IsConsistent (first_log e guess n) e.memory
unfolding first_log
first-consistent laws e guess n = plain-consistent laws e n (begins_at e guess n) e.memory

real-log : BlockLaws → (e : Entry) → IsEntry e → (guess : ℕ → Carried) (n : ℕ) (v : Carried) → HasARealLog e guess n v
real-log laws e h guess n v = cases (same-or-not (begins_at e guess n) v)
    (λ same. record {
      log = first_log e guess n;
      answer = plain_answer (asks_at e n (begins_at e guess n)) e.memory;
      real = at_once same (subst (λ x. IsWhole e n x 1 (first_log e guess n) (plain_answer (asks_at e n (begins_at e guess n)) e.memory)) same (first-whole laws e h guess n));
      consistent = first-consistent laws e guess n;
    })
    (λ ne.
    let left : List ℤ = after (first_log e guess n) e.memory in
    record {
      log = first_log e guess n ++ plain_log e n v left;
      answer = plain_answer (asks_at e n v) left;
      real = again (first_log e guess n) (plain_log e n v left) refl ne (first-attempt laws e h guess n)
          (plain-whole laws e h n v 1 left (λ c out. outside-after (own e n) (first_log e guess n) e.memory c (attempt-within e h n (begins_at e guess n) 1 (first_log e guess n) (first-attempt laws e h guess n)) out));
      consistent = consistent-both (first_log e guess n) (plain_log e n v left) e.memory (first-consistent laws e guess n) (plain-consistent laws e n v left);
    })

-- ---- all blocks

-- logs of the blocks from block n on, and what they come to
record CanCome (e : Entry) (guess : ℕ → Carried) (n : ℕ) (v : Carried) : Type 0 where
  logs : ℕ → List Event
  values : List Carried
  result : Result Carried Trap
  come : LogsComeTo e guess logs n v values result
  consistent : (k : ℕ) → n ≤ k → k < e.header.blocks → IsConsistent (logs k) e.memory

-- the logs with that of one block put in
put-log : ℕ → List Event → (ℕ → List Event) → ℕ → List Event
put-log n log logs k = if k == n then log else logs k

put-here : (n : ℕ) (log : List Event) (logs : ℕ → List Event) → put-log n log logs n ≡ log
unfolding put-log
put-here n log logs = chose-true (n == n) log (logs n) ((Decides-eqb n n).1 refl)

put-else : (n : ℕ) (log : List Event) (logs : ℕ → List Event) (k : ℕ) → k ≢ n → put-log n log logs k ≡ logs k
unfolding put-log
put-else n log logs k ne = cases (true-or-false (k == n)) (λ t. absurd (ne ((Decides-eqb k n).0 t))) (λ f. chose-false (k == n) log (logs k) f)

-- logs that are the same from a block on
come-later : (e : Entry) (guess : ℕ → Carried) (logs others : ℕ → List Event)
    → {n : ℕ} {v : Carried} {values : List Carried} {result : Result Carried Trap} → LogsComeTo e guess logs n v values result → ((k : ℕ) → n ≤ k → logs k ≡ others k) → LogsComeTo e guess others n v values result
come-later e guess logs others (no_more_blocks all) same = no_more_blocks all
come-later e guess logs others {n} {v} (gave_value next state low real rest) same =
    gave_value next state low (subst (λ l. IsRealLog e guess n v l (Value next state)) (same n (omega arith)) real) (come-later e guess logs others rest (λ k from. same k (omega (arith, from))))
come-later e guess logs others {n} {v} (gave_trap trap output low real later) same =
    gave_trap trap output low (subst (λ l. IsRealLog e guess n v l (Trapped trap output)) (same n (omega arith)) real)
    (λ k from below. subst (IsGuessedLog e guess k) (same k (omega (arith, from))) (later k from below))

put-consistent : (e : Entry) (n : ℕ) (log : List Event) (logs : ℕ → List Event) → IsConsistent log e.memory → ((k : ℕ) → suc n ≤ k → k < e.header.blocks → IsConsistent (logs k) e.memory) → (k : ℕ) → n ≤ k → k < e.header.blocks → IsConsistent (put-log n log logs k) e.memory
put-consistent e n log logs h is k from low = cases (alike k n)
    (λ same. subst (λ x. IsConsistent (put-log n log logs x) e.memory) (sym same) (subst (λ l. IsConsistent l e.memory) (sym (put-here n log logs)) h))
    (λ ne. subst (λ l. IsConsistent l e.memory) (sym (put-else n log logs k ne)) (is k (omega (arith, from, ne)) low))

can-come : BlockLaws → (e : Entry) → IsEntry e → (guess : ℕ → Carried) (count n : ℕ) (v : Carried) → n + count ≡ e.header.blocks → CanCome e guess n v
can-come laws e h guess zero n v size = record {
  logs = first_log e guess;
  values = [];
  result = Ok v;
  come = no_more_blocks (omega (arith, size));
  consistent = λ k from low. first-consistent laws e guess k;
}
can-come laws e h guess (suc count) n v size = go s.answer s.real (λ next. can-come laws e h guess count (suc n) next (omega (arith, size)))
  where
    s : HasARealLog e guess n v
    s = real-log laws e h guess n v

    low : n < e.header.blocks
    low = omega (arith, size)

    go : (answer : Ending Carried) → IsRealLog e guess n v s.log answer → ((next : Carried) → CanCome e guess (suc n) next) → CanCome e guess n v
    go (Value next state) real more =
        let r : CanCome e guess (suc n) next = more next in
        let logs : ℕ → List Event = put-log n s.log r.logs in
        record {
          logs = logs;
          values = v ∷ r.values;
          result = r.result;
          come = gave_value next state low (subst (λ l. IsRealLog e guess n v l (Value next state)) (sym (put-here n s.log r.logs)) real)
              (come-later e guess r.logs logs r.come (λ k from. sym (put-else n s.log r.logs k (λ same. omega (arith, from, same)))));
          consistent = put-consistent e n s.log r.logs s.consistent r.consistent;
        }
    go (Trapped trap output) real more =
        let logs : ℕ → List Event = put-log n s.log (first_log e guess) in
        record {
          logs = logs;
          values = v ∷ [];
          result = Err trap;
          come = gave_trap trap output low (subst (λ l. IsRealLog e guess n v l (Trapped trap output)) (sym (put-here n s.log (first_log e guess))) real)
              (λ k from below. subst (IsGuessedLog e guess k) (sym (put-else n s.log (first_log e guess) k (λ same. omega (arith, from, same)))) (first-attempt laws e h guess k));
          consistent = put-consistent e n s.log (first_log e guess) s.consistent (λ k from below. first-consistent laws e guess k);
        }

pub run-exists : BlockLaws → (e : Entry) (guess : ℕ → Carried) → IsEntry e → HasASpeculativeRun e guess
run-exists laws e guess h =
    let c : CanCome e guess 0 e.header.start = can-come laws e h guess e.header.blocks 0 e.header.start (omega arith) in
    record {
      steps = joined e.header.blocks c.logs;
      values = c.values;
      result = c.result;
      run = merging-runs e guess c.logs c.values c.result h c.come (λ n low. c.consistent n (omega arith) low) (joined e.header.blocks c.logs) (joined-merges e.header.blocks c.logs);
    }

-- The outcome of a performance on a memory of its own.
use Rattle.std.proofs.Common.{zero, suc, pos, length, replicate, ◌≡◌, ℕ, Bool, true, false, List, [], ◌∷◌, ◌++◌, None, Result, Ok, Err, ℤ, refl, sym, ap, subst, ◌∙◌, append-nil}
use Rattle.std.specs.Prelude.{if◌then◌else◌, ◌==◌, ◌&&◌, slice_set}
use Rattle.std.specs.Ordering.{int_eq}
use Rattle.spf_ast.specs.Event.{Event, Load, Store, Turn, word_at, after, IsConsistent}
use Rattle.spf_ast.specs.Interaction.{Interaction, Answer, AskLoad, AskStore, AskTurn, Performed, Ended, Stopped, Misfit, perform, every_cell, State, Ending, Value, Trapped}
use Rattle.spf_ast.specs.Plain.{plain_events, plain_answer}
use Rattle.spf_ast.specs.Plain.{plain_memory}
use Rattle.spf_ast.proofs.PlainRuns.{plain_run, only_run}
use Rattle.spf_ast.specs.declared.outcome.Trap.{Trap}
use Rattle.spf_exec_memory.specs.declared.memory.Halt.{Halt}
use Rattle.spf_exec_memory.specs.declared.memory.Halt.TheVariants as h
use Rattle.spf_exec_memory.specs.PlainMemory.{LeadsPlainly, IsPlainOutcome}
use Rattle.spf_exec_memory.specs.Growing.{IsPrefix, output_of, Extends, IsUnfinished}
use Rattle.spf_exec_memory.specs.Performs.{Performs}

came : {A : Type 0} (t : Interaction A) (m n : List ℤ) (es : List Event) (a : A) → LeadsPlainly es m n → perform every_cell [] None t (es ++ []) ≡ Ended a [] → (plain_answer t m ≡ a) × (n ≡ after (plain_events t m) m)
came t m n es a l e =
    let ends : perform every_cell [] None t es ≡ Ended a [] = ap (perform every_cell [] None t) (sym (append-nil es)) ∙ e in
    let same = only_run t m es a (record { ends = ends; consistent = l.consistent; unpolled = l.unpolled }) in
    let both : Ended (plain_answer t m) [] ≡ Ended a [] = sym (plain_run t m).ends ∙ ap (perform every_cell [] None t) (sym same) ∙ ends in
    (cc, l.made ∙ ap (λ fs. after fs m) same)

chose_stop : {A : Type 0} (b : Bool) (r : Performed A) (n : ℕ) (rest : List Event) → (if b then r else Misfit) ≡ Stopped n rest → r ≡ Stopped n rest
chose_stop true r n rest e = e
chose_stop false r n rest e = cc

pub never_stops : {A : Type 0} (t : Interaction A) (es : List Event) (n : ℕ) (rest : List Event) → perform every_cell [] None t es ≡ Stopped n rest → ⊥
never_stops (Answer a) es n rest e = cc
never_stops (AskLoad c k) [] n rest e = cc
never_stops (AskLoad c k) (Load d w ∷ es) n rest e = never_stops (k w) es n rest (chose_stop (c == d) _ n rest e)
never_stops (AskLoad c k) (Store d w ∷ es) n rest e = cc
never_stops (AskLoad c k) (Turn x ∷ es) n rest e = cc
never_stops (AskStore c v t) [] n rest e = cc
never_stops (AskStore c v t) (Load d w ∷ es) n rest e = cc
never_stops (AskStore c v t) (Store d w ∷ es) n rest e = never_stops t es n rest (chose_stop ((c == d) && int_eq v w) _ n rest e)
never_stops (AskStore c v t) (Turn x ∷ es) n rest e = cc
never_stops (AskTurn t) [] n rest e = cc
never_stops (AskTurn t) (Load d w ∷ es) n rest e = cc
never_stops (AskTurn t) (Store d w ∷ es) n rest e = cc
never_stops (AskTurn t) (Turn x ∷ es) n rest e = never_stops t es n rest e

extends_answer : {A : Type 0} (bytes : List ℕ) (t : Interaction (Ending A)) (m : List ℤ) → Extends bytes t → IsPrefix bytes (output_of (plain_answer t m))
extends_answer bytes (Answer e) m x = x
extends_answer bytes (AskLoad c k) m x = extends_answer bytes (k (word_at m c)) m (x (word_at m c))
extends_answer bytes (AskStore c v t) m x = extends_answer bytes t (slice_set m c v) x
extends_answer bytes (AskTurn t) m x = extends_answer bytes t m x

-- what is left in the middle of a form is a prefix of its output
left_output : {A : Type 0} (t : Interaction (Ending A)) (es : List Event) (m : List ℤ) (bytes : List ℕ) → IsConsistent es m → IsUnfinished t es bytes → IsPrefix bytes (output_of (plain_answer t m))
left_output t [] m bytes h u = extends_answer bytes t m u
left_output (Answer e) (x ∷ es) m bytes h u = absurd u
left_output (AskLoad c k) (Load d w ∷ es) m bytes h u =
    let is : w ≡ word_at m c = h.0 ∙ ap (word_at m) (sym u.0) in
    subst (λ x. IsPrefix bytes (output_of (plain_answer (k x) m))) is (left_output (k w) es m bytes h.1 u.1)
left_output (AskLoad c k) (Store d w ∷ es) m bytes h u = absurd u
left_output (AskLoad c k) (Turn n ∷ es) m bytes h u = absurd u
left_output (AskStore c v t) (Load d w ∷ es) m bytes h u = absurd u
left_output (AskStore c v t) (Store d w ∷ es) m bytes h u =
    let same : slice_set m d w ≡ slice_set m c v = λ i. slice_set m (sym u.0 i) (sym u.1 i) in
    subst (λ x. IsPrefix bytes (output_of (plain_answer t x))) same (left_output t es (slice_set m d w) bytes h u.2)
left_output (AskStore c v t) (Turn n ∷ es) m bytes h u = absurd u
left_output (AskTurn t) (Load d w ∷ es) m bytes h u = absurd u
left_output (AskTurn t) (Store d w ∷ es) m bytes h u = absurd u
left_output (AskTurn t) (Turn n ∷ es) m bytes h u = left_output t es m bytes h u

pub plain_outcome : {M A : Type 0} (cells : M → List ℤ) (t : Interaction (Ending A)) (a b : M) (r : Result A Halt) (s : State) (may_lack : Type 0) → Performs (λ es x y. LeadsPlainly es (cells x) (cells y)) (λ m. None) may_lack t a b r s → IsPlainOutcome r t (cells a) (cells b) s
plain_outcome cells t a b (Ok v) s may_lack p = came t (cells a) (cells b) p.events (Value v s) p.led (p.performed tt [])
plain_outcome cells t a b (Err (h.Trapped trap)) s may_lack p = came t (cells a) (cells b) p.events (Trapped trap s.output) p.led (p.performed tt [])
plain_outcome cells t a b (Err (h.Cancelled seen)) s may_lack p = never_stops t (p.events ++ []) seen [] (p.performed tt [])
plain_outcome cells t a b (Err h.NoMemory) s may_lack p = left_output t p.events (cells a) s.output p.led.consistent (p.unfinished tt)
plain_outcome cells t a b (Err h.Broken) s may_lack p = p.lacking

-- what a plain outcome says of a trap
pub trapped_outcome : {A : Type 0} {r : Result A Halt} {trap : Trap} (t : Interaction (Ending A)) (m n : List ℤ) (s : State) → r ≡ Err (h.Trapped trap) → IsPlainOutcome r t m n s → (plain_answer t m ≡ Trapped trap s.output) × (n ≡ plain_memory t m)
trapped_outcome t m n s e p = subst (λ x. IsPlainOutcome x t m n s) e p

-- and of a lack of memory
pub lacking_outcome : {A : Type 0} {r : Result A Halt} (t : Interaction (Ending A)) (m n : List ℤ) (s : State) → r ≡ Err h.NoMemory → IsPlainOutcome r t m n s → IsPrefix s.output (output_of (plain_answer t m))
lacking_outcome t m n s e p = subst (λ x. IsPlainOutcome x t m n s) e p

-- the first of zeros are zeros
pub zeros_prefix : (size : ℕ) (prefix back : List ℤ) → prefix ++ back ≡ replicate size (pos 0) → prefix ≡ replicate (length prefix) (pos 0)
zeros_prefix size [] back e = refl
zeros_prefix zero (x ∷ prefix) back e = cc
zeros_prefix (suc size) (x ∷ prefix) back e =
    let first : x ≡ pos 0 = cc in
    let rest : prefix ++ back ≡ replicate size (pos 0) = cc in
    λ i. first i ∷ zeros_prefix size prefix back rest i

-- Speculative runs from other slots.
use Rattle.std.proofs.Common.{◌≡◌, ℕ, zero, suc, List, [], Some, ℤ, refl, sym, ap, ◌∙◌, subst}
use Rattle.std.specs.Prelude.{Result, length}
use Rattle.spf_ast.specs.declared.outcome.Trap.{Trap}
use Rattle.spf_ast.specs.Carried.{Carried}
use Rattle.spf_ast.specs.Construct.{part_of}
use Rattle.spf_ast.specs.Event.{Event}
use Rattle.spf_ast.specs.Interaction.{State, Ending, Value, Trapped, Performed, Ended, Stopped, Misfit, HasReadAll}
use Rattle.spf_ast.specs.Lawful.{names_at}
use Rattle.spf_ast.specs.Program.{extents_of}
use Rattle.spf_ast_laws.specs.Agreement.{LookAlike, Relation, EndAlike, GoAlike, PartsSeeVisibleSlots}
use Rattle.spf_ast_laws.specs.Keeping.{StandsInMain}
use Rattle.spf_speculation_entry.specs.Entry.{Entry, own, number_of, begins_at}
use Rattle.spf_speculation_entry.specs.Attempts.{attempted, IsAttempt, IsWhole}
use Rattle.spf_speculation.specs.Runs.{IsRealLog, at_once, again, LogsComeTo, no_more_blocks, gave_value, gave_trap}
use Rattle.spf_speculation.specs.Alike.{with_slots, SlotsLookAlike}

-- ---- performances that are alike

-- a whole performance, with its answer
record EndsSo (After : Relation) (answer : Ending Carried) (r : Performed (Ending Carried)) : Type 0 where
  other : Ending Carried
  is : r ≡ Ended other []
  alike : EndAlike After answer other

ends-so : (After : Relation) (answer : Ending Carried) (r : Performed (Ending Carried)) → GoAlike After (Ended answer []) r → EndsSo After answer r
ends-so After answer (Ended other rest) h = record { other = other; is = ap (Ended other) (sym h.1); alike = h.0 }
ends-so After answer (Stopped number rest) h = elim h [ ]
ends-so After answer Misfit h = elim h [ ]

reads-all : (After : Relation) (r s : Performed (Ending Carried)) → GoAlike After r s → HasReadAll r → HasReadAll s
reads-all After (Ended one rest) (Ended other left) h all = sym h.1 ∙ all
reads-all After (Stopped one rest) (Stopped other left) h all = sym h.1 ∙ all
reads-all After (Ended one rest) (Stopped other left) h all = elim h [ ]
reads-all After (Ended one rest) Misfit h all = elim h [ ]
reads-all After (Stopped one rest) (Ended other left) h all = elim h [ ]
reads-all After (Stopped one rest) Misfit h all = elim h [ ]
reads-all After Misfit s h all = elim all [ ]

-- ---- attempts

-- each attempt from other slots goes on alike
abbrev pub AttemptsGoAlike : Entry → List ℤ → Relation → Type 0
AttemptsGoAlike e slots After = (n : ℕ) (v : Carried) (attempt : ℕ) (log : List Event) → GoAlike After (attempted e n v attempt log) (attempted (with_slots e slots) n v attempt log)

pub attempts-go-alike : PartsSeeVisibleSlots → (e : Entry) (slots : List ℤ) (stands : StandsInMain e.program e.construct) → SlotsLookAlike stands.scope.visible e.slots slots → AttemptsGoAlike e slots (LookAlike stands.scope.visible)
attempts-go-alike see e slots stands alike n v attempt log =
    see (names_at e.program (length e.program.functions) e.program.slots) stands.scope stands.line stands.statement e.construct stands.is stands.lawful
    e.input (extents_of e.program (length e.input)) e.program.functions (length e.program.functions) (part_of e.construct n) (number_of e n) v
    (record { slots = e.slots; output = [] }) (record { slots = slots; output = [] }) alike (own e n) e.memory (Some attempt) log

-- ---- logs

attempt-too : (e : Entry) (slots : List ℤ) (After : Relation) → AttemptsGoAlike e slots After → (n : ℕ) (v : Carried) (attempt : ℕ) (log : List Event) → IsAttempt e n v attempt log → IsAttempt (with_slots e slots) n v attempt log
attempt-too e slots After alike n v attempt log is = reads-all After (attempted e n v attempt log) (attempted (with_slots e slots) n v attempt log) (alike n v attempt log) is

whole-too : (e : Entry) (slots : List ℤ) (After : Relation) → AttemptsGoAlike e slots After → (n : ℕ) (v : Carried) (attempt : ℕ) (log : List Event) (answer : Ending Carried) → IsWhole e n v attempt log answer
    → EndsSo After answer (attempted (with_slots e slots) n v attempt log)
whole-too e slots After alike n v attempt log answer is =
    ends-so After answer (attempted (with_slots e slots) n v attempt log)
    (subst (λ r. GoAlike After r (attempted (with_slots e slots) n v attempt log)) is (alike n v attempt log))

same-begin : (e : Entry) (slots : List ℤ) (guess : ℕ → Carried) (n : ℕ) → begins_at (with_slots e slots) guess n ≡ begins_at e guess n
same-begin e slots guess zero = refl
same-begin e slots guess (suc n) = refl

-- the log of a block at its real row, with an answer that is alike
record IsRealLogToo (e : Entry) (guess : ℕ → Carried) (After : Relation) (n : ℕ) (v : Carried) (log : List Event) (answer : Ending Carried) : Type 0 where
  other : Ending Carried
  real : IsRealLog e guess n v log other
  alike : EndAlike After answer other

real-log-too : (e : Entry) (slots : List ℤ) (After : Relation) → AttemptsGoAlike e slots After → (guess : ℕ → Carried) (n : ℕ) (v : Carried) (log : List Event) (answer : Ending Carried)
    → IsRealLog e guess n v log answer → IsRealLogToo (with_slots e slots) guess After n v log answer
real-log-too e slots After alike guess n v log answer (at_once begin whole) =
    let w = whole-too e slots After alike n v 1 log answer whole in
    record { other = w.other; real = at_once (same-begin e slots guess n ∙ begin) w.is; alike = w.alike }
real-log-too e slots After alike guess n v log answer (again first second split wrong one two) =
    let w = whole-too e slots After alike n v 2 second answer two in
    record {
      other = w.other;
      real = again first second split (λ same. wrong (sym (same-begin e slots guess n) ∙ same))
          (subst (λ x. IsAttempt (with_slots e slots) n x 1 first) (sym (same-begin e slots guess n)) (attempt-too e slots After alike n (begins_at e guess n) 1 first one))
          w.is;
      alike = w.alike;
    }

-- a block that gave a row gives it from other slots too
record GivesToo (e : Entry) (guess : ℕ → Carried) (n : ℕ) (v next : Carried) (log : List Event) : Type 0 where
  state : State
  real : IsRealLog e guess n v log (Value next state)

gives-too : (e : Entry) (guess : ℕ → Carried) (After : Relation) (n : ℕ) (v next : Carried) (state : State) (log : List Event) → IsRealLogToo e guess After n v log (Value next state) → GivesToo e guess n v next log
gives-too e guess After n v next state log h = go h.other refl h.alike
  where
    go : (d : Ending Carried) → h.other ≡ d → EndAlike After (Value next state) d → GivesToo e guess n v next log
    go (Value other t) is a = record { state = t; real = subst (IsRealLog e guess n v log) (is ∙ ap (λ x. Value x t) (sym a.0)) h.real }
    go (Trapped t o) is a = elim a [ ]

traps-too : (e : Entry) (guess : ℕ → Carried) (After : Relation) (n : ℕ) (v : Carried) (trap : Trap) (output : List ℕ) (log : List Event) → IsRealLogToo e guess After n v log (Trapped trap output) → IsRealLog e guess n v log (Trapped trap output)
traps-too e guess After n v trap output log h = go h.other refl h.alike
  where
    go : (d : Ending Carried) → h.other ≡ d → EndAlike After (Trapped trap output) d → IsRealLog e guess n v log (Trapped trap output)
    go (Value other t) is a = elim a [ ]
    go (Trapped t o) is a = subst (IsRealLog e guess n v log) (is ∙ (λ i. Trapped (sym a.0 i) (sym a.1 i))) h.real

pub logs-come-too : (e : Entry) (slots : List ℤ) (After : Relation) → AttemptsGoAlike e slots After → (guess : ℕ → Carried) (logs : ℕ → List Event)
    → {n : ℕ} {v : Carried} {values : List Carried} {result : Result Carried Trap} → LogsComeTo e guess logs n v values result → LogsComeTo (with_slots e slots) guess logs n v values result
logs-come-too e slots After alike guess logs (no_more_blocks all) = no_more_blocks all
logs-come-too e slots After alike guess logs {n} {v} (gave_value next state room real rest) =
    let g = gives-too (with_slots e slots) guess After n v next state (logs n) (real-log-too e slots After alike guess n v (logs n) (Value next state) real) in
    gave_value next g.state room g.real (logs-come-too e slots After alike guess logs rest)
logs-come-too e slots After alike guess logs {n} {v} (gave_trap trap output room real later) =
    gave_trap trap output room
    (traps-too (with_slots e slots) guess After n v trap output (logs n) (real-log-too e slots After alike guess n v (logs n) (Trapped trap output) real))
    (λ k above below. subst (λ x. IsAttempt (with_slots e slots) k x 1 (logs k)) (sym (same-begin e slots guess k)) (attempt-too e slots After alike k (begins_at e guess k) 1 (logs k) (later k above below)))

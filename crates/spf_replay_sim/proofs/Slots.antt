-- Schedules from other slots of `main` that agree on those that are visible.
use Rattle.std.proofs.Common.{◌≡◌, ℕ, zero, suc, List, [], ◌∷◌, Some, None, Option, ℤ, refl, sym, ap, ◌∙◌, subst}
use Rattle.std.specs.Prelude.{◌==◌, ◌++◌, nat_le, if◌then◌else◌, true, false, slice_get, length, pos, ◌+ℤ◌, Ok, Err}
use Rattle.spf_ast.specs.Carried.{Carried, same_carried}
use Rattle.spf_ast.specs.Construct.{part_of}
use Rattle.spf_ast.specs.Event.{Event, after}
use Rattle.spf_ast.specs.Interaction.{Interaction, Performed, Ended, Stopped, Misfit, perform, every_cell, Ending, Value, Trapped}
use Rattle.spf_ast.specs.Lawful.{names_at}
use Rattle.spf_ast.specs.Plain.{plain_events, plain_answer, plain_memory}
use Rattle.spf_ast.specs.Program.{environment_of, extents_of}
use Rattle.spf_ast.proofs.PlainRuns.{plain_run, one_plain_run}
use Rattle.spf_ast_laws.specs.Agreement.{LookAlike, Relation, EndAlike, GoAlike, PartsSeeVisibleSlots}
use Rattle.spf_ast_laws.specs.Chained.{Chained, chained, chained_on, block_asks}
use Rattle.spf_ast_laws.specs.Keeping.{StandsInMain}
use Rattle.spf_speculation_entry.specs.Attempts.{on_cells}
use Rattle.spf_speculation_entry.specs.Entry.{Entry, own, number_of, plain_blocks, begins_at}
use Rattle.spf_speculation.specs.Alike.{SlotsLookAlike, with_slots}
use Rattle.spf_speculation.specs.Steps.{Step, log_of, steps_of}
use Rattle.spf_replay.specs.Schedule.{attempt_events, after_piece, piece, Status, Running, Filed, Situation, is_valid, leading, front, is_to_raise, flag_after, rerun, status_after, after_filing, replace_at, arrive, advance, RunsTo, none_running, one_more, beginning, IsScheduled}

-- ---- trees that are performed alike

-- two trees have the same plain run on a memory: the same events, and answers that are alike
record RunAlike {A : Type 0} (After : Relation) (t u : Interaction (Ending A)) (m : List ℤ) : Type 0 where
  events : plain_events t m ≡ plain_events u m
  answers : EndAlike After (plain_answer t m) (plain_answer u m)

run-alike : {A : Type 0} (After : Relation) (t u : Interaction (Ending A)) (m : List ℤ)
    → ((es : List Event) → GoAlike After (perform every_cell [] None t es) (perform every_cell [] None u es)) → RunAlike After t u m
run-alike {A} After t u m alike =
    go (perform every_cell [] None u (plain_events t m)) refl
    (subst (λ r. GoAlike After r (perform every_cell [] None u (plain_events t m))) (plain_run t m).ends (alike (plain_events t m)))
  where
    go : (r : Performed (Ending A)) → perform every_cell [] None u (plain_events t m) ≡ r → GoAlike After (Ended (plain_answer t m) []) r → RunAlike After t u m
    go (Ended e rest) is h =
        let run = plain_run t m in
        let same = (one_plain_run u m).only (plain_events t m) e (record { ends = is ∙ ap (Ended e) (sym h.1); consistent = run.consistent; unpolled = run.unpolled }) in
        record { events = same.0; answers = subst (EndAlike After (plain_answer t m)) same.1 h.0 }
    go (Stopped n rest) is h = elim h [ ]
    go Misfit is h = elim h [ ]

-- the blocks of an entry run alike from other slots
abbrev BlocksRunAlike : Entry → List ℤ → Relation → Type 0
BlocksRunAlike e slots After = (n : ℕ) (b : ℤ) (v : Carried) (m : List ℤ)
    → RunAlike After (block_asks (environment_of e.program e.input) e.construct e.slots n b v) (block_asks (environment_of e.program e.input) e.construct slots n b v) m

blocks-run-alike : PartsSeeVisibleSlots → (e : Entry) (slots : List ℤ) (stands : StandsInMain e.program e.construct) → SlotsLookAlike stands.scope.visible e.slots slots
    → BlocksRunAlike e slots (LookAlike stands.scope.visible)
blocks-run-alike see e slots stands alike n b v m =
    run-alike (LookAlike stands.scope.visible) (block_asks (environment_of e.program e.input) e.construct e.slots n b v) (block_asks (environment_of e.program e.input) e.construct slots n b v) m
    (λ es. see (names_at e.program (length e.program.functions) e.program.slots) stands.scope stands.line stands.statement e.construct stands.is stands.lawful
    e.input (extents_of e.program (length e.input)) e.program.functions (length e.program.functions) (part_of e.construct n) b v
    (record { slots = e.slots; output = [] }) (record { slots = slots; output = [] }) alike every_cell [] None es)

-- ---- the plain run of all blocks

joined-alike : (After : Relation) (v : Carried) (one other : Ending Carried) (m k : List ℤ) (f g : Carried → Chained)
    → EndAlike After one other → m ≡ k → ((next : Carried) → f next ≡ g next) → chained_on v one m f ≡ chained_on v other k g
joined-alike After v (Value a s) (Value b t) m k f g h same rest =
    let later : f a ≡ g b = rest a ∙ ap g h.0 in
    λ i. record { values = v ∷ (later i).values; result = (later i).result; memory = (later i).memory }
joined-alike After v (Trapped t o) (Trapped u p) m k f g h same rest = λ i. record { values = v ∷ []; result = Err (h.0 i); memory = same i }
joined-alike After v (Value a s) (Trapped u p) m k f g h same rest = elim h [ ]
joined-alike After v (Trapped t o) (Value b s) m k f g h same rest = elim h [ ]

chained-alike : (e : Entry) (slots : List ℤ) (After : Relation) → BlocksRunAlike e slots After → (n count : ℕ) (b : ℤ) (v : Carried) (m k : List ℤ) → m ≡ k
    → chained (environment_of e.program e.input) e.construct e.slots n count b v m ≡ chained (environment_of e.program e.input) e.construct slots n count b v k
chained-alike e slots After alike n zero b v m k same = λ i. record { values = []; result = Ok v; memory = same i }
chained-alike e slots After alike n (suc count) b v m k same =
    let g = environment_of e.program e.input in
    let r = alike n b v m in
    let there : plain_memory (block_asks g e.construct e.slots n b v) m ≡ plain_memory (block_asks g e.construct slots n b v) k =
    ap (λ es. after es m) r.events ∙ ap (plain_memory (block_asks g e.construct slots n b v)) same in
    joined-alike After v (plain_answer (block_asks g e.construct e.slots n b v) m) (plain_answer (block_asks g e.construct slots n b v) k)
    (plain_memory (block_asks g e.construct e.slots n b v) m) (plain_memory (block_asks g e.construct slots n b v) k)
    (λ next. chained g e.construct e.slots (suc n) count (b +ℤ pos 1) next (plain_memory (block_asks g e.construct e.slots n b v) m))
    (λ next. chained g e.construct slots (suc n) count (b +ℤ pos 1) next (plain_memory (block_asks g e.construct slots n b v) k))
    (subst (λ x. EndAlike After (plain_answer (block_asks g e.construct e.slots n b v) m) (plain_answer (block_asks g e.construct slots n b v) x)) same r.answers)
    there
    (λ next. chained-alike e slots After alike (suc n) count (b +ℤ pos 1) next _ _ there)

-- ---- what a schedule sees of an entry

-- two entries have the same attempts, and their blocks come to the same
record SameBlocks (e : Entry) (slots : List ℤ) : Type 0 where
  attempts : (n : ℕ) (row : Carried) (so_far : List Event) → attempt_events e n row so_far ≡ attempt_events (with_slots e slots) n row so_far
  plain : plain_blocks e ≡ plain_blocks (with_slots e slots)

same-blocks : (e : Entry) (slots : List ℤ) (After : Relation) → BlocksRunAlike e slots After → SameBlocks e slots
same-blocks e slots After alike = record {
  attempts = λ n row so_far. ap (on_cells (own e n)) (alike n (number_of e n) row (after so_far e.memory)).events;
  plain = chained-alike e slots After alike 0 e.header.blocks e.header.low e.header.start e.memory e.memory refl;
}

-- ---- filing

front-too : (e : Entry) (slots : List ℤ) → SameBlocks e slots → (status : ℕ → Status) → front e status ≡ front (with_slots e slots) status
front-too e slots same status = λ i. leading (λ n. is_valid (slice_get (same.plain i).values n) (status n)) 0 e.header.blocks

rerun-too : (e : Entry) (slots : List ℤ) → SameBlocks e slots → (steps : List Step) (n : ℕ) (real : Option Carried) (status : Status) → rerun e steps n real status ≡ rerun (with_slots e slots) steps n real status
rerun-too e slots same steps n None status = refl
rerun-too e slots same steps n (Some real) (Running attempt row left) = refl
rerun-too e slots same steps n (Some real) (Filed row ended) =
    λ i. if same_carried row real then Filed row ended else Running 2 real (same.attempts n real (log_of n steps) i)

status-too : (e : Entry) (slots : List ℤ) → SameBlocks e slots → (s : Situation) (n : ℕ) → status_after e s n ≡ status_after (with_slots e slots) s n
status-too e slots same s n =
    (λ i. if n == front-too e slots same s.status i then rerun e s.steps n (slice_get (same.plain i).values n) (s.status n) else s.status n)
    ∙ ap (λ r. if n == front (with_slots e slots) s.status then r else s.status n) (rerun-too e slots same s.steps n (slice_get (plain_blocks (with_slots e slots)).values n) (s.status n))

flag-too : (e : Entry) (slots : List ℤ) → SameBlocks e slots → (s : Situation) (n : ℕ) → flag_after e s n ≡ flag_after (with_slots e slots) s n
flag-too e slots same s n =
    let f = front-too e slots same s.status in
    λ i. if is_to_raise (f i) n (slice_get (same.plain i).values (f i)) (s.status n) then 1 else s.flag n

filing-too : (e : Entry) (slots : List ℤ) → SameBlocks e slots → (s : Situation) → after_filing e s ≡ after_filing (with_slots e slots) s
filing-too e slots same s = λ i. record s { status = λ n. status-too e slots same s n i; flag = λ n. flag-too e slots same s n i }

-- ---- schedules

arrive-too : (e : Entry) (slots : List ℤ) → SameBlocks e slots → (n attempt : ℕ) (row : Carried) (rest : Option (List Event)) (s : Situation)
    → arrive e n attempt row rest s ≡ arrive (with_slots e slots) n attempt row rest s
arrive-too e slots same n attempt row None s = filing-too e slots same (record s { status = replace_at n (Filed row true) s.status })
arrive-too e slots same n attempt row (Some rest) s =
    λ i. if nat_le attempt (s.flag n) then filing-too e slots same (record s { status = replace_at n (Filed row false) s.status }) i
    else record s { status = replace_at n (Running attempt row rest) s.status }

advance-too : (e : Entry) (slots : List ℤ) → SameBlocks e slots → (n : ℕ) (status : Status) (s : Situation) → advance e n status s ≡ advance (with_slots e slots) n status s
advance-too e slots same n (Filed row ended) s = refl
advance-too e slots same n (Running attempt row left) s =
    arrive-too e slots same n attempt row (after_piece left) (record s { steps = s.steps ++ steps_of n (piece (s.flag n) left) })

runs-too : (e : Entry) (slots : List ℤ) → SameBlocks e slots → {s : Situation} {steps : List Step} {last : ℕ} → RunsTo e s steps last → RunsTo (with_slots e slots) s steps last
runs-too e slots same (none_running none) = none_running none
runs-too e slots same {s} {steps} {last} (one_more n picked rest) =
    one_more n (record { inside = picked.inside; running = picked.running; before = picked.before })
    (subst (λ x. RunsTo (with_slots e slots) x steps last) (advance-too e slots same n (s.status n) _) (runs-too e slots same rest))

begin-too : (e : Entry) (slots : List ℤ) → SameBlocks e slots → (guess : ℕ → Carried) (state : ℕ) → beginning e guess state ≡ beginning (with_slots e slots) guess state
begin-too e slots same guess state = λ i. record { status = λ n. first n i; flag = λ n. 0; steps = []; state = state }
  where
    first : (n : ℕ) → Running 1 (begins_at e guess n) (attempt_events e n (begins_at e guess n) [])
        ≡ Running 1 (begins_at (with_slots e slots) guess n) (attempt_events (with_slots e slots) n (begins_at (with_slots e slots) guess n) [])
    first zero = ap (Running 1 e.header.start) (same.attempts zero e.header.start [])
    first (suc n) = ap (Running 1 (guess (suc n))) (same.attempts (suc n) (guess (suc n)) [])

pub scheduled-too : PartsSeeVisibleSlots → (e : Entry) (slots : List ℤ) (stands : StandsInMain e.program e.construct) (guess : ℕ → Carried) (state last : ℕ) (steps : List Step)
    → SlotsLookAlike stands.scope.visible e.slots slots → IsScheduled e guess state steps last → IsScheduled (with_slots e slots) guess state steps last
scheduled-too see e slots stands guess state last steps alike runs =
    let same = same-blocks e slots (LookAlike stands.scope.visible) (blocks-run-alike see e slots stands alike) in
    subst (λ s. RunsTo (with_slots e slots) s steps last) (begin-too e slots same guess state) (runs-too e slots same runs)

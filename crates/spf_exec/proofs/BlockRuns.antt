-- Block runs and guesses, from performances on memories that emit nothing.
use Rattle.std.proofs.Common.{◌≡◌, ℕ, List, [], ◌∷◌, ◌++◌, length, Option, Some, None, Result, Ok, Err, ℤ, refl, sym, ap, subst, ◌∙◌, append-nil}
use Rattle.std.proofs.lemmas.Bool.Decides.{Decides-eqb}
use Rattle.std.specs.Prelude.{◌==◌, ◌&&◌, slice_get}
use Rattle.std.specs.Ordering.{int_eq}
use Rattle.spf_ast.specs.Event.{Event, Load, Store, Turn, word_at}
use Rattle.spf_ast.specs.Interaction.{Interaction, Answer, AskLoad, AskStore, AskTurn, Performed, Ended, Stopped, Misfit, perform, every_cell, State, Ending, Value, Trapped, result_of, Meaning}
use Rattle.spf_ast.specs.declared.syntax.Part.{Part}
use Rattle.spf_ast.specs.Carried.{Carried}
use Rattle.spf_ast.specs.Syntax.{Program, By, Host}
use Rattle.spf_ast.specs.Syntax as syntax
use Rattle.spf_ast.specs.Meaning.{Environment, sets}
use Rattle.spf_ast.specs.Program.{environment_of, extents_of}
use Rattle.spf_ast.specs.Construct.{Construct, fold, pair, part_means, guess_at, guess_part_means}
use Rattle.spf_ast.specs.BlockRun.{block_setup, part_asks, guess_asks}
use Rattle.spf_ast.specs.Plain.{plain_memory, unshared_answer}
use Rattle.spf_ast.specs.Silence.{PartIsSilent, FunctionsAreSilent, with_output, LeavesOutput}
use Rattle.spf_ast.proofs.Leaving.{CallsLeave, leaves-then, expression-leaves, calls-leave, part-leaves}
use Rattle.spf_ast.proofs.Performing.{perform-bind, carry}
use Rattle.spf_ast.proofs.PlainRuns.{chosen}
use Rattle.spf_exec_memory.specs.declared.memory.Halt.{Halt}
use Rattle.spf_exec_memory.specs.declared.memory.Halt.TheVariants as h
use Rattle.spf_exec.specs.declared.pieces.Header as code_header
use Rattle.spf_exec.specs.Pieces.{header_result}
use Rattle.spf_exec_memory.specs.Performs.{Performs, performed_as, IsDecided, LackIsAllowed, LacksMemory}
use Rattle.spf_exec_memory.specs.QuietMemory.{LeadsQuietly}
use Rattle.spf_exec_memory.specs.ReadMemory.{LeadsUnstored, IsReadOf}
use Rattle.spf_exec.specs.BlockRuns.{PerformsOver}
use Rattle.spf_exec_memory.specs.PlainMemory.{LeadsPlainly, IsPlainOutcome}
use Rattle.spf_exec_memory.proofs.Outcome.{never_stops, plain_outcome}

-- the slots at an end
abbrev slots_at : {A : Type 0} → Performed (Ending A) → List ℤ
slots_at (Ended (Value v s) es) = s.slots
slots_at (Ended (Trapped t o) es) = []
slots_at (Stopped n es) = []
slots_at Misfit = []

-- the same with any other output
same_output : {A : Type 0} (x : Performed (Ending A)) (full out : List ℕ) (own : List ℤ) (r : Result A Halt) → IsDecided r → (rest : List Event)
    → carry x (λ e es. Ended (with_output full e) es) ≡ performed_as r (record { slots = own; output = full }) rest
    → carry x (λ e es. Ended (with_output out e) es) ≡ performed_as r (record { slots = own; output = out }) rest
same_output (Ended (Value v s) es) full out own (Ok w) d rest p = let e : s.slots ≡ own = ap slots_at p in cc
same_output (Ended (Trapped t o) es) full out own (Ok w) d rest p = cc
same_output (Stopped n es) full out own (Ok w) d rest p = cc
same_output Misfit full out own (Ok w) d rest p = cc
same_output (Ended (Value v s) es) full out own (Err (h.Trapped u)) d rest p = cc
same_output (Ended (Trapped t o) es) full out own (Err (h.Trapped u)) d rest p = cc
same_output (Stopped n es) full out own (Err (h.Trapped u)) d rest p = cc
same_output Misfit full out own (Err (h.Trapped u)) d rest p = cc
same_output (Ended (Value v s) es) full out own (Err (h.Cancelled m)) d rest p = cc
same_output (Ended (Trapped t o) es) full out own (Err (h.Cancelled m)) d rest p = cc
same_output (Stopped n es) full out own (Err (h.Cancelled m)) d rest p = cc
same_output Misfit full out own (Err (h.Cancelled m)) d rest p = cc
same_output x full out own (Err h.NoMemory) d rest p = absurd d
same_output (Ended (Value v s) es) full out own (Err h.Broken) d rest p = cc
same_output (Ended (Trapped t o) es) full out own (Err h.Broken) d rest p = cc
same_output (Stopped n es) full out own (Err h.Broken) d rest p = cc
same_output Misfit full out own (Err h.Broken) d rest p = refl

-- a memory that never lacks memory
never_lacks : {A : Type 0} (r : Result A Halt) → LackIsAllowed ⊥ r → LacksMemory r → ⊥
never_lacks (Ok v) allowed u = u
never_lacks (Err (h.Trapped t)) allowed u = u
never_lacks (Err (h.Cancelled n)) allowed u = u
never_lacks (Err h.NoMemory) allowed u = allowed
never_lacks (Err h.Broken) allowed u = u

-- a form that leaves the output alone, performed with one output, is performed with any other
with_any_output : {M A : Type 0} {leads : List Event → M → M → Type 0} {stop : M → Option ℕ} (form : Meaning A) → LeavesOutput form → (slots : List ℤ) (full out : List ℕ) {own : List ℤ} {a b : M} {r : Result A Halt}
    → Performs leads stop ⊥ (form (record { slots = slots; output = full })) a b r (record { slots = own; output = full })
    → Performs leads stop ⊥ (form (record { slots = slots; output = out })) a b r (record { slots = own; output = out })
with_any_output {stop = stop} form l slots full out {own = own} {a = a} {r = r} p = record {
  events = p.events;
  led = p.led;
  lacking = p.lacking;
  performed = λ d rest.
      let es = p.events ++ rest in
      let silent = form (record { slots = slots; output = [] }) in
      let x = perform every_cell [] (stop a) silent es in
      let all : carry x (λ e es. Ended (with_output full e) es) ≡ performed_as r (record { slots = own; output = full }) rest =
      sym (perform-bind every_cell [] (stop a) silent (λ e. Answer (with_output full e)) es) ∙ ap (λ t. perform every_cell [] (stop a) t es) (sym (l.same slots full)) ∙ p.performed d rest in
      ap (λ t. perform every_cell [] (stop a) t es) (l.same slots out)
      ∙ perform-bind every_cell [] (stop a) silent (λ e. Answer (with_output out e)) es
      ∙ same_output x full out own r d rest all;
  unfinished = λ u. absurd (never_lacks r p.lacking u);
}

-- what a memory does that emits nothing, the memory does that is lent to it
unquiet : {S M N A : Type 0} {leads : List Event → M → M → Type 0} {stop : M → Option ℕ} {output : M → List ℕ} {lent : S → M} {fixed : S → N} {may_lack : Type 0} {t : Interaction (Ending A)} {a b : S} {r : Result A Halt} {s : State}
    → Performs (LeadsQuietly leads output lent fixed) (λ m. stop (lent m)) may_lack t a b r s → Performs leads stop may_lack t (lent a) (lent b) r s
unquiet p = record { events = p.events; led = p.led.led; lacking = p.lacking; performed = p.performed; unfinished = p.unfinished }

-- a part that holds no `emit` leaves the output alone
part_leaves : (p : Program) (input : List ℕ) (c : Construct) (part : Part) (n : ℤ) (v : Carried) → PartIsSilent c part → FunctionsAreSilent p.functions → LeavesOutput (part_means (environment_of p input) c part n v)
part_leaves p input c part n v silent functions =
    part-leaves (environment_of p input) (calls-leave input (extents_of p (length input)) p.functions functions (length p.functions)) c part silent n v

-- a part that emits nothing, performed with any output, is a block run
pub quiet_run : {S M N : Type 0} {leads : List Event → M → M → Type 0} {stop : M → Option ℕ} {output : M → List ℕ} {lent : S → M} {fixed : S → N} (p : Program) (input : List ℕ) (c : Construct) (part : Part) (slots own : List ℤ) (full : List ℕ) (n : ℤ) (v : Carried) {a b : S} {r : Result Carried Halt}
    → PartIsSilent c part → FunctionsAreSilent p.functions
    → Performs (LeadsQuietly leads output lent fixed) (λ m. stop (lent m)) ⊥ (part_means (environment_of p input) c part n v (record { slots = slots; output = full })) a b r (record { slots = own; output = full })
    → PerformsOver leads stop ⊥ (part_asks p c part (block_setup input slots n v)) (lent a) (lent b) r []
quiet_run p input c part slots own full n v silent functions q = record {
  slots = own;
  performs = unquiet (with_any_output (part_means (environment_of p input) c part n v) (part_leaves p input c part n v silent functions) slots full [] q);
}

-- on a memory of its own such a form has its plain outcome, whatever the output is
pub quiet_outcome : {S M N A : Type 0} (cells : M → List ℤ) (output : M → List ℕ) (lent : S → M) (fixed : S → N) (form : Meaning A) → LeavesOutput form → (slots : List ℤ) (full out : List ℕ) (own : List ℤ) (a b : S) (r : Result A Halt)
    → Performs (LeadsQuietly (λ es x y. LeadsPlainly es (cells x) (cells y)) output lent fixed) (λ m. None) ⊥ (form (record { slots = slots; output = full })) a b r (record { slots = own; output = full })
    → IsPlainOutcome r (form (record { slots = slots; output = out })) (cells (lent a)) (cells (lent b)) (record { slots = own; output = out })
quiet_outcome cells output lent fixed form l slots full out own a b r p =
    plain_outcome cells (form (record { slots = slots; output = out })) (lent a) (lent b) r (record { slots = own; output = out }) ⊥
    (unquiet (with_any_output form l slots full out p))

-- the cells at a plain outcome
pub plain_cells : {A : Type 0} (r : Result A Halt) (t : Interaction (Ending A)) (m n : List ℤ) (s : State) → IsDecided r → IsPlainOutcome r t m n s → n ≡ plain_memory t m
plain_cells (Ok v) t m n s d p = p.1
plain_cells (Err (h.Trapped trap)) t m n s d p = p.1
plain_cells (Err (h.Cancelled seen)) t m n s d p = absurd p
plain_cells (Err h.NoMemory) t m n s d p = absurd d
plain_cells (Err h.Broken) t m n s d p = absurd p

-- a header that can't lack memory is decided
pub header_decided : (r : Result code_header.Header Halt) → LackIsAllowed ⊥ (header_result r) → IsDecided (header_result r)
header_decided (Ok v) l = tt
header_decided (Err (h.Trapped trap)) l = tt
header_decided (Err (h.Cancelled seen)) l = tt
header_decided (Err h.NoMemory) l = l
header_decided (Err h.Broken) l = absurd l

-- ---- guesses

-- a performance over cells that are only read gives the answer with no shared cell
unshared : {A : Type 0} (t : Interaction A) (m : List ℤ) (es : List Event) (a : A) → IsReadOf m es → perform every_cell [] None t es ≡ Ended a [] → a ≡ unshared_answer t m
unshared (Answer b) m [] a r e = cc
unshared (Answer b) m (f ∷ es) a r e = cc
unshared (AskLoad c k) m [] a r e = cc
unshared (AskLoad c k) m (Load d w ∷ es) a r e =
    let found = chosen (c == d) (perform every_cell [] None (k w) es) a [] e in
    let word : w ≡ word_at m c = r.0 ∙ ap (word_at m) (sym ((Decides-eqb c d).0 found.0)) in
    unshared (k w) m es a r.1 found.1 ∙ ap (λ x. unshared_answer (k x) m) word
unshared (AskLoad c k) m (Store d w ∷ es) a r e = cc
unshared (AskLoad c k) m (Turn n ∷ es) a r e = cc
unshared (AskStore c v t) m [] a r e = cc
unshared (AskStore c v t) m (Load d w ∷ es) a r e = cc
unshared (AskStore c v t) m (Store d w ∷ es) a r e = unshared t m es a r (chosen ((c == d) && int_eq v w) _ a [] e).1
unshared (AskStore c v t) m (Turn n ∷ es) a r e = cc
unshared (AskTurn t) m [] a r e = cc
unshared (AskTurn t) m (Load d w ∷ es) a r e = cc
unshared (AskTurn t) m (Store d w ∷ es) a r e = cc
unshared (AskTurn t) m (Turn n ∷ es) a r e = unshared t m es a r e

-- what a performance over cells that are only read came to
abbrev pub IsUnshared : Result ℤ Halt → Interaction (Ending ℤ) → List ℤ → Type 0
IsUnshared (Ok v) t m = Ok v ≡ result_of (unshared_answer t m)
IsUnshared (Err (h.Trapped trap)) t m = Err trap ≡ result_of (unshared_answer t m)
IsUnshared (Err (h.Cancelled seen)) t m = ⊥
IsUnshared (Err h.NoMemory) t m = ⊥
IsUnshared (Err h.Broken) t m = ⊥

read_answer : {S : Type 0} (cells : S → List ℤ) (t : Interaction (Ending ℤ)) (a b : S) (e : Ending ℤ) (es : List Event) → LeadsUnstored es (cells a) (cells b) → perform every_cell [] None t (es ++ []) ≡ Ended e [] → e ≡ unshared_answer t (cells a)
read_answer cells t a b e es l q = unshared t (cells a) es e l.read (ap (perform every_cell [] None t) (sym (append-nil es)) ∙ q)

came : {S : Type 0} (cells : S → List ℤ) (t : Interaction (Ending ℤ)) (a b : S) (r : Result ℤ Halt) (s : State)
    → Performs (λ es x y. LeadsUnstored es (cells x) (cells y)) (λ m. None) ⊥ t a b r s → IsUnshared r t (cells a)
came cells t a b (Ok v) s p = ap result_of (read_answer cells t a b (Value v s) p.events p.led (p.performed tt []))
came cells t a b (Err (h.Trapped trap)) s p = ap result_of (read_answer cells t a b (Trapped trap s.output) p.events p.led (p.performed tt []))
came cells t a b (Err (h.Cancelled seen)) s p = never_stops t (p.events ++ []) seen [] (p.performed tt [])
came cells t a b (Err h.NoMemory) s p = p.lacking
came cells t a b (Err h.Broken) s p = p.lacking

-- a guess emits nothing
guess_at_leaves : (g : Environment) → CallsLeave g → (line : ℕ) (o : Option syntax.Predictor) → LeavesOutput (guess_at g line o)
guess_at_leaves g calls line None = record { same = λ slots output. refl }
guess_at_leaves g calls line (Some (By guess)) = expression-leaves g calls line guess
guess_at_leaves g calls line (Some (Host number)) = record { same = λ slots output. refl }

guess_leaves : (p : Program) (input : List ℕ) (c : Construct) (index : ℕ) (number : ℤ) → FunctionsAreSilent p.functions → LeavesOutput (guess_part_means (environment_of p input) c index number)
guess_leaves p input (fold line head body) index number functions =
    leaves-then {first = sets head.block number} {next = λ u. guess_at (environment_of p input) line (slice_get head.predict index)} (record { same = λ slots output. refl })
    (λ u. guess_at_leaves (environment_of p input) (calls-leave input (extents_of p (length input)) p.functions functions (length p.functions)) line (slice_get head.predict index))
guess_leaves p input (pair line head producer consumer) index number functions =
    guess_at_leaves (environment_of p input) (calls-leave input (extents_of p (length input)) p.functions functions (length p.functions)) line (slice_get head.predict index)

-- a guess, performed over cells that are only read with any output
pub guess_answer : {S : Type 0} (cells : S → List ℤ) (p : Program) (input : List ℕ) (c : Construct) (slots own : List ℤ) (full : List ℕ) (n : ℤ) (index : ℕ) (a b : S) (r d : Result ℤ Halt) → r ≡ d
    → FunctionsAreSilent p.functions
    → Performs (λ es x y. LeadsUnstored es (cells x) (cells y)) (λ m. None) ⊥ (guess_part_means (environment_of p input) c index n (record { slots = slots; output = full })) a b r (record { slots = own; output = full })
    → IsUnshared d (guess_asks p c index input slots n) (cells a)
guess_answer cells p input c slots own full n index a b r d e functions q =
    came cells _ a b d _ (subst (λ x. Performs (λ es y z. LeadsUnstored es (cells y) (cells z)) (λ m. None) ⊥ (guess_asks p c index input slots n) a b x (record { slots = own; output = [] })) e
    (with_any_output (guess_part_means (environment_of p input) c index n) (guess_leaves p input c index n functions) slots full [] q))

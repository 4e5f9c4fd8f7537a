-- A run in pieces goes on as the plain run does.
use Rattle.std.proofs.Common.{◌≡◌, ℕ, true, false, List, [], length, ℤ, refl, sym, ap, ◌∙◌, subst, arith}
use Rattle.std.specs.List.{Contains}
use Rattle.spf_ast.specs.declared.outcome.Trap.{Trap}
use Rattle.spf_ast.specs.Interaction.{State, Ending, Value, Trapped, Meaning}
use Rattle.spf_ast.specs.Syntax.{Program, Block, end}
use Rattle.spf_ast.specs.Meaning.{main_means}
use Rattle.spf_ast.specs.Plain.{plain_answer, plain_memory}
use Rattle.spf_ast.specs.Program.{environment_of, extents_of, start_of, zeros_of, outcome_from, Done, Stopped}
use Rattle.spf_ast.specs.Construct.{Moment, constructs_in, reached_from}
use Rattle.spf_ast.specs.Pieces.{before_construct, from_construct, rest_from}
use Rattle.spf_ast.specs.Lawful.{Scope, names_at, nothing_declared, IsLawful, IsLawfulBlock, scope_at_end}
use Rattle.spf_exec.specs.Pieces.{RunState, IsInitial, RunsTo, TrapsIn, moment_of, ahead}
use Rattle.spf_ast_laws.specs.Agreement.{Relation, LookAlike, EndAlike, MainSeesVisibleSlots, HeadersSeeVisibleSlots}
use Rattle.spf_ast_laws.specs.Chained.{ConstructsAreTheirBlocks, HeadersTrap}
use Rattle.spf_ast_laws.specs.Keeping.{ConstructsAreSelfContained}
use Rattle.spf_ast_laws.proofs.Plainly.{Comes}
use Rattle.spf_speculation.specs.Alike.{RunsSeeVisibleSlots}
use Rattle.spf_guess_statistics.specs.Guess.{Hosts}
use Rattle.spf_engine_laws.specs.Progress.{IsAt, Progress, no_progress, IsCompletedBy, GoesOn, HasCome}
use Rattle.spf_engine_laws.proofs.Tallies.{whole-of-it, completes-all}
use Rattle.spf_engine_laws.proofs.Performing.{Sees, form-ends-alike}
use Rattle.spf_engine_laws.proofs.Places.{goes-to, whole-again}
use Rattle.spf_engine_laws.proofs.Fronts.{front-goes, front-traps, front-constructs, split-lawfully, declared-at-end, outside-at-end}

-- ---- the laws that are used

pub record Laws : Type 0 where
  pub main_sees : MainSeesVisibleSlots
  pub headers_see : HeadersSeeVisibleSlots
  pub blocks : ConstructsAreTheirBlocks
  pub headers : HeadersTrap
  pub contained : ConstructsAreSelfContained
  pub slots : RunsSeeVisibleSlots

-- ---- forms from two states

-- from a moment that looks alike, a form ends with the same value, in a state that looks alike
pub record Follows {A : Type 0} (After : Relation) (form : Meaning A) (m : Moment) (a : A) (other : State) (y : List ℤ) : Type 0 where
  pub state : State
  pub comes : Comes form m.state m.memory (Value a state) y
  pub alike : After state other

pub follows : {A : Type 0} {Before After : Relation} {form : Meaning A} → Sees Before After form → (m : Moment) (s : State) (cells : List ℤ) → Before m.state s → m.memory ≡ cells
    → (a : A) (after : State) → plain_answer (form s) cells ≡ Value a after → Follows After form m a after (plain_memory (form s) cells)
follows {A} {Before} {After} {form} sees m s cells h same a after e =
    go (plain_answer (form m.state) m.memory) refl
    (subst (EndAlike After (plain_answer (form m.state) m.memory)) (ap (plain_answer (form s)) same ∙ e) (form-ends-alike sees m.state s h m.memory).answers)
  where
    memory : plain_memory (form m.state) m.memory ≡ plain_memory (form s) cells
    memory = (form-ends-alike sees m.state s h m.memory).memories ∙ ap (plain_memory (form s)) same

    go : (d : Ending A) → plain_answer (form m.state) m.memory ≡ d → EndAlike After d (Value a after) → Follows After form m a after (plain_memory (form s) cells)
    go (Value b t) p k = record { state = t; comes = record { answer = p ∙ ap (λ x. Value x t) k.0; memory = memory }; alike = k.1 }
    go (Trapped u o) p k = elim k [ ]

-- or to the same trap
pub follows-trap : {A : Type 0} {Before After : Relation} {form : Meaning A} → Sees Before After form → (m : Moment) (s : State) (cells : List ℤ) → Before m.state s → m.memory ≡ cells
    → (t : Trap) (o : List ℕ) → plain_answer (form s) cells ≡ Trapped t o → Comes form m.state m.memory (Trapped t o) (plain_memory (form s) cells)
follows-trap {A} {Before} {After} {form} sees m s cells h same t o e =
    go (plain_answer (form m.state) m.memory) refl
    (subst (EndAlike After (plain_answer (form m.state) m.memory)) (ap (plain_answer (form s)) same ∙ e) (form-ends-alike sees m.state s h m.memory).answers)
  where
    memory : plain_memory (form m.state) m.memory ≡ plain_memory (form s) cells
    memory = (form-ends-alike sees m.state s h m.memory).memories ∙ ap (plain_memory (form s)) same

    go : (d : Ending A) → plain_answer (form m.state) m.memory ≡ d → EndAlike After d (Trapped t o) → Comes form m.state m.memory (Trapped t o) (plain_memory (form s) cells)
    go (Value b q) p k = elim k [ ]
    go (Trapped u q) p k = record { answer = p ∙ ap (λ x. Trapped x q) k.0 ∙ ap (Trapped t) k.1; memory = memory }

-- ---- outcomes

-- the outcome of an ending
pub outcome-of : {form : Meaning (Unit {0})} {s : State} {m x : List ℤ} {e : Ending (Unit {0})} → Comes form s m e x → outcome_from (plain_answer (form s) m) (plain_memory (form s) m) ≡ outcome_from e x
outcome-of {form} {s} {m} {x} {e} c = ap (λ d. outcome_from d (plain_memory (form s) m)) c.answer ∙ ap (outcome_from e) c.memory

-- ---- where a run begins

nothing-visible : (slot : ℕ) → Contains nothing_declared.visible slot → ⊥
nothing-visible slot c = let wrong = c.1 in omega (arith, wrong)

pub begins : (hosts : Hosts) (p : Program) (input : List ℕ) (s : RunState) → IsLawful p → IsInitial p (length input) s → GoesOn hosts p input s no_progress
begins hosts p input s l b =
    let all : ahead p s ≡ p.main = ap (λ place. rest_from place p.main) b.place in
    let g = environment_of p input in
    let m : Moment = record { state = start_of p; memory = zeros_of p (length input) } in
    record {
      scope = nothing_declared;
      moment = m;
      there = record { before = end; parts = all; state = refl; memory = refl };
      lawful = subst (IsLawfulBlock (names_at p (length p.functions) p.slots) true nothing_declared) (sym all) l.scoped.main;
      declared = λ slot c. absurd (nothing-visible slot c);
      outside = refl;
      alike = record { agree = record { slots = λ slot c. absurd (nothing-visible slot c); output = sym b.output }; slot_count = ap length (sym b.slots) };
      memory = sym b.cells;
      outcome_is = ap (λ rest. outcome_from (plain_answer (main_means g rest m.state) m.memory) (plain_memory (main_means g rest m.state) m.memory)) all;
      completes = subst (λ rest. IsCompletedBy hosts p input (constructs_in rest) (reached_from g rest m) no_progress) (sym all) (completes-all hosts p input);
    }

-- ---- the end of a run

-- no statement is left
pub finishes : (hosts : Hosts) (p : Program) (input : List ℕ) (s : RunState) (progress : Progress) → GoesOn hosts p input s progress → ahead p s ≡ end → HasCome hosts p input (Done s.cells s.output) progress
finishes hosts p input s progress h none_left =
    let g = environment_of p input in
    record {
      outcome_is = (λ i. Done (sym h.memory i) (sym h.alike.agree.output i))
          ∙ ap (λ rest. outcome_from (plain_answer (main_means g rest h.moment.state) h.moment.memory) (plain_memory (main_means g rest h.moment.state) h.moment.memory)) (sym none_left)
          ∙ h.outcome_is;
      whole = whole-of-it hosts p input [] [] progress refl (subst (λ rest. IsCompletedBy hosts p input (constructs_in rest) (reached_from g rest h.moment) progress) none_left h.completes);
    }

-- what is left traps and reaches no construct
pub traps-here : (hosts : Hosts) (p : Program) (input : List ℕ) (s : RunState) (progress : Progress) (h : GoesOn hosts p input s progress) (t : Trap) (o : List ℕ) (x : List ℤ)
    → Comes (main_means (environment_of p input) (ahead p s)) h.moment.state h.moment.memory (Trapped t o) x → reached_from (environment_of p input) (ahead p s) h.moment ≡ []
    → HasCome hosts p input (Stopped t o) progress
traps-here hosts p input s progress h t o x c r =
    let g = environment_of p input in
    record {
      outcome_is = sym (outcome-of {form = main_means g (ahead p s)} c) ∙ h.outcome_is;
      whole = whole-of-it hosts p input (constructs_in (ahead p s)) (reached_from g (ahead p s) h.moment) progress r h.completes;
    }

-- ---- statements before a construct

-- all forms of `main` see visible slots alone
main-follows : Laws → (p : Program) (input : List ℕ) (scope : Scope) (b : Block) → IsLawfulBlock (names_at p (length p.functions) p.slots) true scope b → scope.in_loop ≡ false → Sees (LookAlike scope.visible) (LookAlike (scope_at_end scope b).visible) (main_means (environment_of p input) b)
main-follows laws p input scope b l outside =
    record { relates = laws.main_sees (names_at p (length p.functions) p.slots) scope b l outside input (extents_of p (length input)) p.functions (length p.functions) }

-- the run went over them
pub advances : Laws → (hosts : Hosts) (p : Program) (input : List ℕ) (before after : RunState) (progress : Progress) → GoesOn hosts p input before progress
    → RunsTo p (main_means (environment_of p input) (before_construct (ahead p before))) before after tt → ahead p after ≡ from_construct (ahead p before)
    → GoesOn hosts p input after progress
advances laws hosts p input before after progress h went at =
    let g = environment_of p input in
    let names = names_at p (length p.functions) p.slots in
    let front = before_construct (ahead p before) in
    let parts = split-lawfully names h.scope (ahead p before) h.lawful in
    let f = follows (main-follows laws p input h.scope front parts.front h.outside) h.moment (moment_of p before).state before.cells h.alike h.memory tt (moment_of p after).state went.answer in
    let goes = front-goes g (ahead p before) h.moment f.state (plain_memory (main_means g front (moment_of p before).state) before.cells) f.comes in
    let m : Moment = record { state = f.state; memory = plain_memory (main_means g front (moment_of p before).state) before.cells } in
    record {
      scope = scope_at_end h.scope front;
      moment = m;
      there = subst (λ rest. IsAt p input rest m) (sym at)
          (goes-to p input (ahead p before) front (from_construct (ahead p before)) h.moment f.state (plain_memory (main_means g front (moment_of p before).state) before.cells) h.there (sym (whole-again (ahead p before))) f.comes);
      lawful = subst (IsLawfulBlock names true (scope_at_end h.scope front)) (sym at) parts.rest;
      declared = declared-at-end names h.scope front parts.front h.declared;
      outside = outside-at-end h.scope front ∙ h.outside;
      alike = f.alike;
      memory = sym went.memory;
      outcome_is = ap (λ rest. outcome_from (plain_answer (main_means g rest m.state) m.memory) (plain_memory (main_means g rest m.state) m.memory)) at
          ∙ sym (outcome-of {form = main_means g (ahead p before)} (goes.comes _ _ (record { answer = refl; memory = refl })))
          ∙ h.outcome_is;
      completes =
          subst (λ rest. IsCompletedBy hosts p input (constructs_in rest) (reached_from g rest m) progress) (sym at)
          (subst (λ l. IsCompletedBy hosts p input l (reached_from g (from_construct (ahead p before)) m) progress) (sym (front-constructs (ahead p before)))
          (subst (λ l. IsCompletedBy hosts p input (constructs_in (ahead p before)) l progress) goes.reached h.completes));
    }

-- one of them trapped
pub advances-to-trap : Laws → (hosts : Hosts) (p : Program) (input : List ℕ) (before after : RunState) (progress : Progress) (t : Trap) → GoesOn hosts p input before progress
    → TrapsIn p (main_means (environment_of p input) (before_construct (ahead p before))) before after t → HasCome hosts p input (Stopped t after.output) progress
advances-to-trap laws hosts p input before after progress t h trapped =
    let g = environment_of p input in
    let front = before_construct (ahead p before) in
    let parts = split-lawfully (names_at p (length p.functions) p.slots) h.scope (ahead p before) h.lawful in
    let comes = follows-trap (main-follows laws p input h.scope front parts.front h.outside) h.moment (moment_of p before).state before.cells h.alike h.memory t after.output trapped in
    let whole = front-traps g (ahead p before) h.moment t after.output _ comes in
    traps-here hosts p input before progress h t after.output _ whole.comes whole.reached

-- A run in pieces goes on as the plain run does where a construct is settled with what its blocks came to.
use Rattle.std.proofs.Common.{◌≡◌, ℕ, zero, suc, ◌+◌, true, false, List, [], ◌∷◌, ◌++◌, length, ℤ, pos, ◌+ℤ◌, refl, sym, ap, ◌∙◌, subst, add-one}
use Rattle.std.specs.Prelude.{Some, Result, Ok, Err}
use Rattle.spf_ast.specs.declared.outcome.Trap.{Trap}
use Rattle.spf_ast.specs.declared.syntax.Part.TheVariants.{Predictor}
use Rattle.spf_ast.specs.Interaction.{State, Flow, Onward, Broken, Ending, Value, Trapped}
use Rattle.spf_ast.specs.Syntax.{Statement, Program, Block, end, on_line}
use Rattle.spf_ast.specs.Meaning.{Environment, statement_means, main_means}
use Rattle.spf_ast.specs.Plain.{plain_answer, plain_memory}
use Rattle.spf_ast.specs.Program.{environment_of, extents_of, outcome_from, Stopped}
use Rattle.spf_ast.specs.Construct.{Moment, moment_after, plainly, Construct, construct_of, constructs_in, Header, header_means, carried_of, Reached, reached, reached_here, unless_trapped, reached_from, blocks_from}
use Rattle.spf_ast.specs.Pieces.{rest_from, construct_first}
use Rattle.spf_ast.specs.Silence.{FunctionsAreSilent}
use Rattle.spf_ast.specs.Carried.{Carried, with_carried}
use Rattle.spf_ast.specs.Lawful.{Scope, names_at, IsLawfulStatement, IsLawfulBlock, scope_after}
use Rattle.spf_exec_instance.specs.Frame.{main_slots}
use Rattle.spf_exec.specs.Pieces.{RunState, RunsTo, TrapsIn, moment_of, ahead}
use Rattle.spf_ast_laws.specs.Agreement.{LookAlike}
use Rattle.spf_ast_laws.specs.Keeping.{IsSelfContained}
use Rattle.spf_ast_laws.specs.Chained.{chained, is_trap, IsSettledAs, IsItsBlocks}
use Rattle.spf_ast_laws.proofs.Chains.{is-statement}
use Rattle.spf_ast_laws.proofs.Plainly.{Comes, comes-then, comes-trap}
use Rattle.spf_ast.specs.Construct.{fold, pair, statements_of}
use Rattle.spf_ast.specs.declared.syntax.Part.{Part}
use Rattle.spf_ast.specs.declared.syntax.Part.TheVariants.{Body, Producer, Consumer}
use Rattle.spf_ast.specs.Slots.{assigns_outer}
use Rattle.spf_ast.specs.Silence.{PartIsSilent}
use Rattle.spf_ast_laws.specs.Keeping.{StandsInMain}
use Rattle.spf_check_rules.specs.Rules.{KeepsTheRules}
use Rattle.spf_speculation_entry.specs.Entry.{plain_blocks}
use Rattle.spf_speculation.specs.Alike.{SlotsLookAlike}
use Rattle.spf_guess_statistics.specs.Guess.{Guess, Hosts, Telling, guess_for}
use Rattle.spf_guess_statistics.specs.Statistics.{guess_at}
use Rattle.spf_engine_laws.specs.Passed.{PassedConstruct, where_blocks, passed_from, passed_plainly, real_rows_from, OneByOne, PassedAlike}
use Rattle.spf_engine_laws.specs.Progress.{IsAt, Progress, IsCompletedBy, GoesOn, HasCome, BlocksComeTo, entry_there, entry_guess, with_construct, past_construct}
use Rattle.spf_engine_laws.specs.Laws.{ConstructsSettle, ConstructsEndRuns}
use Rattle.spf_engine_laws.proofs.Places.{goes-to}
use Rattle.spf_engine_laws.proofs.Fronts.{declared-after}
use Rattle.spf_engine_laws.proofs.Guesses.{same-guess}
use Rattle.spf_engine_laws.proofs.Performing.{Sees}
use Rattle.spf_engine_laws.proofs.Standing.{Laws, Follows, follows, follows-trap, traps-here, outcome-of}
use Rattle.spf_engine_laws.proofs.Passed.{alike-where-blocks}
use Rattle.spf_engine_laws.proofs.Tallies.{whole-of-it, completes-after}

-- ---- the construct that stands next

pub record StandsBefore (b : Block) (c : Construct) : Type 0 where
  pub line : ℕ
  pub statement : Statement
  pub rest : Block
  pub is : b ≡ on_line line statement rest
  pub construct : construct_of line statement ≡ Some c

pub stands-before : (b : Block) (c : Construct) → construct_first b ≡ Some c → StandsBefore b c
stands-before end c e = cc
stands-before (on_line line first rest) c e = record { line = line; statement = first; rest = rest; is = refl; construct = e }

-- what comes after it
pub rest-next : (index : ℕ) (b : Block) (line : ℕ) (s : Statement) (rest : Block) → rest_from index b ≡ on_line line s rest → rest_from (index + 1) b ≡ rest
rest-next index b line s rest e = ap (λ n. rest_from n b) (add-one index) ∙ go index b e
  where
    tail : Block → Block
    tail end = end
    tail (on_line n t more) = more

    go : (index : ℕ) (b : Block) → rest_from index b ≡ on_line line s rest → rest_from (suc index) b ≡ rest
    go zero end e = cc
    go zero (on_line n t more) e = ap tail e
    go (suc index) end e = cc
    go (suc index) (on_line n t more) e = go index more e

-- ---- entering a construct

-- the header of the construct that stands next was done
pub record Entered (hosts : Hosts) (p : Program) (input : List ℕ) (before after : RunState) (progress : Progress) (c : Construct) (h : Header) : Type 0 where
  pub goes : GoesOn hosts p input before progress
  pub stands : StandsBefore (ahead p before) c
  pub header : Follows (LookAlike goes.scope.visible) (header_means (environment_of p input) c) goes.moment h (moment_of p after).state after.cells

-- the statement that stands next is lawful
first-lawful : (hosts : Hosts) (p : Program) (input : List ℕ) (s : RunState) (progress : Progress) (h : GoesOn hosts p input s progress) (c : Construct) (b : StandsBefore (ahead p s) c)
    → IsLawfulBlock (names_at p (length p.functions) p.slots) true h.scope (on_line b.line b.statement b.rest)
first-lawful hosts p input s progress h c b = subst (IsLawfulBlock (names_at p (length p.functions) p.slots) true h.scope) b.is h.lawful

-- its header sees visible slots alone
header-sees : Laws → (p : Program) (input : List ℕ) (scope : Scope) (line : ℕ) (s : Statement) (c : Construct) → construct_of line s ≡ Some c → IsLawfulStatement (names_at p (length p.functions) p.slots) true scope s
    → Sees (LookAlike scope.visible) (LookAlike scope.visible) (header_means (environment_of p input) c)
header-sees laws p input scope line s c is l =
    record { relates = laws.headers_see (names_at p (length p.functions) p.slots) scope line s c is l input (extents_of p (length input)) p.functions (length p.functions) }

enters : Laws → (hosts : Hosts) (p : Program) (input : List ℕ) (before after : RunState) (progress : Progress) (c : Construct) (h : Header) → GoesOn hosts p input before progress → construct_first (ahead p before) ≡ Some c
    → RunsTo p (header_means (environment_of p input) c) before after h → Entered hosts p input before after progress c h
enters laws hosts p input before after progress c h goes first went =
    let b = stands-before (ahead p before) c first in
    let g = environment_of p input in
    let l = first-lawful hosts p input before progress goes c b in
    let sees = header-sees laws p input goes.scope b.line b.statement c b.construct l.0 in
    record {
      goes = goes;
      stands = b;
      header = subst (Follows (LookAlike goes.scope.visible) (header_means g c) goes.moment h (moment_of p after).state) (sym went.memory)
          (follows sees goes.moment (moment_of p before).state before.cells goes.alike goes.memory h (moment_of p after).state went.answer);
    }

-- what a construct and the statements after it reach
reaches : (g : Environment) (line : ℕ) (s : Statement) (rest : Block) (c : Construct) (m : Moment) (h : Header) (entered : State) → construct_of line s ≡ Some c → plainly (header_means g c) m ≡ Value h entered
    → reached_from g (on_line line s rest) m ≡ reached g c (Value h entered) m (unless_trapped (plainly (statement_means g line s) m) (λ state. reached_from g rest (moment_after (statement_means g line s) m state)))
reaches g line s rest c m h entered is e =
    let later = unless_trapped (plainly (statement_means g line s) m) (λ state. reached_from g rest (moment_after (statement_means g line s) m state)) in
    ap (λ o. reached_here g o m later) is ∙ ap (λ d. reached g c d m later) e

reaches-not : (g : Environment) (line : ℕ) (s : Statement) (rest : Block) (c : Construct) (m : Moment) (t : Trap) (o : List ℕ) → construct_of line s ≡ Some c → plainly (header_means g c) m ≡ Trapped t o → plainly (statement_means g line s) m ≡ Trapped t o
    → reached_from g (on_line line s rest) m ≡ []
reaches-not g line s rest c m t o is e f =
    ap (λ k. reached_here g k m (unless_trapped (plainly (statement_means g line s) m) (λ state. reached_from g rest (moment_after (statement_means g line s) m state)))) is
    ∙ ap (λ d. reached g c d m (unless_trapped (plainly (statement_means g line s) m) (λ state. reached_from g rest (moment_after (statement_means g line s) m state)))) e
    ∙ ap (λ d. unless_trapped d (λ state. reached_from g rest (moment_after (statement_means g line s) m state))) f

-- its header trapped
pub header-traps-run : Laws → (hosts : Hosts) (p : Program) (input : List ℕ) (before after : RunState) (progress : Progress) (c : Construct) (t : Trap) → GoesOn hosts p input before progress → construct_first (ahead p before) ≡ Some c
    → TrapsIn p (header_means (environment_of p input) c) before after t → HasCome hosts p input (Stopped t after.output) progress
header-traps-run laws hosts p input before after progress c t goes first trapped =
    let b = stands-before (ahead p before) c first in
    let g = environment_of p input in
    let l = first-lawful hosts p input before progress goes c b in
    let sees = header-sees laws p input goes.scope b.line b.statement c b.construct l.0 in
    let header = follows-trap sees goes.moment (moment_of p before).state before.cells goes.alike goes.memory t after.output trapped in
    let ended = laws.headers g b.line b.statement c b.construct goes.moment t after.output header.answer in
    let statement : Comes (statement_means g b.line b.statement) goes.moment.state goes.moment.memory (Trapped t after.output) (plain_memory (header_means g c goes.moment.state) goes.moment.memory) = record { answer = ended.0; memory = ended.1 } in
    traps-here hosts p input before progress goes t after.output _
    (subst (λ all. Comes (main_means g all) goes.moment.state goes.moment.memory (Trapped t after.output) (plain_memory (header_means g c goes.moment.state) goes.moment.memory)) (sym b.is) (comes-trap (λ u. main_means g b.rest) statement))
    (ap (λ all. reached_from g all goes.moment) b.is ∙ reaches-not g b.line b.statement b.rest c goes.moment t after.output b.construct header.answer statement.answer)

-- ---- settling a construct

-- the scope after a construct shows its carried slots
shows-carried : (line : ℕ) (s : Statement) (c : Construct) → construct_of line s ≡ Some c → (scope : Scope) → (scope_after scope s).visible ≡ carried_of c ++ scope.visible
shows-carried line s c e scope =
    is-statement line s c (λ t k. (scope_after scope t).visible ≡ carried_of k ++ scope.visible) (λ head body. refl) (λ head producer consumer. refl) e

-- a construct is the first of those of its block
pub counts-first : (line : ℕ) (s : Statement) (rest : Block) (c : Construct) → construct_of line s ≡ Some c → constructs_in (on_line line s rest) ≡ c ∷ constructs_in rest
counts-first line s rest c e =
    is-statement line s c (λ t k. constructs_in (on_line line t rest) ≡ k ∷ constructs_in rest) (λ head body. refl) (λ head producer consumer. refl) e

-- what is known of a construct that was entered, by the law on block runs
is-its-blocks : Laws → (hosts : Hosts) (p : Program) (input : List ℕ) (before after : RunState) (progress : Progress) (c : Construct) (h : Header) (e : Entered hosts p input before after progress c h)
    → FunctionsAreSilent p.functions → IsSelfContained e.goes.scope.visible c
    → IsItsBlocks (environment_of p input) e.goes.scope.visible e.stands.line e.stands.statement c e.goes.moment h e.header.state (moment_of p after).state
is-its-blocks laws hosts p input before after progress c h e silent own =
    laws.blocks (names_at p (length p.functions) p.slots) e.goes.scope e.stands.line e.stands.statement c e.stands.construct
    (first-lawful hosts p input before progress e.goes c e.stands).0 e.goes.declared own input (extents_of p (length input)) p.functions silent (length p.functions)
    e.goes.moment h e.header.state (moment_of p after).state e.header.comes.answer e.header.alike

-- the construct as it was reached
abbrev reached_as : Environment → Construct → Moment → Header → State → Reached
reached_as g c m h entered = record {
  slots = entered.slots;
  memory = plain_memory (header_means g c m.state) m.memory;
  header = h;
  reals = blocks_from g c 0 h.blocks h.low h.start (moment_after (header_means g c) m entered);
}

-- ---- guesses

-- where the construct stands in `main`
abbrev stands-at : (hosts : Hosts) (p : Program) (input : List ℕ) (before after : RunState) (progress : Progress) (c : Construct) (h : Header) (e : Entered hosts p input before after progress c h) → StandsInMain p c
stands-at hosts p input before after progress c h e = record {
  scope = e.goes.scope;
  line = e.stands.line;
  statement = e.stands.statement;
  is = e.stands.construct;
  lawful = (first-lawful hosts p input before progress e.goes c e.stands).0;
  declared = e.goes.declared;
}

-- the guesses are those at the entry of the run
guesses-alike : Laws → (hosts : Hosts) (p : Program) (input : List ℕ) (before after : RunState) (progress : Progress) (c : Construct) (h : Header) (e : Entered hosts p input before after progress c h) (n : ℕ)
    → guess_at hosts progress.telling p input c (reached_as (environment_of p input) c e.goes.moment h e.header.state) n ≡ entry_guess hosts progress.telling (entry_there p input c h after) n
guesses-alike laws hosts p input before after progress c h e n =
    let x = plain_memory (header_means (environment_of p input) c e.goes.moment.state) e.goes.moment.memory in
    let lawful = (first-lawful hosts p input before progress e.goes c e.stands).0 in
    same-guess p input e.goes.scope e.stands.line e.stands.statement c e.stands.construct lawful e.header.state (moment_of p after).state e.header.alike hosts progress.telling x (h.low +ℤ pos n)
    ∙ ap (λ y. guess_for hosts progress.telling p input c (main_slots p after.frame) y (h.low +ℤ pos n)) e.header.comes.memory

-- ---- what the blocks came to, beside the plain run

-- the construct that keeps the rules can have its blocks run on their own
assigns-none : (p : Program) (c : Construct) → KeepsTheRules p c → (part : Part) → assigns_outer (statements_of c part) ≡ false
assigns-none p (fold line head body) k Body = k.assigns_no_outer Body tt
assigns-none p (pair line head producer consumer) k Producer = k.assigns_no_outer Producer tt
assigns-none p (pair line head producer consumer) k Consumer = k.assigns_no_outer Consumer tt
assigns-none p (fold line head body) k Producer = refl
assigns-none p (fold line head body) k Consumer = refl
assigns-none p (fold line head body) k Predictor = refl
assigns-none p (pair line head producer consumer) k Body = refl
assigns-none p (pair line head producer consumer) k Predictor = refl

pub emits-none : (p : Program) (c : Construct) → KeepsTheRules p c → (part : Part) → PartIsSilent c part
emits-none p (fold line head body) k Body = k.emits_nothing Body tt
emits-none p (pair line head producer consumer) k Producer = k.emits_nothing Producer tt
emits-none p (pair line head producer consumer) k Consumer = k.emits_nothing Consumer tt
emits-none p (fold line head body) k Producer = refl
emits-none p (fold line head body) k Consumer = refl
emits-none p (fold line head body) k Predictor = refl
emits-none p (pair line head producer consumer) k Body = refl
emits-none p (pair line head producer consumer) k Predictor = refl

contained-here : Laws → (hosts : Hosts) (p : Program) (input : List ℕ) (before after : RunState) (progress : Progress) (c : Construct) (h : Header) (e : Entered hosts p input before after progress c h) → KeepsTheRules p c → IsSelfContained e.goes.scope.visible c
contained-here laws hosts p input before after progress c h e keeps =
    laws.contained (names_at p (length p.functions) p.slots) e.goes.scope e.stands.line e.stands.statement c e.stands.construct
    (first-lawful hosts p input before progress e.goes c e.stands).0 e.goes.declared (assigns-none p c keeps) (emits-none p c keeps)

-- the plain run reached the construct with these guesses and with the real rows that its blocks have where the run stands
record IsReachedSo (hosts : Hosts) (p : Program) (input : List ℕ) (telling : List Telling) (c : Construct) (there : Reached) (guess : ℕ → Guess) (values : List Carried) (passed : List PassedConstruct) : Type 0 where
  guesses : (n : ℕ) → guess_at hosts telling p input c there n ≡ guess n
  values_are : there.reals.values ≡ values
  alike : OneByOne PassedAlike passed (where_blocks there.header.blocks (passed_plainly hosts telling p input c there))

is-reached-so : (laws : Laws) (hosts : Hosts) (p : Program) (input : List ℕ) (before after : RunState) (progress : Progress) (c : Construct) (h : Header) (e : Entered hosts p input before after progress c h)
    → FunctionsAreSilent p.functions → KeepsTheRules p c
    → IsReachedSo hosts p input progress.telling c (reached_as (environment_of p input) c e.goes.moment h e.header.state) (entry_guess hosts progress.telling (entry_there p input c h after))
    (plain_blocks (entry_there p input c h after)).values (passed_from (entry_there p input c h after) (entry_guess hosts progress.telling (entry_there p input c h after)))
is-reached-so laws hosts p input before after progress c h e silent keeps =
    let g = environment_of p input in
    let there = reached_as g c e.goes.moment h e.header.state in
    let guess = entry_guess hosts progress.telling (entry_there p input c h after) in
    let law = is-its-blocks laws hosts p input before after progress c h e silent (contained-here laws hosts p input before after progress c h e keeps) in
    let real = law.values ∙ ap (λ y. (chained g c (main_slots p after.frame) 0 h.blocks h.low h.start y).values) e.header.comes.memory in
    let trap = law.trapped ∙ ap (λ y. is_trap (chained g c (main_slots p after.frame) 0 h.blocks h.low h.start y).result) e.header.comes.memory in
    let same = guesses-alike laws hosts p input before after progress c h e in
    let back : SlotsLookAlike e.goes.scope.visible (main_slots p after.frame) e.header.state.slots
    = record { agree = record { slots = λ slot k. sym (e.header.alike.agree.slots slot k); output = refl }; slot_count = sym e.header.alike.slot_count } in
    record {
      guesses = same;
      values_are = real;
      alike = alike-where-blocks h.blocks
          (record { entry = entry_there p input c h after; guess = λ n. (guess n).value; reals = real_rows_from (entry_there p input c h after) })
          (passed_plainly hosts progress.telling p input c there)
          (record {
            stands = stands-at hosts p input before after progress c h e;
            slots = back;
            rest = λ i. record {
              entry = record { program = p; construct = c; input = input; slots = e.header.state.slots; memory = e.header.comes.memory i; header = h };
              guess = λ n. (same n i).value;
              reals = record { values = real i; trapped = trap i };
            };
          });
    }

-- ---- settling

-- the ending of a construct that has a row
record Settles (visible : List ℕ) (entry : State) (carried : List ℕ) (v : Carried) (e : Ending Flow) : Type 0 where
  state : State
  is : e ≡ Value Onward state
  alike : LookAlike (carried ++ visible) state (record entry { slots = with_carried carried v entry.slots })

settles-at : (visible : List ℕ) (entry : State) (carried : List ℕ) (v : Carried) (e : Ending Flow) → IsSettledAs visible entry carried (Ok v) e → Settles visible entry carried v e
settles-at visible entry carried v (Value Onward s) h = record { state = s; is = refl; alike = h }
settles-at visible entry carried v (Value Broken s) h = elim h [ ]
settles-at visible entry carried v (Trapped t o) h = elim h [ ]

settles-trap : (visible : List ℕ) (entry : State) (carried : List ℕ) (t : Trap) (e : Ending Flow) → IsSettledAs visible entry carried (Err t) e → e ≡ Trapped t entry.output
settles-trap visible entry carried t (Value Onward s) h = elim h [ ]
settles-trap visible entry carried t (Value Broken s) h = elim h [ ]
settles-trap visible entry carried t (Trapped u o) h = ap (λ w. Trapped w o) h.0 ∙ ap (Trapped t) h.1

-- what the run reached from the construct on: the construct itself, and what comes after it
abbrev later-from : Environment → Block → List ℤ → Ending Flow → List Reached
later-from g rest memory ending = unless_trapped ending (λ state. reached_from g rest (record { state = state; memory = memory }))

reached-before : (hosts : Hosts) (p : Program) (input : List ℕ) (before after : RunState) (progress : Progress) (c : Construct) (h : Header) (e : Entered hosts p input before after progress c h) (ending : Ending Flow) (memory : List ℤ)
    → plainly (statement_means (environment_of p input) e.stands.line e.stands.statement) e.goes.moment ≡ ending
    → plain_memory (statement_means (environment_of p input) e.stands.line e.stands.statement e.goes.moment.state) e.goes.moment.memory ≡ memory
    → IsCompletedBy hosts p input (c ∷ constructs_in e.stands.rest) (reached_as (environment_of p input) c e.goes.moment h e.header.state ∷ later-from (environment_of p input) e.stands.rest memory ending) progress
reached-before hosts p input before after progress c h e ending memory ended left =
    let g = environment_of p input in
    let m = e.goes.moment in
    let b = e.stands in
    let all = subst (λ whole. IsCompletedBy hosts p input (constructs_in whole) (reached_from g whole m) progress) b.is e.goes.completes in
    let first = subst (λ cs. IsCompletedBy hosts p input cs (reached_from g (on_line b.line b.statement b.rest) m) progress) (counts-first b.line b.statement b.rest c b.construct) all in
    let there = subst (λ l. IsCompletedBy hosts p input (c ∷ constructs_in b.rest) l progress) (reaches g b.line b.statement b.rest c m h e.header.state b.construct e.header.comes.answer) first in
    subst (λ y. IsCompletedBy hosts p input (c ∷ constructs_in b.rest) (reached_as g c m h e.header.state ∷ later-from g b.rest y ending) progress) left
    (subst (λ d. IsCompletedBy hosts p input (c ∷ constructs_in b.rest) (reached_as g c m h e.header.state ∷ later-from g b.rest (plain_memory (statement_means g b.line b.statement m.state) m.memory) d) progress) ended there)

-- where its blocks gave a row, the run goes on after it with this row and their memory
pub settles-so : Laws → (hosts : Hosts) (p : Program) (input : List ℕ) (before after : RunState) (progress : Progress) (last : RunState) (c : Construct) (h : Header) (e : Entered hosts p input before after progress c h)
    → FunctionsAreSilent p.functions → KeepsTheRules p c → (v : Carried)
    → BlocksComeTo (entry_there p input c h after) (Ok v) last.cells
    → main_slots p last.frame ≡ with_carried (carried_of c) v (main_slots p after.frame) → last.output ≡ after.output → last.place ≡ before.place + 1
    → GoesOn hosts p input last (past_construct hosts (entry_there p input c h after) progress)
settles-so laws hosts p input before after progress last c h e silent keeps v out slots output place =
    let g = environment_of p input in
    let m = e.goes.moment in
    let b = e.stands in
    let guess = entry_guess hosts progress.telling (entry_there p input c h after) in
    let law = is-its-blocks laws hosts p input before after progress c h e silent (contained-here laws hosts p input before after progress c h e keeps) in
    let x = plain_memory (header_means g c m.state) m.memory in
    let chain : List ℤ → Result Carried Trap = λ y. (chained g c (main_slots p after.frame) 0 h.blocks h.low h.start y).result in
    let result : chain x ≡ Ok v = ap chain e.header.comes.memory ∙ out.result in
    let ended = settles-at e.goes.scope.visible (moment_of p after).state (carried_of c) v (plainly (statement_means g b.line b.statement) m)
    (subst (λ r. IsSettledAs e.goes.scope.visible (moment_of p after).state (carried_of c) r (plainly (statement_means g b.line b.statement) m)) result law.settled) in
    let memory : plain_memory (statement_means g b.line b.statement m.state) m.memory ≡ last.cells
    = law.memory ∙ ap (λ y. (chained g c (main_slots p after.frame) 0 h.blocks h.low h.start y).memory) e.header.comes.memory ∙ sym (out.memory_is v refl) in
    let lawful = first-lawful hosts p input before progress e.goes c b in
    let behind : ahead p last ≡ b.rest = ap (λ n. rest_from n p.main) place ∙ rest-next before.place p.main b.line b.statement b.rest b.is in
    let next : Moment = record { state = ended.state; memory = last.cells } in
    let names = names_at p (length p.functions) p.slots in
    let statement : Comes (statement_means g b.line b.statement) m.state m.memory (Value Onward ended.state) last.cells = record { answer = ended.is; memory = memory } in
    let entry_is : record (moment_of p after).state { slots = with_carried (carried_of c) v (main_slots p after.frame) } ≡ (moment_of p last).state
    = λ i. record { slots = sym slots i; output = sym output i } in
    let mine = is-reached-so laws hosts p input before after progress c h e silent keeps in
    let there = entry_there p input c h after in
    record {
      scope = scope_after e.goes.scope b.statement;
      moment = next;
      there = subst (λ rest. IsAt p input rest next) (sym behind)
          (goes-to p input (ahead p before) (on_line b.line b.statement end) b.rest m ended.state last.cells e.goes.there b.is
          (comes-then {first = statement_means g b.line b.statement} (λ u. main_means g end) statement (record { answer = refl; memory = refl })));
      lawful = subst (IsLawfulBlock names true (scope_after e.goes.scope b.statement)) (sym behind) lawful.1;
      declared = declared-after names e.goes.scope b.statement lawful.0 e.goes.declared;
      outside = e.goes.outside;
      alike = subst (λ visible. LookAlike visible ended.state (moment_of p last).state) (sym (shows-carried b.line b.statement c b.construct e.goes.scope))
          (subst (LookAlike (carried_of c ++ e.goes.scope.visible) ended.state) entry_is ended.alike);
      memory = refl;
      outcome_is = ap (λ rest. outcome_from (plain_answer (main_means g rest next.state) next.memory) (plain_memory (main_means g rest next.state) next.memory)) behind
          ∙ sym (outcome-of {form = main_means g (on_line b.line b.statement b.rest)} (comes-then (λ u. main_means g b.rest) statement (record { answer = refl; memory = refl })))
          ∙ ap (λ all. outcome_from (plain_answer (main_means g all m.state) m.memory) (plain_memory (main_means g all m.state) m.memory)) (sym b.is)
          ∙ e.goes.outcome_is;
      completes = subst (λ rest. IsCompletedBy hosts p input (constructs_in rest) (reached_from g rest next) (with_construct there guess progress)) (sym behind)
          (completes-after hosts p input c (constructs_in b.rest) (reached_as g c m h e.header.state) (reached_from g b.rest next) guess (plain_blocks there).values (passed_from there guess) progress
          mine.guesses mine.values_are mine.alike
          (reached-before hosts p input before after progress c h e (Value Onward ended.state) last.cells ended.is memory));
    }

-- where one of its blocks trapped
pub settles-to-trap : Laws → (hosts : Hosts) (p : Program) (input : List ℕ) (before after : RunState) (progress : Progress) (c : Construct) (h : Header) (e : Entered hosts p input before after progress c h)
    → FunctionsAreSilent p.functions → KeepsTheRules p c → (t : Trap) (memory : List ℤ)
    → BlocksComeTo (entry_there p input c h after) (Err t) memory
    → HasCome hosts p input (Stopped t after.output) (past_construct hosts (entry_there p input c h after) progress)
settles-to-trap laws hosts p input before after progress c h e silent keeps t memory out =
    let g = environment_of p input in
    let m = e.goes.moment in
    let b = e.stands in
    let guess = entry_guess hosts progress.telling (entry_there p input c h after) in
    let law = is-its-blocks laws hosts p input before after progress c h e silent (contained-here laws hosts p input before after progress c h e keeps) in
    let x = plain_memory (header_means g c m.state) m.memory in
    let chain : List ℤ → Result Carried Trap = λ y. (chained g c (main_slots p after.frame) 0 h.blocks h.low h.start y).result in
    let result : chain x ≡ Err t = ap chain e.header.comes.memory ∙ out.result in
    let ended = settles-trap e.goes.scope.visible (moment_of p after).state (carried_of c) t (plainly (statement_means g b.line b.statement) m)
    (subst (λ r. IsSettledAs e.goes.scope.visible (moment_of p after).state (carried_of c) r (plainly (statement_means g b.line b.statement) m)) result law.settled) in
    let y = plain_memory (statement_means g b.line b.statement m.state) m.memory in
    let statement : Comes (statement_means g b.line b.statement) m.state m.memory (Trapped t after.output) y = record { answer = ended; memory = refl } in
    let mine = is-reached-so laws hosts p input before after progress c h e silent keeps in
    let there = entry_there p input c h after in
    record {
      outcome_is = sym (outcome-of {form = main_means g (on_line b.line b.statement b.rest)} (comes-trap (λ u. main_means g b.rest) statement))
          ∙ ap (λ all. outcome_from (plain_answer (main_means g all m.state) m.memory) (plain_memory (main_means g all m.state) m.memory)) (sym b.is)
          ∙ e.goes.outcome_is;
      whole = whole-of-it hosts p input (constructs_in b.rest) [] (with_construct there guess progress) refl
          (completes-after hosts p input c (constructs_in b.rest) (reached_as g c m h e.header.state) [] guess (plain_blocks there).values (passed_from there guess) progress
          mine.guesses mine.values_are mine.alike
          (reached-before hosts p input before after progress c h e (Trapped t after.output) y ended refl));
    }

-- ---- constructs of a run

pub construct-settles : Laws → ConstructsSettle
unfolding enters
construct-settles laws hosts p input progress c h after now last v e silent keeps left came settled =
    settles-so laws hosts p input e.before after progress last c h (enters laws hosts p input e.before after progress c h e.goes e.first e.header) silent keeps v
    (subst (λ cells. BlocksComeTo (entry_there p input c h after) (Ok v) cells) (sym settled.cells) came)
    (settled.slots ∙ ap (λ f. with_carried (carried_of c) v (main_slots p f)) left.frame) (settled.output ∙ left.output)
    (settled.place ∙ ap (λ n. n + 1) (left.place ∙ e.place))

pub construct-ends-run : Laws → ConstructsEndRuns
unfolding enters
construct-ends-run laws hosts p input progress c h after t memory e silent keeps out =
    settles-to-trap laws hosts p input e.before after progress c h (enters laws hosts p input e.before after progress c h e.goes e.first e.header) silent keeps t memory out

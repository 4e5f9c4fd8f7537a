-- The statements before the next construct, performed plainly.
use Rattle.std.proofs.Common.{◌≡◌, ℕ, ◌<◌, inl, inr, Bool, true, false, List, [], ℤ, refl, sym, ap, ◌∙◌, subst, arith}
use Rattle.std.specs.Prelude.{if◌then◌else◌, None}
use Rattle.std.specs.List.{Contains}
use Rattle.std.proofs.lemmas.List.Elements.{Contains-append_cases}
use Rattle.spf_ast.specs.declared.outcome.Trap.{Trap}
use Rattle.spf_ast.specs.Interaction.{State, Flow, Ending, Value, Trapped}
use Rattle.spf_ast.specs.Syntax.{Statement, Let, Assign, Store, Fill, Emit, Fail, If, For, While, Do, Fold, Pair, Break, Block, end, on_line}
use Rattle.spf_ast.specs.Meaning.{Environment, statement_means, main_means}
use Rattle.spf_ast.specs.Construct.{construct_of, is_construct, constructs_in, Moment, moment_after, plainly, reached_here, unless_trapped, reached_from}
use Rattle.spf_ast.specs.Pieces.{before_construct, from_construct}
use Rattle.spf_ast.specs.Lawful.{Names, Scope, IsLawfulStatement, IsLawfulBlock, scope_after, scope_at_end}
use Rattle.spf_exec.proofs.Constructs.{constructs-skip}
use Rattle.spf_ast_laws.specs.Keeping.{AreDeclared}
use Rattle.spf_ast_laws.proofs.Slots.{cons_cases}
use Rattle.spf_ast_laws.proofs.Keeping.{each-next}
use Rattle.spf_ast_laws.proofs.Plainly.{Comes, Parted, gave, trapped, part, comes-then, comes-trap}

-- a statement that is no construct
no-construct : (line : ℕ) (s : Statement) → is_construct s ≡ false → construct_of line s ≡ None
no-construct line (Fold head body) e = cc
no-construct line (Pair head producer consumer) e = cc
no-construct line s e = refl

-- ---- what is reached

-- the state of an ending
abbrev state_or : {A : Type 0} → State → Ending A → State
state_or s (Value b t) = t
state_or s (Trapped trap output) = s

-- a statement that is no construct and gave a value reaches what the statements after it reach
passes : (g : Environment) (line : ℕ) (s : Statement) (rest : Block) (m : Moment) (flow : Flow) (after : State) (x : List ℤ) → construct_of line s ≡ None → Comes (statement_means g line s) m.state m.memory (Value flow after) x
    → reached_from g (on_line line s rest) m ≡ reached_from g rest (record { state = after; memory = x })
passes g line s rest m flow after x n p =
    ap (λ o. reached_here g o m (unless_trapped (plainly (statement_means g line s) m) (λ state. reached_from g rest (moment_after (statement_means g line s) m state)))) n
    ∙ ap (λ e. unless_trapped e (λ state. reached_from g rest (moment_after (statement_means g line s) m state))) p.answer
    ∙ ap (λ y. reached_from g rest (record { state = after; memory = y })) p.memory

-- one that trapped reaches nothing
stops : (g : Environment) (line : ℕ) (s : Statement) (rest : Block) (m : Moment) (t : Trap) (o : List ℕ) (x : List ℤ) → construct_of line s ≡ None → Comes (statement_means g line s) m.state m.memory (Trapped t o) x
    → reached_from g (on_line line s rest) m ≡ []
stops g line s rest m t o x n p =
    ap (λ o. reached_here g o m (unless_trapped (plainly (statement_means g line s) m) (λ state. reached_from g rest (moment_after (statement_means g line s) m state)))) n
    ∙ ap (λ e. unless_trapped e (λ state. reached_from g rest (moment_after (statement_means g line s) m state))) p.answer

-- ---- fronts that were performed

-- from a moment on a block goes on as another does from a later one
pub record GoesOnAs (g : Environment) (whole rest : Block) (before after : Moment) : Type 0 where
  pub comes : (e : Ending (Unit {0})) (x : List ℤ) → Comes (main_means g rest) after.state after.memory e x → Comes (main_means g whole) before.state before.memory e x
  pub reached : reached_from g whole before ≡ reached_from g rest after

-- nothing was performed
here : (g : Environment) (all : Block) (m : Moment) (after : State) (y : List ℤ) → Comes (main_means g end) m.state m.memory (Value tt after) y → GoesOnAs g all all m (record { state = after; memory = y })
here g all m after y p =
    subst (λ s. GoesOnAs g all all m (record { state = s; memory = y })) (ap (state_or m.state) p.answer)
    (subst (λ x. GoesOnAs g all all m (record { state = m.state; memory = x })) p.memory (record { comes = λ e x q. q; reached = refl }))

pub front-goes : (g : Environment) (all : Block) (m : Moment) (after : State) (y : List ℤ) → Comes (main_means g (before_construct all)) m.state m.memory (Value tt after) y → GoesOnAs g all (from_construct all) m (record { state = after; memory = y })
front-goes g end m after y p = here g end m after y p
front-goes g (on_line line first rest) m after y p = go (is_construct first) refl (λ s x q. front-goes g rest (record { state = s; memory = x }) after y q)
  where
    front : (b : Bool) → Block
    front b = if b then end else on_line line first (before_construct rest)

    Later : Type 0
    Later = (s : State) (x : List ℤ) → Comes (main_means g (before_construct rest)) s x (Value tt after) y → GoesOnAs g rest (from_construct rest) (record { state = s; memory = x }) (record { state = after; memory = y })

    with_first : is_construct first ≡ false → Later → Parted (statement_means g line first) (λ u. main_means g (before_construct rest)) m.state m.memory (Value tt after) y → GoesOnAs g (on_line line first rest) (from_construct rest) m (record { state = after; memory = y })
    with_first e more (gave u s x pa pb) =
        let later = more s x pb in
        record {
          comes = λ d z q. comes-then (λ u. main_means g rest) pa (later.comes d z q);
          reached = passes g line first rest m u s x (no-construct line first e) pa ∙ later.reached;
        }
    with_first e more (trapped t o pa wrong) = cc

    go : (b : Bool) → is_construct first ≡ b → Later → GoesOnAs g (on_line line first rest) (from_construct (on_line line first rest)) m (record { state = after; memory = y })
    go true e more =
        subst (λ b. GoesOnAs g (on_line line first rest) (if b then on_line line first rest else from_construct rest) m (record { state = after; memory = y })) (sym e)
        (here g (on_line line first rest) m after y (subst (λ b. Comes (main_means g (front b)) m.state m.memory (Value tt after) y) e p))
    go false e more =
        subst (λ b. GoesOnAs g (on_line line first rest) (if b then on_line line first rest else from_construct rest) m (record { state = after; memory = y })) (sym e)
        (with_first e more (part _ _ m.state m.memory (Value tt after) y (subst (λ b. Comes (main_means g (front b)) m.state m.memory (Value tt after) y) e p)))

-- a front that traps is a block that traps, and no construct is reached
pub record TrapsAs (g : Environment) (whole : Block) (m : Moment) (t : Trap) (o : List ℕ) (x : List ℤ) : Type 0 where
  pub comes : Comes (main_means g whole) m.state m.memory (Trapped t o) x
  pub reached : reached_from g whole m ≡ []

pub front-traps : (g : Environment) (all : Block) (m : Moment) (t : Trap) (o : List ℕ) (y : List ℤ) → Comes (main_means g (before_construct all)) m.state m.memory (Trapped t o) y → TrapsAs g all m t o y
front-traps g end m t o y p = let wrong = p.answer in cc
front-traps g (on_line line first rest) m t o y p = go (is_construct first) refl (λ s x q. front-traps g rest (record { state = s; memory = x }) t o y q)
  where
    front : (b : Bool) → Block
    front b = if b then end else on_line line first (before_construct rest)

    Later : Type 0
    Later = (s : State) (x : List ℤ) → Comes (main_means g (before_construct rest)) s x (Trapped t o) y → TrapsAs g rest (record { state = s; memory = x }) t o y

    with_first : is_construct first ≡ false → Later → Parted (statement_means g line first) (λ u. main_means g (before_construct rest)) m.state m.memory (Trapped t o) y → TrapsAs g (on_line line first rest) m t o y
    with_first e more (gave u s x pa pb) =
        let later = more s x pb in
        record {
          comes = comes-then (λ u. main_means g rest) pa later.comes;
          reached = passes g line first rest m u s x (no-construct line first e) pa ∙ later.reached;
        }
    with_first e more (trapped u q pa same) =
        record {
          comes = subst (λ d. Comes (main_means g (on_line line first rest)) m.state m.memory d y) same (comes-trap (λ u. main_means g rest) pa);
          reached = stops g line first rest m u q y (no-construct line first e) pa;
        }

    go : (b : Bool) → is_construct first ≡ b → Later → TrapsAs g (on_line line first rest) m t o y
    go true e more = let wrong = (subst (λ b. Comes (main_means g (front b)) m.state m.memory (Trapped t o) y) e p).answer in cc
    go false e more = with_first e more (part _ _ m.state m.memory (Trapped t o) y (subst (λ b. Comes (main_means g (front b)) m.state m.memory (Trapped t o) y) e p))

-- ---- fronts of lawful blocks

-- the constructs of a block are those from its first one on
pub front-constructs : (all : Block) → constructs_in (from_construct all) ≡ constructs_in all
front-constructs end = refl
front-constructs (on_line line first rest) = go (is_construct first) refl (front-constructs rest)
  where
    go : (b : Bool) → is_construct first ≡ b → constructs_in (from_construct rest) ≡ constructs_in rest → constructs_in (from_construct (on_line line first rest)) ≡ constructs_in (on_line line first rest)
    go true e later = ap (λ b. constructs_in (if b then on_line line first rest else from_construct rest)) e
    go false e later = ap (λ b. constructs_in (if b then on_line line first rest else from_construct rest)) e ∙ later ∙ sym (constructs-skip line first rest e)

-- a front is lawful, and so is what follows it
pub record IsSplitLawfully (names : Names) (scope : Scope) (all : Block) : Type 0 where
  pub front : IsLawfulBlock names true scope (before_construct all)
  pub rest : IsLawfulBlock names true (scope_at_end scope (before_construct all)) (from_construct all)

pub split-lawfully : (names : Names) (scope : Scope) (all : Block) → IsLawfulBlock names true scope all → IsSplitLawfully names scope all
split-lawfully names scope end l = record { front = tt; rest = tt }
split-lawfully names scope (on_line line first rest) l = go (is_construct first) refl (split-lawfully names (scope_after scope first) rest l.1)
  where
    Split : Bool → Type 0
    Split b = IsLawfulBlock names true scope (if b then end else on_line line first (before_construct rest))
        × IsLawfulBlock names true (scope_at_end scope (if b then end else on_line line first (before_construct rest))) (if b then on_line line first rest else from_construct rest)

    split : (b : Bool) → IsSplitLawfully names (scope_after scope first) rest → Split b
    split true later = (tt, l)
    split false later = ((l.0, later.front), later.rest)

    go : (b : Bool) → is_construct first ≡ b → IsSplitLawfully names (scope_after scope first) rest → IsSplitLawfully names scope (on_line line first rest)
    go b e later = let both = subst Split (sym e) (split b later) in record { front = both.0; rest = both.1 }

-- what is declared stays declared
next-grows : (scope : Scope) (s : Statement) → AreDeclared scope → (slot : ℕ) → Contains scope.visible slot → slot < (scope_after scope s).next
next-grows scope s d slot c = let below = d slot c in omega (arith, below)

pub declared-after : (names : Names) (scope : Scope) (s : Statement) → IsLawfulStatement names true scope s → AreDeclared scope → AreDeclared (scope_after scope s)
declared-after names scope (Let slot value) l d k c = elim (cons_cases slot scope.visible k c) [ inl e ↦ (let next = l.1.0 in omega (arith, e, next)) | inr h ↦ next-grows scope (Let slot value) d k h ]
declared-after names scope (Fold head body) l d k c =
    elim (Contains-append_cases head.carried scope.visible k c) [ inl e ↦ (let below = each-next names scope head.carried l.3 k e in omega (arith, below)) | inr h ↦ next-grows scope (Fold head body) d k h ]
declared-after names scope (Pair head producer consumer) l d k c =
    elim (Contains-append_cases head.carried scope.visible k c) [ inl e ↦ (let below = each-next names scope head.carried l.0 k e in omega (arith, below)) | inr h ↦ next-grows scope (Pair head producer consumer) d k h ]
declared-after names scope (Assign slot value) l d k c = next-grows scope (Assign slot value) d k c
declared-after names scope (Store array index value) l d k c = next-grows scope (Store array index value) d k c
declared-after names scope (Fill array low high value) l d k c = next-grows scope (Fill array low high value) d k c
declared-after names scope (Emit value) l d k c = next-grows scope (Emit value) d k c
declared-after names scope (Fail number) l d k c = next-grows scope (Fail number) d k c
declared-after names scope (If test a b) l d k c = next-grows scope (If test a b) d k c
declared-after names scope (For slot low high body) l d k c = next-grows scope (For slot low high body) d k c
declared-after names scope (While test most body) l d k c = next-grows scope (While test most body) d k c
declared-after names scope (Do f given) l d k c = next-grows scope (Do f given) d k c
declared-after names scope Break l d k c = next-grows scope Break d k c

pub declared-at-end : (names : Names) (scope : Scope) (b : Block) → IsLawfulBlock names true scope b → AreDeclared scope → AreDeclared (scope_at_end scope b)
declared-at-end names scope end l d = d
declared-at-end names scope (on_line line first rest) l d = declared-at-end names (scope_after scope first) rest l.1 (declared-after names scope first l.0 d)

-- a place outside of loops stays so
pub outside-at-end : (scope : Scope) (b : Block) → (scope_at_end scope b).in_loop ≡ scope.in_loop
outside-at-end scope end = refl
outside-at-end scope (on_line line first rest) = outside-at-end (scope_after scope first) rest

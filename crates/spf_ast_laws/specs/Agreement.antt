-- What programs see of the slots: from states that agree on the visible ones every form goes on alike.
use Rattle.std.specs.Prelude.{◌≡◌, ℕ, Bool, true, false, List, length, Option, Some, ℤ, slice_get}
use Rattle.spf_ast.specs.declared.syntax.Part.{Part}
use Rattle.spf_ast.specs.Event.{Event}
use Rattle.spf_ast.specs.Carried.{Carried}
use Rattle.spf_ast.specs.Construct.{Construct, construct_of, constructs_in, part_means, header_means}
use Rattle.spf_ast.specs.Interaction.{Performed, Ended, Stopped, Misfit, perform, State, Flow, Onward, Broken, Ending, Value, Trapped, Meaning}
use Rattle.spf_ast.specs.Syntax.{Program, Expression, Condition, Statement, Block, Function}
use Rattle.spf_ast.specs.Meaning.{Extent, environment_before, expression_means, condition_means, statement_means, block_means, main_means}
use Rattle.spf_ast.specs.Slots.{part_declares}
use Rattle.spf_ast.specs.BlockRun.{block_setup, part_asks}
use Rattle.spf_ast.specs.Lawful.{
  IsLawful,
  Names,
  Scope,
  Agree,
  IsLawfulExpression,
  IsLawfulCondition,
  IsLawfulStatement,
  IsLawfulBlock,
  scope_after,
  scope_at_end,
}

-- ---- states and what follows from them

-- a relation between two states
abbrev pub Relation : Type 1
Relation = State → State → Type 0

-- Two states agree on these slots, and have equally many slots. A slot that is set in both then has the same word in
-- both, though it wasn't visible before; were one list shorter, the slot could be missing there.
pub record LookAlike (visible : List ℕ) (one other : State) : Type 0 where
  pub agree : Agree visible one other
  pub slot_count : length one.slots ≡ length other.slots

-- two endings are alike: the same value in related states, or the same trap with the same output
abbrev pub EndAlike : {A : Type 0} → Relation → Ending A → Ending A → Type 0
EndAlike After (Value a one) (Value b other) = (a ≡ b) × After one other
EndAlike After (Trapped trap output) (Trapped other_trap other_output) = (trap ≡ other_trap) × (output ≡ other_output)
EndAlike After _ _ = ⊥

-- Two statements are left alike: both go on, in states that the first relation relates; both break off, in states that
-- the second relates; or both trap alike.
abbrev pub LeftAlike : Relation → Relation → Ending Flow → Ending Flow → Type 0
LeftAlike After Out (Value Onward one) (Value Onward other) = After one other
LeftAlike After Out (Value Broken one) (Value Broken other) = Out one other
LeftAlike After Out (Trapped trap output) (Trapped other_trap other_output) = (trap ≡ other_trap) × (output ≡ other_output)
LeftAlike After Out _ _ = ⊥

-- two performances are alike: both ended, and alike; both were stopped, by the same number; or the list fitted neither. The same events are left.
abbrev pub PerformedAlike : {A : Type 0} → (Ending A → Ending A → Type 0) → Performed (Ending A) → Performed (Ending A) → Type 0
PerformedAlike Alike (Ended one rest) (Ended other other_rest) = Alike one other × (rest ≡ other_rest)
PerformedAlike Alike (Stopped number rest) (Stopped other_number other_rest) = (number ≡ other_number) × (rest ≡ other_rest)
PerformedAlike Alike Misfit Misfit = Unit {0}
PerformedAlike Alike _ _ = ⊥

abbrev pub GoAlike : {A : Type 0} → Relation → Performed (Ending A) → Performed (Ending A) → Type 0
GoAlike After one other = PerformedAlike (EndAlike After) one other

-- A form relates two states before it to two states after it: from states that are related by `Before` it performs
-- each list of events alike, and its states after it are related by `After`.
abbrev pub Relates : {A : Type 0} → Relation → Relation → Meaning A → Type 0
Relates Before After form =
    (one other : State) → Before one other → (shared : ℕ → Bool) (memory : List ℤ) (stop : Option ℕ) (events : List Event)
    → GoAlike After (perform shared memory stop (form one) events) (perform shared memory stop (form other) events)

-- From states that are related before it a statement performs each list of events alike, and is left alike.
abbrev pub RelatesLeft : Relation → Relation → Relation → Meaning Flow → Type 0
RelatesLeft Before After Out form =
    (one other : State) → Before one other → (shared : ℕ → Bool) (memory : List ℤ) (stop : Option ℕ) (events : List Event)
    → PerformedAlike (LeftAlike After Out) (perform shared memory stop (form one) events) (perform shared memory stop (form other) events)

-- ---- forms

-- each lawful expression, on each input, over each layout of the arrays and whatever functions it calls
abbrev pub ExpressionsSeeVisibleSlots : Type 0
ExpressionsSeeVisibleSlots =
    (names : Names) (scope : Scope) (e : Expression) → IsLawfulExpression names scope e
    → (input : List ℕ) (extents : List Extent) (functions : List Function) (index line : ℕ)
    → Relates (Agree scope.visible) (Agree scope.visible) (expression_means (environment_before input extents functions index) line e)

-- each lawful condition
abbrev pub ConditionsSeeVisibleSlots : Type 0
ConditionsSeeVisibleSlots =
    (names : Names) (scope : Scope) (c : Condition) → IsLawfulCondition names scope c
    → (input : List ℕ) (extents : List Extent) (functions : List Function) (index line : ℕ)
    → Relates (Agree scope.visible) (Agree scope.visible) (condition_means (environment_before input extents functions index) line c)

-- each lawful statement, which may make further slots visible; where it breaks off, those that were visible before it are
abbrev pub StatementsSeeVisibleSlots : Type 0
StatementsSeeVisibleSlots =
    (names : Names) (in_main : Bool) (scope : Scope) (s : Statement) → IsLawfulStatement names in_main scope s
    → (input : List ℕ) (extents : List Extent) (functions : List Function) (index line : ℕ)
    → RelatesLeft (LookAlike scope.visible) (LookAlike (scope_after scope s).visible) (LookAlike scope.visible) (statement_means (environment_before input extents functions index) line s)

-- each lawful block, so each body and each whole `main`
abbrev pub BlocksSeeVisibleSlots : Type 0
BlocksSeeVisibleSlots =
    (names : Names) (in_main : Bool) (scope : Scope) (block : Block) → IsLawfulBlock names in_main scope block
    → (input : List ℕ) (extents : List Extent) (functions : List Function) (index : ℕ)
    → RelatesLeft (LookAlike scope.visible) (LookAlike (scope_at_end scope block).visible) (LookAlike scope.visible)
    (block_means (environment_before input extents functions index) block)

-- the statements of `main`, from a lawful block on that isn't in a loop
abbrev pub MainSeesVisibleSlots : Type 0
MainSeesVisibleSlots =
    (names : Names) (scope : Scope) (block : Block) → IsLawfulBlock names true scope block → scope.in_loop ≡ false
    → (input : List ℕ) (extents : List Extent) (functions : List Function) (index : ℕ)
    → Relates (LookAlike scope.visible) (LookAlike (scope_at_end scope block).visible) (main_means (environment_before input extents functions index) block)

-- ---- constructs

-- each part of a lawful construct of `main`, predictors too, with each block number and each carried row
abbrev pub PartsSeeVisibleSlots : Type 0
PartsSeeVisibleSlots =
    (names : Names) (scope : Scope) (line : ℕ) (s : Statement) (construct : Construct)
    → construct_of line s ≡ Some construct → IsLawfulStatement names true scope s
    → (input : List ℕ) (extents : List Extent) (functions : List Function) (index : ℕ) (part : Part) (number : ℤ) (carried : Carried)
    → Relates (LookAlike scope.visible) (LookAlike scope.visible) (part_means (environment_before input extents functions index) construct part number carried)

-- the header of each lawful construct of `main`
abbrev pub HeadersSeeVisibleSlots : Type 0
HeadersSeeVisibleSlots =
    (names : Names) (scope : Scope) (line : ℕ) (s : Statement) (construct : Construct)
    → construct_of line s ≡ Some construct → IsLawfulStatement names true scope s
    → (input : List ℕ) (extents : List Extent) (functions : List Function) (index : ℕ)
    → Relates (LookAlike scope.visible) (LookAlike scope.visible) (header_means (environment_before input extents functions index) construct)

-- ---- what a part declares itself

-- two lists of slots are equally long, and agree on each slot that the part doesn't declare
pub record AgreeOutside (construct : Construct) (part : Part) (one other : List ℤ) : Type 0 where
  pub slot_count : length one ≡ length other
  pub slots : (slot : ℕ) → part_declares construct part slot ≡ false → slice_get one slot ≡ slice_get other slot

-- two states have the same output
abbrev pub HaveOneOutput : Relation
HaveOneOutput one other = one.output ≡ other.output

-- what a part of a lawful program's top construct finds in the slots that it declares makes no difference to it
abbrev pub PartsDeclareAnew : Type 0
PartsDeclareAnew =
    (p : Program) (index : ℕ) (construct : Construct) → IsLawful p → slice_get (constructs_in p.main) index ≡ Some construct
    → (part : Part) (input : List ℕ) (number : ℤ) (carried : Carried) (one other : List ℤ) → AgreeOutside construct part one other
    → (shared : ℕ → Bool) (memory : List ℤ) (stop : Option ℕ) (events : List Event)
    → GoAlike HaveOneOutput
    (perform shared memory stop (part_asks p construct part (block_setup input one number carried)) events)
    (perform shared memory stop (part_asks p construct part (block_setup input other number carried)) events)

-- Every lawful form sees visible slots alone.
use Rattle.std.proofs.Common.{◌≡◌, ℕ, zero, suc, Bool, true, false, List, [], ◌∷◌, ◌++◌, length, ℤ, pos, ◌+ℤ◌, refl}
use Rattle.std.specs.Prelude.{Result, Option, Some, None, ◌==◌, not, nat_lt, slice_get}
use Rattle.std.specs.Int.{int_gap}
use Rattle.std.proofs.lemmas.List.Elements.{Contains-append_right}
use Rattle.spf_ast.specs.declared.outcome.TrapKind.{TrapKind}
use Rattle.spf_ast.specs.declared.outcome.TrapKind.TheVariants as trap
use Rattle.spf_ast.specs.Word.{binary_words, sub_words}
use Rattle.spf_ast.specs.Carried.{Carried}
use Rattle.spf_ast.specs.Interaction.{Flow, Onward, Meaning, ◌>>◌}
use Rattle.spf_ast.specs.Syntax.{Expression, Number, Local, Len, Input, Load, Call, Neg, Binary, Arguments, no_more, argument}
use Rattle.spf_ast.specs.Syntax.{Condition, Compare, Both, Either, Not, FoldHead}
use Rattle.spf_ast.specs.Syntax.{Statement, Let, Assign, Store, Fill, Emit, Fail, If, For, While, Do, Fold, Pair, Break, Block, end, on_line, Function}
use Rattle.spf_ast.specs.Meaning.{Extent, checked, extent_in, cell_of, byte_of, cells_of, compares, for_turns, while_turns, fold_blocks, fold_range, max_blocks, Environment, count_of}
use Rattle.spf_ast.specs.Meaning.{expression_means, arguments_mean, condition_means, statement_means, block_means, main_means, function_means, own_slots, callable_before, call_before, environment_before}
use Rattle.spf_ast.specs.Lawful.{Names, Scope, behind, showing_fixed, in_turn, in_body, in_producer, in_consumer, IsLawfulExpression, AreLawfulArguments, IsLawfulCondition, IsLawfulStatement, IsLawfulBlock, shown_by, declared_in, scope_after, scope_at_end}
use Rattle.spf_ast_laws.specs.Agreement.{Relation, LookAlike}
use Rattle.spf_ast.proofs.GoingOn.{statement-goes, block-goes, statement-keeps, lawful-keeps}
use Rattle.spf_ast_laws.proofs.Slots.{IsWithin, cons_rest, within_midst, within_rest, look_narrower}
use Rattle.spf_ast_laws.proofs.Primitives.{Sees, SeesLeft, IsView, looking, sees-then, sees-before, sees-on, sees-turn, sees-left, sees-unbroken, sees-either, sees-less, sees-if, sees-fewer, sees-more, gives-sees, traps-sees, checked-sees, reads-sees, sets-sees, sets_row-sees, turns-sees, loads-sees, stores-sees, stores_each-sees, emits-sees, own-sees}

-- ---- calls

-- calls see no slots
pub record CallsSee (g : Environment) : Type 1 where
  pub call : (visible : List ℕ) (R : Relation) → IsView visible R → (f : ℕ) (given : List ℤ) → Sees R R (g.call f given)

-- a function sees no slots but its own
function-sees : (visible : List ℕ) (R : Relation) → IsView visible R → (g : Environment) (f : Option Function) (given : List ℤ) → Sees R R (function_means g f given)
function-sees visible R v g None given = gives-sees (pos 0)
function-sees visible R v g (Some f) given =
    own-sees visible R v (own_slots (length f.slots) given) (block_means g f.body >> expression_means g f.answer_line f.answer)

-- nor does a call of one of them
pub call-sees : (visible : List ℕ) (R : Relation) → IsView visible R → (input : List ℕ) (extents : List Extent) (functions : List Function) (index f : ℕ) (given : List ℤ) → Sees R R (call_before input extents functions index f given)
call-sees visible R v input extents functions zero f given = gives-sees (pos 0)
call-sees visible R v input extents functions (suc index) f given =
    sees-if (f == index)
    (function-sees visible R v
    (record { input = input; extents = extents; callable = callable_before functions index; call = call_before input extents functions index })
    (slice_get functions index) given)
    (call-sees visible R v input extents functions index f given)

-- the calls of any functions see no slots
pub calls-see : (input : List ℕ) (extents : List Extent) (functions : List Function) (index : ℕ) → CallsSee (environment_before input extents functions index)
calls-see input extents functions index = record { call = λ visible R v f given. call-sees visible R v input extents functions index f given }

-- ---- expressions and conditions

-- an expression, and arguments
mutual
  pub expression-sees : (g : Environment) → CallsSee g → (names : Names) (scope : Scope) (R : Relation) → IsView scope.visible R → (line : ℕ) (e : Expression) → IsLawfulExpression names scope e → Sees R R (expression_means g line e)
  expression-sees g calls names scope R v line (Number n) l = gives-sees n
  expression-sees g calls names scope R v line (Local slot) l = reads-sees scope.visible R v slot l
  expression-sees g calls names scope R v line Len l = gives-sees (pos (length g.input))
  expression-sees g calls names scope R v line (Input index) l =
      sees-then (expression-sees g calls names scope R v line index l) (λ i. checked-sees scope.visible R v line (byte_of g.input i))
  expression-sees g calls names scope R v line (Load array index) l =
      sees-then (expression-sees g calls names scope R v line index l.1)
      (λ i. sees-then (checked-sees scope.visible R v line (cell_of (extent_in g.extents array) i)) (λ cell. loads-sees cell))
  expression-sees g calls names scope R v line (Call f given) l =
      sees-if (g.callable f (count_of given))
      (sees-then (arguments-see g calls names scope R v line given l.1) (λ words. calls.call scope.visible R v f words))
      (gives-sees (pos 0))
  expression-sees g calls names scope R v line (Neg inner) l =
      sees-then (expression-sees g calls names scope R v line inner l) (λ x. checked-sees scope.visible R v line (sub_words (pos 0) x))
  expression-sees g calls names scope R v line (Binary op left right) l =
      sees-then (expression-sees g calls names scope R v line left l.0)
      (λ x. sees-then (expression-sees g calls names scope R v line right l.1) (λ y. checked-sees scope.visible R v line (binary_words op x y)))

  pub arguments-see : (g : Environment) → CallsSee g → (names : Names) (scope : Scope) (R : Relation) → IsView scope.visible R → (line : ℕ) (given : Arguments) → AreLawfulArguments names scope given → Sees R R (arguments_mean g line given)
  arguments-see g calls names scope R v line no_more l = gives-sees []
  arguments-see g calls names scope R v line (argument first rest) l =
      sees-then (expression-sees g calls names scope R v line first l.0)
      (λ value. sees-then (arguments-see g calls names scope R v line rest l.1) (λ others. gives-sees (value ∷ others)))

-- a condition
pub condition-sees : (g : Environment) → CallsSee g → (names : Names) (scope : Scope) (R : Relation) → IsView scope.visible R → (line : ℕ) (c : Condition) → IsLawfulCondition names scope c → Sees R R (condition_means g line c)
condition-sees g calls names scope R v line (Compare test a b) l =
    sees-then (expression-sees g calls names scope R v line a l.0)
    (λ x. sees-then (expression-sees g calls names scope R v line b l.1) (λ y. gives-sees (compares test x y)))
condition-sees g calls names scope R v line (Both c d) l =
    sees-then (condition-sees g calls names scope R v line c l.0) (λ holds. sees-if holds (condition-sees g calls names scope R v line d l.1) (gives-sees false))
condition-sees g calls names scope R v line (Either c d) l =
    sees-then (condition-sees g calls names scope R v line c l.0) (λ holds. sees-if holds (gives-sees true) (condition-sees g calls names scope R v line d l.1))
condition-sees g calls names scope R v line (Not c) l = sees-then (condition-sees g calls names scope R v line c l) (λ holds. gives-sees (not holds))

-- ---- loops

-- turns of a `for`, whose body sees its slot besides
pub for-sees : {visible : List ℕ} (count : ℕ) (i : ℤ) (slot : ℕ) (body : Meaning Flow) → SeesLeft (LookAlike (slot ∷ visible)) (LookAlike visible) (LookAlike visible) body → Sees (LookAlike visible) (LookAlike visible) (for_turns count i slot body)
for-sees zero i slot body b = gives-sees Onward
for-sees (suc count) i slot body b =
    sees-then turns-sees (λ u. sees-then (sets-sees slot i) (λ v. sees-turn b (for-sees count (i +ℤ pos 1) slot body b)))

-- turns of a `while`
pub while-sees : {visible : List ℕ} (line most : ℕ) (test : Meaning Bool) (body : Meaning Flow) → Sees (LookAlike visible) (LookAlike visible) test → SeesLeft (LookAlike visible) (LookAlike visible) (LookAlike visible) body → Sees (LookAlike visible) (LookAlike visible) (while_turns line most test body)
while-sees {visible} line zero test body t b = sees-then t (λ holds. sees-if holds (traps-sees visible (LookAlike visible) (looking visible) trap.Turns line) (gives-sees Onward))
while-sees line (suc most) test body t b =
    sees-then t (λ holds. sees-if holds (sees-then turns-sees (λ u. sees-turn b (while-sees line most test body t b))) (gives-sees Onward))

-- blocks of a fold, whose body sees its number and the carried value besides
pub blocks-see : {visible : List ℕ} (count : ℕ) (b : ℤ) (block : ℕ) (carried : List ℕ) (value : Carried) (body : Meaning Carried) → Sees (LookAlike (block ∷ (carried ++ visible))) (LookAlike visible) body → Sees (LookAlike visible) (LookAlike visible) (fold_blocks count b block carried value body)
blocks-see zero b block carried value body s = gives-sees value
blocks-see {visible} (suc count) b block carried value body s =
    sees-then turns-sees
    (λ u. sees-then (sets-sees block b)
    (λ v. sees-then (sets_row-sees carried value)
    (λ w. sees-then (sees-more (within_midst block carried visible) s)
    (λ next. blocks-see count (b +ℤ pos 1) block carried next body s))))

-- the blocks of a fold over its range
pub range-sees : {visible : List ℕ} (line : ℕ) (head : FoldHead) (start : Carried) (low high : ℤ) (body : Meaning Carried) → Sees (LookAlike (head.block ∷ (head.carried ++ visible))) (LookAlike visible) body → Sees (LookAlike visible) (LookAlike visible) (fold_range line head start low high body)
range-sees {visible} line head start low high body s =
    sees-if (nat_lt max_blocks (int_gap low high)) (traps-sees visible (LookAlike visible) (looking visible) trap.Blocks line)
    (blocks-see (int_gap low high) low head.block head.carried start body s)

-- ---- statements and blocks

-- an expression in a statement
pub operand-sees : (g : Environment) → CallsSee g → (names : Names) (scope : Scope) (line : ℕ) (e : Expression) → IsLawfulExpression names scope e → Sees (LookAlike scope.visible) (LookAlike scope.visible) (expression_means g line e)
operand-sees g calls names scope line e l = expression-sees g calls names scope (LookAlike scope.visible) (looking scope.visible) line e l

-- arguments in a statement
pub operands-see : (g : Environment) → CallsSee g → (names : Names) (scope : Scope) (line : ℕ) (given : Arguments) → AreLawfulArguments names scope given → Sees (LookAlike scope.visible) (LookAlike scope.visible) (arguments_mean g line given)
operands-see g calls names scope line given l = arguments-see g calls names scope (LookAlike scope.visible) (looking scope.visible) line given l

-- a condition in a statement
test-sees : (g : Environment) → CallsSee g → (names : Names) (scope : Scope) (line : ℕ) (c : Condition) → IsLawfulCondition names scope c → Sees (LookAlike scope.visible) (LookAlike scope.visible) (condition_means g line c)
test-sees g calls names scope line c l = condition-sees g calls names scope (LookAlike scope.visible) (looking scope.visible) line c l

-- what is checked in a statement
step-sees : {A : Type 0} (visible : List ℕ) (line : ℕ) (r : Result A TrapKind) → Sees (LookAlike visible) (LookAlike visible) (checked line r)
step-sees visible line r = checked-sees visible (LookAlike visible) (looking visible) line r

-- what is visible before a block still is at its end
pub end-grows : (scope : Scope) (block : Block) → IsWithin scope.visible (scope_at_end scope block).visible
end-grows scope end slot c = c
end-grows scope (on_line line first rest) slot c =
    end-grows (scope_after scope first) rest slot (Contains-append_right (shown_by first) scope.visible slot c)

-- a statement that can't break off, or breaks off where no more is visible
goes-left : {visible : List ℕ} {many : List ℕ} {form : Meaning Flow} → IsWithin visible many → Sees (LookAlike visible) (LookAlike many) form → SeesLeft (LookAlike visible) (LookAlike many) (LookAlike visible) form
goes-left {visible} {many} within f = sees-left (λ one other h. look_narrower visible many one other within h) f

-- a block that isn't in a loop never breaks off
unbroken-sees : (g : Environment) (names : Names) (in_main : Bool) (scope : Scope) (block : Block) → IsLawfulBlock names in_main scope block → scope.in_loop ≡ false
    → SeesLeft (LookAlike scope.visible) (LookAlike (scope_at_end scope block).visible) (LookAlike scope.visible) (block_means g block)
    → Sees (LookAlike scope.visible) (LookAlike (scope_at_end scope block).visible) (block_means g block)
unbroken-sees g names in_main scope block l out s = sees-unbroken (block-goes g block (lawful-keeps names in_main scope block l out)) s

-- the same slots
same_slots : (visible : List ℕ) → IsWithin visible visible
same_slots visible slot c = c

-- a statement, and statements in order
mutual
  pub statement-sees : (g : Environment) → CallsSee g → (names : Names) (in_main : Bool) (scope : Scope) (line : ℕ) (s : Statement) → IsLawfulStatement names in_main scope s → SeesLeft (LookAlike scope.visible) (LookAlike (scope_after scope s).visible) (LookAlike scope.visible) (statement_means g line s)
  statement-sees g calls names in_main scope line (Let slot value) l =
      goes-left (cons_rest slot scope.visible)
      (sees-then (operand-sees g calls names scope line value l.0) (λ word. sets-sees slot word))
  statement-sees g calls names in_main scope line (Assign slot value) l =
      goes-left (same_slots scope.visible)
      (sees-then (operand-sees g calls names scope line value l.2) (λ word. sees-fewer (cons_rest slot scope.visible) (sets-sees slot word)))
  statement-sees g calls names in_main scope line (Store array index value) l =
      goes-left (same_slots scope.visible)
      (sees-then (operand-sees g calls names scope line index l.1)
      (λ i. sees-then (operand-sees g calls names scope line value l.2)
      (λ word. sees-then (step-sees scope.visible line (cell_of (extent_in g.extents array) i))
      (λ cell. stores-sees cell word))))
  statement-sees g calls names in_main scope line (Fill array low high value) l =
      goes-left (same_slots scope.visible)
      (sees-then (operand-sees g calls names scope line low l.1)
      (λ i. sees-then (operand-sees g calls names scope line high l.2)
      (λ j. sees-then (operand-sees g calls names scope line value l.3)
      (λ word. sees-then (step-sees scope.visible line (cells_of (extent_in g.extents array) i j))
      (λ cells. stores_each-sees cells.0 cells.1 word)))))
  statement-sees g calls names in_main scope line (Emit value) l =
      goes-left (same_slots scope.visible)
      (sees-then (operand-sees g calls names scope line value l.1) (λ word. emits-sees line word))
  statement-sees g calls names in_main scope line (Fail number) l =
      goes-left (same_slots scope.visible)
      (traps-sees scope.visible (LookAlike scope.visible) (looking scope.visible) (trap.Fail number) line)
  statement-sees g calls names in_main scope line (If test a b) l =
      sees-before (test-sees g calls names scope line test l.0)
      (λ holds. sees-either holds
      (sees-less (end-grows scope a) (same_slots scope.visible) (block-sees g calls names in_main scope a l.1))
      (sees-less (end-grows (behind (declared_in a) scope) b) (same_slots scope.visible) (block-sees g calls names in_main (behind (declared_in a) scope) b l.2)))
  statement-sees g calls names in_main scope line (For slot low high body) l =
      let inner = in_turn (behind 1 (showing_fixed slot scope)) in
      goes-left (same_slots scope.visible)
      (sees-then (operand-sees g calls names scope line low l.0)
      (λ i. sees-then (operand-sees g calls names scope line high l.1)
      (λ j. for-sees (int_gap i j) i slot (block_means g body)
      (sees-less (λ k c. end-grows inner body k (cons_rest slot scope.visible k c)) (cons_rest slot scope.visible) (block-sees g calls names in_main inner body l.3)))))
  statement-sees g calls names in_main scope line (While test most body) l =
      goes-left (same_slots scope.visible)
      (while-sees line most (condition_means g line test) (block_means g body)
      (test-sees g calls names scope line test l.0)
      (sees-less (end-grows (in_turn scope) body) (same_slots scope.visible) (block-sees g calls names in_main (in_turn scope) body l.2)))
  statement-sees g calls names in_main scope line (Do f given) l =
      goes-left (same_slots scope.visible)
      (sees-then (operand-sees g calls names scope line (Call f given) l) (λ word. gives-sees Onward))
  statement-sees g calls names in_main scope line (Fold head body) l =
      let inner = in_body scope head.carried head.block in
      goes-left (within_rest head.carried scope.visible)
      (sees-then (operands-see g calls names scope line head.start l.0)
      (λ start. sees-then (operand-sees g calls names scope line head.low l.1)
      (λ low. sees-then (operand-sees g calls names scope line head.high l.2)
      (λ high. sees-then
      (range-sees line head start low high (block_means g body >> arguments_mean g head.next_line head.next)
      (sees-fewer
      (λ k c. end-grows inner body k (cons_rest head.block (head.carried ++ scope.visible) k (within_rest head.carried scope.visible k c)))
      (sees-then (unbroken-sees g names in_main inner body l.6 refl (block-sees g calls names in_main inner body l.6))
      (λ u. operands-see g calls names (scope_at_end inner body) head.next_line head.next l.7))))
      (λ last. sets_row-sees head.carried last)))))
  statement-sees g calls names in_main scope line (Pair head producer consumer) l =
      let before = in_producer scope head.carried in
      let after = in_consumer scope head.carried producer in
      goes-left (within_rest head.carried scope.visible)
      (sees-then (unbroken-sees g names in_main before producer l.1 refl (block-sees g calls names in_main before producer l.1))
      (λ u. sees-then (sees-fewer (end-grows before producer) (operands-see g calls names (scope_at_end before producer) head.give_line head.give l.2))
      (λ given. sees-then (sets_row-sees head.carried given)
      (λ v. sees-then (sees-fewer (end-grows after consumer) (unbroken-sees g names in_main after consumer l.4 refl (block-sees g calls names in_main after consumer l.4))) (λ w. gives-sees Onward)))))
  statement-sees g calls names in_main scope line Break l = record { alike = λ one other h. h }

  pub block-sees : (g : Environment) → CallsSee g → (names : Names) (in_main : Bool) (scope : Scope) (block : Block) → IsLawfulBlock names in_main scope block → SeesLeft (LookAlike scope.visible) (LookAlike (scope_at_end scope block).visible) (LookAlike scope.visible) (block_means g block)
  block-sees g calls names in_main scope end l = goes-left (same_slots scope.visible) (gives-sees Onward)
  block-sees g calls names in_main scope (on_line line first rest) l =
      sees-on (statement-sees g calls names in_main scope line first l.0)
      (sees-less (same_slots (scope_at_end (scope_after scope first) rest).visible) (within_rest (shown_by first) scope.visible)
      (block-sees g calls names in_main (scope_after scope first) rest l.1))

-- a block that isn't in a loop
pub part-block-sees : (g : Environment) → CallsSee g → (names : Names) (in_main : Bool) (scope : Scope) (block : Block) → IsLawfulBlock names in_main scope block → scope.in_loop ≡ false → Sees (LookAlike scope.visible) (LookAlike (scope_at_end scope block).visible) (block_means g block)
part-block-sees g calls names in_main scope block l out = unbroken-sees g names in_main scope block l out (block-sees g calls names in_main scope block l)

-- the statements of `main`
pub main-sees : (g : Environment) → CallsSee g → (names : Names) (scope : Scope) (block : Block) → IsLawfulBlock names true scope block → scope.in_loop ≡ false → Sees (LookAlike scope.visible) (LookAlike (scope_at_end scope block).visible) (main_means g block)
main-sees g calls names scope end l out = gives-sees tt
main-sees g calls names scope (on_line line first rest) l out =
    sees-then (sees-unbroken (statement-goes g line first (statement-keeps names true scope first l.0 out)) (statement-sees g calls names true scope line first l.0))
    (λ u. main-sees g calls names (scope_after scope first) rest l.1 out)

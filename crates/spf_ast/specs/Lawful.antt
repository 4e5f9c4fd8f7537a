-- Lawful programs: every name, array, function and slot is declared, and every slot is used only where its declaration shows it.
use Rattle.std.specs.Prelude.{
  ◌≡◌,
  Bool,
  true,
  false,
  ◌⊎◌,
  ℕ,
  ◌+◌,
  ◌<◌,
  ◌≤◌,
  ◌^◌,
  List,
  [],
  ◌∷◌,
  ◌++◌,
  length,
  map,
  Some,
  IfSome,
  ℤ,
  pos,
  ◌≤ℤ◌,
  ◌<ℤ◌,
  codes,
  slice_get,
}
use Rattle.std.specs.List.{All, Contains, range_with_len}
use Rattle.spf_ast.specs.Syntax.{
  Expression,
  Number,
  Local,
  Len,
  Input,
  Load,
  Call,
  Neg,
  Binary,
  Arguments,
  no_more,
  argument,
  Condition,
  Compare,
  Both,
  Either,
  Not,
  Predictor,
  By,
  Host,
}
use Rattle.spf_ast.specs.Syntax.{FoldHead, PairHead, Statement, Let, Assign, Store, Fill, Emit, Fail, If, For, While, Do, Fold, Pair, Break, Block, end, on_line, Array, Function, Program}
use Rattle.spf_ast.specs.Meaning.{count_of}
use Rattle.spf_ast.specs.Interaction.{State}
use Rattle.spf_ast.specs.Carried.{IsWidth}
use Rattle.spf_ast.specs.Size.{IsWithinLimits}

-- ---- names and numbers

-- `A` to `Z`, `a` to `z` and `_`
abbrev pub IsLetter : ℕ → Type 0
IsLetter b = ((65 ≤ b) × (b ≤ 90)) ⊎ ((97 ≤ b) × (b ≤ 122)) ⊎ (b ≡ 95)

-- a letter or a digit
abbrev pub IsWordByte : ℕ → Type 0
IsWordByte b = IsLetter b ⊎ ((48 ≤ b) × (b ≤ 57))

-- the words that aren't names
abbrev pub reserved_words : List (List ℕ)
reserved_words =
    codes "array" ∷ codes "fn" ∷ codes "main" ∷ codes "let" ∷ codes "fill" ∷ codes "emit" ∷ codes "fail" ∷ codes "if"
    ∷ codes "else" ∷ codes "for" ∷ codes "in" ∷ codes "while" ∷ codes "max" ∷ codes "specfold" ∷ codes "spec"
    ∷ codes "predict" ∷ codes "host" ∷ codes "give" ∷ codes "next" ∷ codes "return" ∷ codes "len" ∷ codes "input"
    ∷ codes "break" ∷ codes "version" ∷ []

-- a letter, and then letters and digits
abbrev pub IsWord : List ℕ → Type 0
IsWord [] = ⊥
IsWord (b ∷ bytes) = IsLetter b × All IsWordByte bytes

-- a name is a word that isn't reserved
abbrev pub IsName : List ℕ → Type 0
IsName bytes = IsWord bytes × (Contains reserved_words bytes → ⊥)

-- a number that a text can hold: from 0 to 2^63 - 1
abbrev pub IsNumber : ℤ → Type 0
IsNumber n = (pos 0 ≤ℤ n) × (n <ℤ pos (2 ^ 63))

-- all different
abbrev pub AreDifferent : List (List ℕ) → Type 0
AreDifferent [] = Unit {0}
AreDifferent (x ∷ xs) = (Contains xs x → ⊥) × AreDifferent xs

-- ---- scopes

-- what a form may name: the version of the language, how many arrays there are, the functions with the index before
-- which they may be called, the names of the arrays and functions, and the names of its own slots
pub record Names : Type 0 where
  pub version : ℕ
  pub arrays : ℕ
  pub functions : List Function
  pub index : ℕ
  pub taken : List (List ℕ)
  pub slots : List (List ℕ)

-- at a point of the text: the slots that may be used, those of them that may not be assigned, the slot of the next
-- declaration, and whether a `break` may stand there: within a loop, and in the same part of the same construct
pub record Scope : Type 0 where
  pub visible : List ℕ
  pub fixed : List ℕ
  pub next : ℕ
  pub in_loop : Bool

-- the scope after `count` declarations that can't be used any more
abbrev pub behind : ℕ → Scope → Scope
behind count scope = record scope { next = scope.next + count }

-- the scope in which this slot may also be used
abbrev pub showing : ℕ → Scope → Scope
showing slot scope = record scope { visible = slot ∷ scope.visible }

-- the scope in which this slot may also be used, but not assigned
abbrev pub showing_fixed : ℕ → Scope → Scope
showing_fixed slot scope = record scope { visible = slot ∷ scope.visible; fixed = slot ∷ scope.fixed }

-- the scope in which these slots may also be used, but not assigned
abbrev pub showing_all_fixed : List ℕ → Scope → Scope
showing_all_fixed slots scope = record scope { visible = slots ++ scope.visible; fixed = slots ++ scope.fixed }

-- the scope in a loop
abbrev pub in_turn : Scope → Scope
in_turn scope = record scope { in_loop = true }

-- the scope in a part of a construct: no `break` of it ends a loop around the construct
abbrev pub in_part : Scope → Scope
in_part scope = record scope { in_loop = false }

-- the slot's name is a name of its own: no array, no function and no slot that may be used here has it
abbrev pub IsNew : Names → Scope → ℕ → Type 0
IsNew names scope slot =
    IfSome (slice_get names.slots slot) (λ x. (Contains names.taken x → ⊥) × All (λ other. slice_get names.slots other ≡ Some x → ⊥) scope.visible)

-- the next declaration has this slot, and its name is new
abbrev pub Declares : Names → Scope → ℕ → Type 0
Declares names scope slot = (slot ≡ scope.next) × IsNew names scope slot

-- the next declarations have these slots, and the name of each is new
abbrev pub DeclaresEach : Names → Scope → List ℕ → Type 0
DeclaresEach names scope [] = Unit {0}
DeclaresEach names scope (slot ∷ slots) = Declares names scope slot × DeclaresEach names (behind 1 (showing slot scope)) slots

-- the scope after these declarations, in which they may be used
abbrev pub showing_each : List ℕ → Scope → Scope
showing_each [] scope = scope
showing_each (slot ∷ slots) scope = showing_each slots (behind 1 (showing slot scope))

-- a function that stands before this index has `count` parameters
abbrev pub IsCallable : Names → ℕ → ℕ → Type 0
IsCallable names f count = (f < names.index) × IfSome (slice_get names.functions f) (λ function. function.params ≡ count)

-- ---- forms

abbrev mutual
  -- an expression is lawful in a scope
  pub IsLawfulExpression : Names → Scope → Expression → Type 0
  IsLawfulExpression names scope (Number n) = IsNumber n
  IsLawfulExpression names scope (Local slot) = Contains scope.visible slot
  IsLawfulExpression names scope Len = Unit {0}
  IsLawfulExpression names scope (Input index) = IsLawfulExpression names scope index
  IsLawfulExpression names scope (Load array index) = (array < names.arrays) × IsLawfulExpression names scope index
  IsLawfulExpression names scope (Call f given) = IsCallable names f (count_of given) × AreLawfulArguments names scope given
  IsLawfulExpression names scope (Neg inner) = IsLawfulExpression names scope inner
  IsLawfulExpression names scope (Binary op a b) = IsLawfulExpression names scope a × IsLawfulExpression names scope b

  -- arguments are lawful where each is
  pub AreLawfulArguments : Names → Scope → Arguments → Type 0
  AreLawfulArguments names scope no_more = Unit {0}
  AreLawfulArguments names scope (argument first rest) = IsLawfulExpression names scope first × AreLawfulArguments names scope rest

-- a condition
abbrev pub IsLawfulCondition : Names → Scope → Condition → Type 0
IsLawfulCondition names scope (Compare test a b) = IsLawfulExpression names scope a × IsLawfulExpression names scope b
IsLawfulCondition names scope (Both c d) = IsLawfulCondition names scope c × IsLawfulCondition names scope d
IsLawfulCondition names scope (Either c d) = IsLawfulCondition names scope c × IsLawfulCondition names scope d
IsLawfulCondition names scope (Not c) = IsLawfulCondition names scope c

-- a predictor of one part of a row
abbrev pub IsLawfulPredictor : Names → Scope → Predictor → Type 0
IsLawfulPredictor names scope (By guess) = IsLawfulExpression names scope guess
IsLawfulPredictor names scope (Host number) = number < 2 ^ 63

-- the predictors of a row's parts
abbrev pub AreLawfulPredictors : Names → Scope → List Predictor → Type 0
AreLawfulPredictors names scope [] = Unit {0}
AreLawfulPredictors names scope (first ∷ rest) = IsLawfulPredictor names scope first × AreLawfulPredictors names scope rest

-- the lists of a fold's parts are as long as its names, which are one to four
pub record FoldHasOneWidth (head : FoldHead) : Type 0 where
  pub width : IsWidth (length head.carried)
  pub start : count_of head.start ≡ length head.carried
  pub predict : length head.predict ≡ length head.carried
  pub next : count_of head.next ≡ length head.carried

-- and those of a pair's parts
pub record PairHasOneWidth (head : PairHead) : Type 0 where
  pub width : IsWidth (length head.carried)
  pub give : count_of head.give ≡ length head.carried
  pub predict : length head.predict ≡ length head.carried

abbrev mutual
  -- how many slots a statement declares
  pub declared : Statement → ℕ
  declared (Let slot value) = 1
  declared (If test a b) = declared_in a + declared_in b
  declared (For slot low high body) = 1 + declared_in body
  declared (While test most body) = declared_in body
  declared (Fold head body) = length head.carried + 1 + declared_in body
  declared (Pair head producer consumer) = length head.carried + declared_in producer + declared_in consumer
  declared _ = 0

  -- how many slots a block declares
  pub declared_in : Block → ℕ
  declared_in end = 0
  declared_in (on_line line first rest) = declared first + declared_in rest

-- the slots that may be used after a statement, and weren't before it
abbrev pub shown_by : Statement → List ℕ
shown_by (Let slot value) = slot ∷ []
shown_by (Fold head body) = head.carried
shown_by (Pair head producer consumer) = head.carried
shown_by _ = []

-- the scope after a statement
abbrev pub scope_after : Scope → Statement → Scope
scope_after scope s = record scope { visible = shown_by s ++ scope.visible; next = scope.next + declared s }

-- the scope at the end of a block
abbrev pub scope_at_end : Scope → Block → Scope
scope_at_end scope end = scope
scope_at_end scope (on_line line first rest) = scope_at_end (scope_after scope first) rest

-- the scope of a fold's predictors: its block number may be used
abbrev pub in_predictor : Scope → ℕ → Scope
in_predictor scope block = showing_fixed block scope

-- the scope of a fold's body: its block number and its carried row may be used, and neither may be assigned
abbrev pub in_body : Scope → List ℕ → ℕ → Scope
in_body scope carried block = in_part (behind (length carried + 1) (showing_fixed block (showing_all_fixed carried scope)))

-- the scope of a pair's producer, which doesn't see the carried row
abbrev pub in_producer : Scope → List ℕ → Scope
in_producer scope carried = in_part (behind (length carried) scope)

-- the scope of a pair's consumer: the carried row may be used, and not assigned
abbrev pub in_consumer : Scope → List ℕ → Block → Scope
in_consumer scope carried producer = in_part (behind (length carried + declared_in producer) (showing_all_fixed carried scope))

abbrev mutual
  -- a statement is lawful in a scope; only `main` may emit
  pub IsLawfulStatement : Names → Bool → Scope → Statement → Type 0
  IsLawfulStatement names in_main scope (Let slot value) = IsLawfulExpression names scope value × Declares names scope slot
  IsLawfulStatement names in_main scope (Assign slot value) =
      Contains scope.visible slot × (Contains scope.fixed slot → ⊥) × IsLawfulExpression names scope value
  IsLawfulStatement names in_main scope (Store array index value) =
      (array < names.arrays) × IsLawfulExpression names scope index × IsLawfulExpression names scope value
  IsLawfulStatement names in_main scope (Fill array low high value) =
      (array < names.arrays) × IsLawfulExpression names scope low × IsLawfulExpression names scope high × IsLawfulExpression names scope value
  IsLawfulStatement names in_main scope (Emit value) = (in_main ≡ true) × IsLawfulExpression names scope value
  IsLawfulStatement names in_main scope (Fail number) = number < 2 ^ 8
  IsLawfulStatement names in_main scope (If test a b) =
      IsLawfulCondition names scope test × IsLawfulBlock names in_main scope a × IsLawfulBlock names in_main (behind (declared_in a) scope) b
  IsLawfulStatement names in_main scope (For slot low high body) =
      IsLawfulExpression names scope low × IsLawfulExpression names scope high × Declares names scope slot
      × IsLawfulBlock names in_main (in_turn (behind 1 (showing_fixed slot scope))) body
  IsLawfulStatement names in_main scope (While test most body) =
      IsLawfulCondition names scope test × (most < 2 ^ 63) × IsLawfulBlock names in_main (in_turn scope) body
  IsLawfulStatement names in_main scope (Do f given) = IsCallable names f (count_of given) × AreLawfulArguments names scope given
  IsLawfulStatement names in_main scope (Fold head body) =
      AreLawfulArguments names scope head.start
      × IsLawfulExpression names scope head.low
      × IsLawfulExpression names scope head.high
      × DeclaresEach names scope head.carried
      × Declares names (showing_each head.carried scope) head.block
      × AreLawfulPredictors names (in_predictor scope head.block) head.predict
      × IsLawfulBlock names in_main (in_body scope head.carried head.block) body
      × AreLawfulArguments names (scope_at_end (in_body scope head.carried head.block) body) head.next
      × FoldHasOneWidth head
  IsLawfulStatement names in_main scope (Pair head producer consumer) =
      DeclaresEach names scope head.carried
      × IsLawfulBlock names in_main (in_producer scope head.carried) producer
      × AreLawfulArguments names (scope_at_end (in_producer scope head.carried) producer) head.give
      × AreLawfulPredictors names scope head.predict
      × IsLawfulBlock names in_main (in_consumer scope head.carried producer) consumer
      × PairHasOneWidth head
  IsLawfulStatement names in_main scope Break = (names.version ≡ 2) × (scope.in_loop ≡ true)

  -- a block is lawful where each statement is, in the scope after the ones before it
  pub IsLawfulBlock : Names → Bool → Scope → Block → Type 0
  IsLawfulBlock names in_main scope end = Unit {0}
  IsLawfulBlock names in_main scope (on_line line first rest) =
      IsLawfulStatement names in_main scope first × IsLawfulBlock names in_main (scope_after scope first) rest

-- ---- programs

-- the names of the arrays and functions, in order
abbrev pub names_taken : Program → List (List ℕ)
names_taken p = map (λ (a : Array). a.name) p.arrays ++ map (λ (f : Function). f.name) p.functions

-- what the function at this index, or `main` after all of them, may name
abbrev pub names_at : Program → ℕ → List (List ℕ) → Names
names_at p index slots =
    record { version = p.version; arrays = length p.arrays; functions = p.functions; index = index; taken = names_taken p; slots = slots }

-- the scope in which a function's body begins: its parameters may be used, and assigned
abbrev pub parameters : ℕ → Scope
parameters count = record { visible = range_with_len 0 count; fixed = []; next = count; in_loop = false }

-- the function at this index is lawful
pub record IsLawfulFunction (p : Program) (index : ℕ) (f : Function) : Type 0 where
  pub names : All IsName f.slots
  pub parameters_are_new : (slot : ℕ) → slot < f.params → IsNew (names_at p index f.slots) (parameters slot) slot
  pub body : IsLawfulBlock (names_at p index f.slots) false (parameters f.params) f.body
  pub answer : IsLawfulExpression (names_at p index f.slots) (scope_at_end (parameters f.params) f.body) f.answer
  pub slots : length f.slots ≡ f.params + declared_in f.body

-- the scope in which `main` begins: nothing is declared
abbrev pub nothing_declared : Scope
nothing_declared = parameters 0

-- every name, array, function and slot of a program is declared, and is used only where its declaration shows it
pub record IsScoped (p : Program) : Type 0 where
  pub taken_are_names : All IsName (names_taken p)
  pub taken_are_different : AreDifferent (names_taken p)
  pub sizes : All (λ (a : Array). IsNumber a.factor × IsNumber a.offset) p.arrays
  pub functions : (index : ℕ) → IfSome (slice_get p.functions index) (IsLawfulFunction p index)
  pub slots_are_names : All IsName p.slots
  pub main : IsLawfulBlock (names_at p (length p.functions) p.slots) true nothing_declared p.main
  pub slots : length p.slots ≡ declared_in p.main
  pub version : (p.version ≡ 1) ⊎ (p.version ≡ 2)

-- a program is lawful: it is scoped, and it keeps the limits of the language
pub record IsLawful (p : Program) : Type 0 where
  pub scoped : IsScoped p
  pub limits : IsWithinLimits p

-- ---- states

-- two states agree on these slots: they hold the same words there, and the same output
pub record Agree (visible : List ℕ) (one other : State) : Type 0 where
  pub slots : (slot : ℕ) → Contains visible slot → slice_get one.slots slot ≡ slice_get other.slots slot
  pub output : one.output ≡ other.output

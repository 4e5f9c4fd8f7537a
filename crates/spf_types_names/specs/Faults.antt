-- The faults of a raw program, in the order of its text: at a node in the order of `TypeFault`, and a node before its parts.
use Rattle.std.specs.Prelude.{
  ℕ,
  ◌+◌,
  Bool,
  true,
  false,
  ◌||◌,
  not,
  if◌then◌else◌,
  nat_eq,
  nat_lt,
  List,
  [],
  ◌∷◌,
  ◌++◌,
  length,
  map,
  Option,
  Some,
  None,
  ℤ,
  pos,
  negsuc,
}
use Rattle.std.specs.Option.{is_some}
use Rattle.std.specs.Str.{bytes_eq}
use Rattle.spf_ast.specs.Syntax.{Array}
use Rattle.spf_ast.specs.RawSyntax.{
  RawExpression,
  Number,
  Local,
  Len,
  Input,
  Load,
  Call,
  Neg,
  Binary,
  Compare,
  Both,
  Either,
  Not,
  RawArguments,
  no_more,
  argument,
}
use Rattle.spf_ast.specs.RawSyntax.{
  RawPredictor,
  By,
  Host,
  RawFoldHead,
  RawPairHead,
  RawStatement,
  Let,
  Assign,
  Store,
  Fill,
  Emit,
  Fail,
  If,
  For,
  While,
  Do,
  Fold,
  Pair,
  Break,
  RawBlock,
  end,
  on_line,
  RawFunction,
  RawProgram,
}
use Rattle.spf_types_names.specs.declared.fault.TypeFault.{TypeFault}
use Rattle.spf_types_names.specs.declared.fault.TypeFault.TheVariants.{UnknownName, Twice, Arity, Kind, CallsLater, Misplaced, MisplacedBreak}
use Rattle.spf_types_names.specs.declared.globals.Outer.{Outer}
use Rattle.spf_types_names.specs.declared.globals.Outer.TheVariants as outer
use Rattle.spf_types_names.specs.Names.{has}
use Rattle.spf_types_names.specs.Globals.{Globals, globals_of, global_named, params_of}

-- ---- faults and scopes

-- a fault, and the line at which it is
pub record Fault : Type 0 where
  pub what : TypeFault
  pub line : ℕ

-- this fault
abbrev pub at : TypeFault → ℕ → List Fault
at what line = record { what = what; line = line } ∷ []

-- this fault where the test holds
abbrev pub when : Bool → TypeFault → ℕ → List Fault
when true what line = at what line
when false what line = []

-- a local that may be used, and whether it may not be assigned
pub record Visible : Type 0 where
  pub name : List ℕ
  pub fixed : Bool

-- the locals that may be used, the last one first
abbrev pub Scope : Type 0
Scope = List Visible

-- the scope in which this local may also be used
abbrev pub showing : List ℕ → Scope → Scope
showing x scope = record { name = x; fixed = false } ∷ scope

-- the scope in which this local may also be used, but not assigned
abbrev pub showing_fixed : List ℕ → Scope → Scope
showing_fixed x scope = record { name = x; fixed = true } ∷ scope

-- the scope in which these locals may also be used, declared from left to right; `fixed` tells whether they may not be assigned
abbrev pub showing_each : Bool → Scope → List (List ℕ) → Scope
showing_each fixed scope [] = scope
showing_each fixed scope (x ∷ xs) = showing_each fixed (record { name = x; fixed = fixed } ∷ scope) xs

-- whether the local of this name may not be assigned; none where no local has it
abbrev pub local_named : Scope → List ℕ → Option Bool
local_named [] x = None
local_named (v ∷ scope) x = if bytes_eq v.name x then Some v.fixed else local_named scope x

-- where a form stands: what is visible in the whole program, the index before which functions may be called, whether it
-- is in `main`, and whether it is in a loop: of the same function, of the same part of a construct, or of `main` outside
-- of constructs
pub record Setting : Type 0 where
  pub globals : Globals
  pub index : ℕ
  pub in_main : Bool
  pub in_loop : Bool

-- the body of a loop there
abbrev pub in_turn : Setting → Setting
in_turn here = record here { in_loop = true }

-- a part of a construct there: no `break` of it ends a loop around the construct
abbrev pub in_part : Setting → Setting
in_part here = record here { in_loop = false }

-- ---- names

-- a name that isn't what is wanted: it is of another kind, or unknown
abbrev pub misuse : Setting → Scope → List ℕ → TypeFault
misuse here scope x = if is_some (local_named scope x) || is_some (global_named here.globals x) then Kind else UnknownName

-- a name that is declared
abbrev pub declared_faults : Setting → Scope → ℕ → List ℕ → List Fault
declared_faults here scope line x = when (is_some (local_named scope x) || is_some (global_named here.globals x)) Twice line

-- names that are declared from left to right, each where the ones before it may be used
abbrev pub each_declared_faults : Setting → Scope → ℕ → List (List ℕ) → List Fault
each_declared_faults here scope line [] = []
each_declared_faults here scope line (x ∷ xs) =
    declared_faults here scope line x ++ each_declared_faults here (showing x scope) line xs

-- a name that is used as a number
abbrev pub used_faults : Setting → Scope → ℕ → List ℕ → List Fault
used_faults here scope line x = if is_some (local_named scope x) then [] else at (misuse here scope x) line

-- a name that is assigned
abbrev pub assigned_faults : Setting → Scope → ℕ → List ℕ → List Fault
assigned_faults here scope line x = assigned (local_named scope x)
  where
    assigned : Option Bool → List Fault
    assigned (Some fixed) = when fixed Kind line
    assigned None = at (misuse here scope x) line

-- a name that is indexed
abbrev pub indexed_faults : Setting → Scope → ℕ → List ℕ → List Fault
indexed_faults here scope line x = indexed (global_named here.globals x)
  where
    indexed : Option Outer → List Fault
    indexed (Some (outer.Array index)) = []
    indexed _ = at (misuse here scope x) line

-- a name that is called with `count` arguments
abbrev pub callee_faults : Setting → Scope → ℕ → List ℕ → ℕ → List Fault
callee_faults here scope line x count = called (global_named here.globals x)
  where
    called : Option Outer → List Fault
    called (Some (outer.Function index)) = when (not (nat_eq count (params_of here.globals index))) Arity line
    called _ = at (misuse here scope x) line

-- a call of a function that doesn't stand before the index
abbrev pub later_faults : Setting → ℕ → List ℕ → List Fault
later_faults here line x = later (global_named here.globals x)
  where
    later : Option Outer → List Fault
    later (Some (outer.Function index)) = when (not (nat_lt index here.index)) CallsLater line
    later _ = []

-- a call of a name with `count` arguments, which has these faults of its kind
abbrev pub called_faults : Setting → Scope → ℕ → List ℕ → ℕ → List Fault → List Fault
called_faults here scope line x count kind = callee_faults here scope line x count ++ (kind ++ later_faults here line x)

-- ---- expressions

-- what an expression gives
pub data Value : Type 0 where
  a_number : Value
  a_truth : Value

-- a number where a truth value is wanted
abbrev pub no_truth : Value → ℕ → List Fault
no_truth a_number line = []
no_truth a_truth line = at Kind line

-- a truth value where a number is wanted
abbrev pub no_number : Value → ℕ → List Fault
no_number a_number line = at Kind line
no_number a_truth line = []

-- how many arguments
abbrev pub count_of : RawArguments → ℕ
count_of no_more = 0
count_of (argument first rest) = count_of rest + 1

abbrev mutual
  -- an expression where this is wanted
  pub expression_faults : Setting → Scope → ℕ → Value → RawExpression → List Fault
  expression_faults here scope line wanted (Number n) = no_truth wanted line
  expression_faults here scope line wanted (Local x) = used_faults here scope line x ++ no_truth wanted line
  expression_faults here scope line wanted Len = no_truth wanted line
  expression_faults here scope line wanted (Input index) = no_truth wanted line ++ expression_faults here scope line a_number index
  expression_faults here scope line wanted (Load a index) =
      indexed_faults here scope line a ++ (no_truth wanted line ++ expression_faults here scope line a_number index)
  expression_faults here scope line wanted (Call f given) =
      called_faults here scope line f (count_of given) (no_truth wanted line) ++ arguments_faults here scope line given
  expression_faults here scope line wanted (Neg inner) = no_truth wanted line ++ expression_faults here scope line a_number inner
  expression_faults here scope line wanted (Binary op a b) =
      no_truth wanted line ++ (expression_faults here scope line a_number a ++ expression_faults here scope line a_number b)
  expression_faults here scope line wanted (Compare test a b) =
      no_number wanted line ++ (expression_faults here scope line a_number a ++ expression_faults here scope line a_number b)
  expression_faults here scope line wanted (Both a b) =
      no_number wanted line ++ (expression_faults here scope line a_truth a ++ expression_faults here scope line a_truth b)
  expression_faults here scope line wanted (Either a b) =
      no_number wanted line ++ (expression_faults here scope line a_truth a ++ expression_faults here scope line a_truth b)
  expression_faults here scope line wanted (Not inner) = no_number wanted line ++ expression_faults here scope line a_truth inner

  -- arguments
  pub arguments_faults : Setting → Scope → ℕ → RawArguments → List Fault
  arguments_faults here scope line no_more = []
  arguments_faults here scope line (argument first rest) =
      expression_faults here scope line a_number first ++ arguments_faults here scope line rest

-- a predictor
abbrev pub predictor_faults : Setting → Scope → ℕ → RawPredictor → List Fault
predictor_faults here scope line (By guess) = expression_faults here scope line a_number guess
predictor_faults here scope line (Host number) = []

-- the predictors of a row's parts
abbrev pub predictors_faults : Setting → Scope → ℕ → List RawPredictor → List Fault
predictors_faults here scope line [] = []
predictors_faults here scope line (first ∷ rest) = predictor_faults here scope line first ++ predictors_faults here scope line rest

-- ---- statements

-- whether a number is from 0 to 255
abbrev pub is_byte : ℤ → Bool
is_byte (pos n) = nat_lt n 256
is_byte (negsuc n) = false

-- the scope after a statement
abbrev pub scope_after : Scope → RawStatement → Scope
scope_after scope (Let x value) = showing x scope
scope_after scope (Fold head body) = showing_each false scope head.carried
scope_after scope (Pair head producer consumer) = showing_each false scope head.carried
scope_after scope _ = scope

-- the scope at the end of a block
abbrev pub scope_at_end : Scope → RawBlock → Scope
scope_at_end scope end = scope
scope_at_end scope (on_line line first rest) = scope_at_end (scope_after scope first) rest

-- the scope of a fold's body
abbrev pub in_body : Scope → List (List ℕ) → List ℕ → Scope
in_body scope carried block = showing_fixed block (showing_each true scope carried)

-- the names of a fold, which are declared at the fold
abbrev pub names_faults : Setting → Scope → ℕ → RawFoldHead → List Fault
names_faults here scope line head =
    each_declared_faults here scope line head.carried
    ++ declared_faults here (showing_each false scope head.carried) line head.block

-- a list of a construct's parts that isn't as long as its names
abbrev pub width_faults : ℕ → ℕ → ℕ → List Fault
width_faults line width count = when (not (nat_eq count width)) Arity line

-- the lists of a fold's parts
abbrev pub fold_widths_faults : ℕ → RawFoldHead → List Fault
fold_widths_faults line head =
    width_faults line (length head.carried) (count_of head.start)
    ++ (width_faults line (length head.carried) (length head.predict) ++ width_faults line (length head.carried) (count_of head.next))

-- the lists of a pair's parts
abbrev pub pair_widths_faults : ℕ → RawPairHead → List Fault
pair_widths_faults line head =
    width_faults line (length head.carried) (count_of head.give) ++ width_faults line (length head.carried) (length head.predict)

-- a fold, but for its body
abbrev pub fold_faults : Setting → Scope → ℕ → RawFoldHead → List Fault
fold_faults here scope line head =
    names_faults here scope line head
    ++ (fold_widths_faults line head
    ++ (arguments_faults here scope line head.start
    ++ (expression_faults here scope line a_number head.low
    ++ (expression_faults here scope line a_number head.high
    ++ predictors_faults here (showing_fixed head.block scope) line head.predict))))

abbrev mutual
  -- a statement on a line
  pub statement_faults : Setting → Scope → ℕ → RawStatement → List Fault
  statement_faults here scope line (Let x value) = declared_faults here scope line x ++ expression_faults here scope line a_number value
  statement_faults here scope line (Assign x value) = assigned_faults here scope line x ++ expression_faults here scope line a_number value
  statement_faults here scope line (Store a index value) =
      indexed_faults here scope line a
      ++ (expression_faults here scope line a_number index ++ expression_faults here scope line a_number value)
  statement_faults here scope line (Fill a low high value) =
      indexed_faults here scope line a
      ++ (expression_faults here scope line a_number low
      ++ (expression_faults here scope line a_number high ++ expression_faults here scope line a_number value))
  statement_faults here scope line (Emit value) = when (not here.in_main) Misplaced line ++ expression_faults here scope line a_number value
  statement_faults here scope line (Fail number) = when (not (is_byte number)) Kind line
  statement_faults here scope line (If test a b) =
      expression_faults here scope line a_truth test ++ (block_faults here scope a ++ block_faults here scope b)
  statement_faults here scope line (For x low high body) =
      declared_faults here scope line x
      ++ (expression_faults here scope line a_number low
      ++ (expression_faults here scope line a_number high ++ block_faults (in_turn here) (showing_fixed x scope) body))
  statement_faults here scope line (While test most body) =
      expression_faults here scope line a_truth test ++ block_faults (in_turn here) scope body
  statement_faults here scope line (Do f given) =
      called_faults here scope line f (count_of given) [] ++ arguments_faults here scope line given
  statement_faults here scope line (Fold head body) =
      fold_faults here scope line head
      ++ (block_faults (in_part here) (in_body scope head.carried head.block) body
      ++ arguments_faults here (scope_at_end (in_body scope head.carried head.block) body) head.next_line head.next)
  statement_faults here scope line (Pair head producer consumer) =
      each_declared_faults here scope line head.carried
      ++ (pair_widths_faults line head
      ++ ((block_faults (in_part here) scope producer
      ++ arguments_faults here (scope_at_end scope producer) head.give_line head.give)
      ++ (predictors_faults here scope line head.predict
      ++ block_faults (in_part here) (showing_each true scope head.carried) consumer)))
  statement_faults here scope line Break = when (not here.in_loop) MisplacedBreak line

  -- a block: each statement in the scope after the ones before it
  pub block_faults : Setting → Scope → RawBlock → List Fault
  block_faults here scope end = []
  block_faults here scope (on_line line first rest) = statement_faults here scope line first ++ block_faults here (scope_after scope first) rest

-- a block, and then a number on a line
abbrev pub valued_faults : Setting → Scope → RawBlock → ℕ → RawExpression → List Fault
valued_faults here scope body line value =
    block_faults here scope body ++ expression_faults here (scope_at_end scope body) line a_number value

-- a part of a construct, and then a row on a line
abbrev pub rowed_faults : Setting → Scope → RawBlock → ℕ → RawArguments → List Fault
rowed_faults here scope body line row =
    block_faults (in_part here) scope body ++ arguments_faults here (scope_at_end scope body) line row

-- ---- programs

-- a function, but for its name
abbrev pub function_faults : Setting → RawFunction → List Fault
function_faults here f =
    each_declared_faults here [] f.line f.params
    ++ valued_faults here (showing_each false [] f.params) f.body f.answer_line f.answer

-- arrays, after others of these names
abbrev pub arrays_faults : List (List ℕ) → List Array → List Fault
arrays_faults names [] = []
arrays_faults names (a ∷ rest) = when (has names a.name) Twice a.line ++ arrays_faults (names ++ a.name ∷ []) rest

-- functions from an index on, after arrays and functions of these names
abbrev pub functions_faults : Globals → List (List ℕ) → ℕ → List RawFunction → List Fault
functions_faults globals names index [] = []
functions_faults globals names index (f ∷ rest) =
    when (has names f.name) Twice f.line
    ++ (function_faults (record { globals = globals; index = index; in_main = false; in_loop = false }) f
    ++ functions_faults globals (names ++ f.name ∷ []) (index + 1) rest)

-- the faults of a program, in the order of its text
abbrev pub faults : RawProgram → List Fault
faults p =
    arrays_faults [] p.arrays
    ++ (functions_faults (globals_of p.arrays p.functions) (map (λ (a : Array). a.name) p.arrays) 0 p.functions
    ++ block_faults (record { globals = globals_of p.arrays p.functions; index = length p.functions; in_main = true; in_loop = false }) [] p.main)

-- the first of a list
abbrev pub first : {A : Type 0} → List A → Option A
first [] = None
first (x ∷ xs) = Some x

-- What is found in each form of the language, and the bounds of its expressions.
use Rattle.std.specs.Prelude.{ℕ, Bool, if◌then◌else◌, ◌==◌, List, [], ◌∷◌, Option, Some, None, ℤ, pos, neg_ℤ, slice_index_or, slice_set}
use Rattle.spf_region.specs.declared.bound.Bound.{Bound}
use Rattle.spf_region.specs.declared.bound.Bound.TheVariants.{Known, Unknown}
use Rattle.spf_region.specs.Bounds.{number, plus, minus, negated, times, remainder, masked}
use Rattle.spf_ast.specs.declared.syntax.Op.{Op}
use Rattle.spf_ast.specs.declared.syntax.Op.TheVariants.{Add, Sub, Mul, Div, Rem, And, Or, Xor, Shl, Shr}
use Rattle.spf_ast.specs.Syntax.{Expression, Number, Local, Len, Input, Load, Call, Neg, Binary, Arguments, no_more, argument}
use Rattle.spf_ast.specs.Syntax.{Condition, Compare, Both, Either, Not}
use Rattle.spf_ast.specs.Syntax.{Statement, Let, Assign, Store, Fill, Emit, Fail, If, For, While, Do, Fold, Pair, Break, Block, end, on_line}
use Rattle.spf_ast.specs.Slots.{breaks}
use Rattle.spf_effects_findings.specs.Found.{Finds, finds_nothing, ◌then◌, perhaps, either, reads_element, writes_element, writes_range, turn_bound, turns, Sweep}

-- a call that is entered: the bound of the answer, and what is found in the function
pub record Entered : Type 0 where
  pub bound : Bound
  pub finds : Finds

-- where a form stands: which slots an assignment sets somewhere, and what is found where a function is called with arguments of these bounds
pub record Setting : Type 0 where
  pub is_assigned : ℕ → Bool
  pub call : ℕ → List Bound → Entered

-- ---- bounds

-- x op y
abbrev pub binary_bound : Op → Bound → Bound → Bound
binary_bound Add x y = plus x y
binary_bound Sub x y = minus x y
binary_bound Mul x y = times x y
binary_bound Rem x y = remainder x y
binary_bound And x y = masked x y
binary_bound Div x y = Unknown
binary_bound Or x y = Unknown
binary_bound Xor x y = Unknown
binary_bound Shl x y = Unknown
binary_bound Shr x y = Unknown

-- the bound of an expression, given those of the slots
abbrev mutual
  pub expression_bound : Setting → List Bound → Expression → Bound
  expression_bound g slots (Number n) = number n
  expression_bound g slots (Local slot) = slice_index_or slots slot Unknown
  expression_bound g slots Len = Unknown
  expression_bound g slots (Input index) = Known (pos 0) (pos 0) (pos 255)
  expression_bound g slots (Load array index) = Unknown
  expression_bound g slots (Call f given) = (g.call f (argument_bounds g slots given)).bound
  expression_bound g slots (Neg inner) = negated (expression_bound g slots inner)
  expression_bound g slots (Binary op left right) = binary_bound op (expression_bound g slots left) (expression_bound g slots right)

  pub argument_bounds : Setting → List Bound → Arguments → List Bound
  argument_bounds g slots no_more = []
  argument_bounds g slots (argument first rest) = expression_bound g slots first ∷ argument_bounds g slots rest

-- the bounds of the slots with that of a declared one, unless an assignment sets it
abbrev pub declared : Setting → ℕ → Bound → List Bound → List Bound
declared g slot bound slots = if g.is_assigned slot then slots else slice_set slots slot bound

-- the bounds of the slots after a statement; what it declares within its own blocks isn't visible there
abbrev pub bounds_behind : Setting → List Bound → Statement → List Bound
bounds_behind g slots (Let slot value) = declared g slot (expression_bound g slots value) slots
bounds_behind g slots _ = slots

-- the bounds of the slots at the end of a block
abbrev pub bounds_at_end : Setting → List Bound → Block → List Bound
bounds_at_end g slots end = slots
bounds_at_end g slots (on_line line first rest) = bounds_at_end g (bounds_behind g slots first) rest

-- the bounds of the slots in the body of a loop
abbrev pub bounds_in_turn : Setting → List Bound → ℕ → Expression → Expression → List Bound
bounds_in_turn g slots slot low high =
    declared g slot (turn_bound (expression_bound g slots low) (expression_bound g slots high)) slots

-- ---- sweeps

-- how far an index is from a loop's name: the name itself, the name + n, or the name - n
abbrev pub distance : ℕ → Expression → Option ℤ
distance name (Local slot) = if slot == name then Some (pos 0) else None
distance name (Binary Add (Local slot) (Number n)) = if slot == name then Some n else None
distance name (Binary Sub (Local slot) (Number n)) = if slot == name then Some (neg_ℤ n) else None
distance name _ = None

-- the sweep of a store into an array, where its index has a distance
abbrev pub sweep : ℕ → Option ℤ → List Sweep → List Sweep
sweep array (Some d) others = record { array = array; distance = d } ∷ others
sweep array None others = others

-- the sweeps of a block: those of its direct statements
abbrev pub sweeps : ℕ → Block → List Sweep
sweeps name end = []
sweeps name (on_line line (Store array index value) rest) = sweep array (distance name index) (sweeps name rest)
sweeps name (on_line line _ rest) = sweeps name rest

-- the sweeps of a loop: those of its body, unless a `break` may end the loop before its last turn
abbrev pub loop_sweeps : ℕ → Block → List Sweep
loop_sweeps name body = if breaks body then [] else sweeps name body

-- ---- effects

abbrev mutual
  pub expression_finds : Setting → List Bound → Expression → Finds
  expression_finds g slots (Number n) = finds_nothing
  expression_finds g slots (Local slot) = finds_nothing
  expression_finds g slots Len = finds_nothing
  expression_finds g slots (Input index) = expression_finds g slots index
  expression_finds g slots (Load array index) = expression_finds g slots index then reads_element array (expression_bound g slots index)
  expression_finds g slots (Call f given) = arguments_find g slots given then (g.call f (argument_bounds g slots given)).finds
  expression_finds g slots (Neg inner) = expression_finds g slots inner
  expression_finds g slots (Binary op left right) = expression_finds g slots left then expression_finds g slots right

  pub arguments_find : Setting → List Bound → Arguments → Finds
  arguments_find g slots no_more = finds_nothing
  arguments_find g slots (argument first rest) = expression_finds g slots first then arguments_find g slots rest

abbrev pub condition_finds : Setting → List Bound → Condition → Finds
condition_finds g slots (Compare test a b) = expression_finds g slots a then expression_finds g slots b
condition_finds g slots (Both c d) = condition_finds g slots c then perhaps (condition_finds g slots d)
condition_finds g slots (Either c d) = condition_finds g slots c then perhaps (condition_finds g slots d)
condition_finds g slots (Not c) = condition_finds g slots c

abbrev mutual
  pub statement_finds : Setting → List Bound → Statement → Finds
  statement_finds g slots (Let slot value) = expression_finds g slots value
  statement_finds g slots (Assign slot value) = expression_finds g slots value
  statement_finds g slots (Store array index value) =
      expression_finds g slots index then expression_finds g slots value
      then writes_element array (expression_bound g slots index)
  statement_finds g slots (Fill array low high value) =
      expression_finds g slots low then expression_finds g slots high then expression_finds g slots value
      then writes_range array (expression_bound g slots low) (expression_bound g slots high)
  statement_finds g slots (Emit value) = expression_finds g slots value
  statement_finds g slots (Fail code) = finds_nothing
  statement_finds g slots (If c first second) =
      condition_finds g slots c then either (block_finds g slots first) (block_finds g slots second)
  statement_finds g slots (For slot low high body) =
      expression_finds g slots low then expression_finds g slots high
      then turns (expression_bound g slots low) (expression_bound g slots high) (loop_sweeps slot body)
      (block_finds g (bounds_in_turn g slots slot low high) body)
  statement_finds g slots (While c most body) = condition_finds g slots c then perhaps (block_finds g slots body)
  statement_finds g slots (Do f given) = arguments_find g slots given then (g.call f (argument_bounds g slots given)).finds
  statement_finds g slots (Fold head body) =
      arguments_find g slots head.start then expression_finds g slots head.low then expression_finds g slots head.high
      then turns (expression_bound g slots head.low) (expression_bound g slots head.high) []
      (let inner = bounds_in_turn g slots head.block head.low head.high in
      block_finds g inner body then arguments_find g (bounds_at_end g inner body) head.next)
  statement_finds g slots (Pair head producer consumer) =
      block_finds g slots producer then arguments_find g (bounds_at_end g slots producer) head.give then block_finds g slots consumer
  statement_finds g slots Break = finds_nothing

  pub block_finds : Setting → List Bound → Block → Finds
  block_finds g slots end = finds_nothing
  block_finds g slots (on_line line first rest) = statement_finds g slots first then block_finds g (bounds_behind g slots first) rest

-- a block, and an expression in which what the block declares is visible
abbrev pub block_then : Setting → List Bound → Block → Expression → Finds
block_then g slots body last = block_finds g slots body then expression_finds g (bounds_at_end g slots body) last

-- a block, and a row in whose parts what the block declares is visible
abbrev pub block_then_row : Setting → List Bound → Block → Arguments → Finds
block_then_row g slots body last = block_finds g slots body then arguments_find g (bounds_at_end g slots body) last

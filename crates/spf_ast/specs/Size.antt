-- How large programs are, with calls unfolded, and how large they may be.
use Rattle.std.specs.Prelude.{ℕ, zero, suc, ◌+◌, ◌≤◌, max, if◌then◌else◌, ◌==◌, List, [], ◌∷◌, length, Option, Some, None, slice_get}
use Rattle.spf_ast.specs.Syntax.{
  Expression,
  Number,
  Local,
  Len,
  Input,
  Load,
  Call,
  Neg,
  Binary,
  Arguments,
  no_more,
  argument,
  Condition,
  Compare,
  Both,
  Either,
  Not,
}
use Rattle.spf_ast.specs.Syntax.{
  Statement,
  Let,
  Assign,
  Store,
  Fill,
  Emit,
  Fail,
  If,
  For,
  While,
  Do,
  Fold,
  Pair,
  Break,
  Block,
  end,
  on_line,
  Predictor,
  By,
  Host,
  Function,
  Program,
}

-- A way to measure forms: what a statement or an expression counts by itself, how the measures of its parts are
-- combined, and what a call of a function counts.
pub record Measure : Type 0 where
  pub own : ℕ
  pub join : ℕ → ℕ → ℕ
  pub of_function : ℕ → ℕ

abbrev mutual
  -- an expression, measured
  pub expression_measure : Measure → Expression → ℕ
  expression_measure m (Number n) = m.own
  expression_measure m (Local slot) = m.own
  expression_measure m Len = m.own
  expression_measure m (Input index) = m.own + expression_measure m index
  expression_measure m (Load array index) = m.own + expression_measure m index
  expression_measure m (Call f given) = m.own + m.join (arguments_measure m given) (m.of_function f)
  expression_measure m (Neg inner) = m.own + expression_measure m inner
  expression_measure m (Binary op a b) = m.own + m.join (expression_measure m a) (expression_measure m b)

  -- arguments
  pub arguments_measure : Measure → Arguments → ℕ
  arguments_measure m no_more = 0
  arguments_measure m (argument first rest) = m.join (expression_measure m first) (arguments_measure m rest)

-- a condition
abbrev pub condition_measure : Measure → Condition → ℕ
condition_measure m (Compare test a b) = m.own + m.join (expression_measure m a) (expression_measure m b)
condition_measure m (Both c d) = m.own + m.join (condition_measure m c) (condition_measure m d)
condition_measure m (Either c d) = m.own + m.join (condition_measure m c) (condition_measure m d)
condition_measure m (Not c) = m.own + condition_measure m c

-- a predictor
abbrev pub predictor_measure : Measure → Predictor → ℕ
predictor_measure m (By guess) = expression_measure m guess
predictor_measure m (Host number) = 0

-- the predictors of a row's parts
abbrev pub predictors_measure : Measure → List Predictor → ℕ
predictors_measure m [] = 0
predictors_measure m (first ∷ rest) = m.join (predictor_measure m first) (predictors_measure m rest)

abbrev mutual
  -- a statement
  pub statement_measure : Measure → Statement → ℕ
  statement_measure m (Let slot value) = m.own + expression_measure m value
  statement_measure m (Assign slot value) = m.own + expression_measure m value
  statement_measure m (Store array index value) = m.own + m.join (expression_measure m index) (expression_measure m value)
  statement_measure m (Fill array low high value) =
      m.own + m.join (expression_measure m low) (m.join (expression_measure m high) (expression_measure m value))
  statement_measure m (Emit value) = m.own + expression_measure m value
  statement_measure m (Fail number) = m.own
  statement_measure m (If test a b) = m.own + m.join (condition_measure m test) (m.join (block_measure m a) (block_measure m b))
  statement_measure m (For slot low high body) =
      m.own + m.join (expression_measure m low) (m.join (expression_measure m high) (block_measure m body))
  statement_measure m (While test most body) = m.own + m.join (condition_measure m test) (block_measure m body)
  statement_measure m (Do f given) = m.own + m.join (arguments_measure m given) (m.of_function f)
  statement_measure m (Fold head body) =
      m.own
      + m.join
      (m.join (arguments_measure m head.start) (m.join (expression_measure m head.low) (expression_measure m head.high)))
      (m.join (predictors_measure m head.predict) (m.join (block_measure m body) (arguments_measure m head.next)))
  statement_measure m (Pair head producer consumer) =
      m.own
      + m.join
      (m.join (block_measure m producer) (arguments_measure m head.give))
      (m.join (predictors_measure m head.predict) (block_measure m consumer))
  statement_measure m Break = m.own

  -- a block
  pub block_measure : Measure → Block → ℕ
  block_measure m end = 0
  block_measure m (on_line line first rest) = m.join (statement_measure m first) (block_measure m rest)

-- ---- functions

-- what functions count by their number: each of those before an index is measured, given what the functions before it count
abbrev pub counted_before : List Function → ((ℕ → ℕ) → Function → ℕ) → ℕ → ℕ → ℕ
counted_before functions measure zero f = 0
counted_before functions measure (suc index) f =
    if f == index then counted (measure (counted_before functions measure index)) (slice_get functions index)
    else counted_before functions measure index f
  where
    counted : (Function → ℕ) → Option Function → ℕ
    counted of_function None = 0
    counted of_function (Some g) = of_function g

-- a function's body and answer
abbrev pub function_measure : Measure → Function → ℕ
function_measure m f = m.join (block_measure m f.body) (expression_measure m f.answer)

-- the size: each statement and each expression counts one, at a call also those of the function
abbrev pub by_size : (ℕ → ℕ) → Measure
by_size of_function = record { own = 1; join = λ a b. a + b; of_function = of_function }

-- the depth: how deeply statements and expressions are nested, through calls too
abbrev pub by_depth : (ℕ → ℕ) → Measure
by_depth of_function = record { own = 1; join = max; of_function = of_function }

-- the slots: the most that a chain of calls has
abbrev pub by_slots : (ℕ → ℕ) → Measure
by_slots of_function = record { own = 0; join = max; of_function = of_function }

-- the size of each function
abbrev pub function_sizes : Program → ℕ → ℕ
function_sizes p = counted_before p.functions (λ sizes f. function_measure (by_size sizes) f) (length p.functions)

-- the depth of each function
abbrev pub function_depths : Program → ℕ → ℕ
function_depths p = counted_before p.functions (λ depths f. function_measure (by_depth depths) f) (length p.functions)

-- the slots of each function, with those of the functions that it calls
abbrev pub function_slots : Program → ℕ → ℕ
function_slots p = counted_before p.functions (λ slots f. length f.slots + function_measure (by_slots slots) f) (length p.functions)

-- the program keeps the limits of the language
pub record IsWithinLimits (p : Program) : Type 0 where
  pub arrays : length p.arrays ≤ 64
  pub functions : length p.functions ≤ 256
  pub function_size : (f : ℕ) → function_sizes p f ≤ 65536
  pub size : block_measure (by_size (function_sizes p)) p.main ≤ 65536
  pub depth : block_measure (by_depth (function_depths p)) p.main ≤ 256
  pub slots : length p.slots + block_measure (by_slots (function_slots p)) p.main ≤ 1024

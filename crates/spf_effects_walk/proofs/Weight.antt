-- How much syntax a form has, and how much the first functions have: what bounds a walk over nested forms and calls.
use Rattle.std.specs.Prelude.{ℕ, zero, suc, ◌+◌, ◌*◌, List, Option, Some, None, slice_get}
use Rattle.spf_ast.specs.Syntax.{Expression, Number, Local, Len, Input, Load, Call, Neg, Binary, Arguments, no_more, argument}
use Rattle.spf_ast.specs.Syntax.{Condition, Compare, Both, Either, Not}
use Rattle.spf_ast.specs.Syntax.{Statement, Let, Assign, Store, Fill, Emit, Fail, If, For, While, Do, Fold, Pair, Break, Block, end, on_line, Function}

abbrev mutual
  pub expression_weight : Expression → ℕ
  expression_weight (Number n) = 1
  expression_weight (Local slot) = 1
  expression_weight Len = 1
  expression_weight (Input index) = 1 + expression_weight index
  expression_weight (Load array index) = 1 + expression_weight index
  expression_weight (Call f given) = 1 + arguments_weight given
  expression_weight (Neg inner) = 1 + expression_weight inner
  expression_weight (Binary op left right) = 1 + expression_weight left + expression_weight right

  pub arguments_weight : Arguments → ℕ
  arguments_weight no_more = 0
  arguments_weight (argument first rest) = 1 + expression_weight first + arguments_weight rest

abbrev pub condition_weight : Condition → ℕ
condition_weight (Compare test a b) = 1 + expression_weight a + expression_weight b
condition_weight (Both c d) = 1 + condition_weight c + condition_weight d
condition_weight (Either c d) = 1 + condition_weight c + condition_weight d
condition_weight (Not c) = 1 + condition_weight c

abbrev mutual
  pub statement_weight : Statement → ℕ
  statement_weight (Let slot value) = 1 + expression_weight value
  statement_weight (Assign slot value) = 1 + expression_weight value
  statement_weight (Store array index value) = 1 + expression_weight index + expression_weight value
  statement_weight (Fill array low high value) = 1 + expression_weight low + expression_weight high + expression_weight value
  statement_weight (Emit value) = 1 + expression_weight value
  statement_weight (Fail number) = 1
  statement_weight (If test first second) = 1 + condition_weight test + block_weight first + block_weight second
  statement_weight (For slot low high body) = 1 + expression_weight low + expression_weight high + block_weight body
  statement_weight (While test most body) = 1 + condition_weight test + block_weight body
  statement_weight (Do f given) = 1 + arguments_weight given
  statement_weight (Fold head body) =
      1 + (2 + arguments_weight head.start + expression_weight head.low + expression_weight head.high + arguments_weight head.next + block_weight body)
  statement_weight (Pair head producer consumer) = 1 + (1 + block_weight producer + arguments_weight head.give + block_weight consumer)
  statement_weight Break = 1

  pub block_weight : Block → ℕ
  block_weight end = 0
  block_weight (on_line line first rest) = 1 + statement_weight first + block_weight rest

-- the weight of a function
abbrev pub weight_of : Option Function → ℕ
weight_of None = 0
weight_of (Some f) = block_weight f.body + expression_weight f.answer

-- the weight of the functions before an index
abbrev pub weight_before : List Function → ℕ → ℕ
weight_before functions zero = 0
weight_before functions (suc index) = 2 * weight_of (slice_get functions index) + 6 + weight_before functions index

-- The grammar, production by production.
use Rattle.std.specs.Prelude.{ℕ, zero, suc, ◌+◌, nat_eq, Bool, true, false, if◌then◌else◌, List, [], ◌∷◌, ℤ, pos}
use Rattle.spf_text.specs.declared.token.Keyword.TheVariants as word
use Rattle.spf_text.specs.declared.token.Sign.{Sign}
use Rattle.spf_text.specs.declared.token.Sign.TheVariants as sign
use Rattle.spf_text.specs.declared.token.TokenKind.TheVariants as kind
use Rattle.spf_ast.specs.declared.syntax.Op.TheVariants as op
use Rattle.spf_ast.specs.declared.syntax.Test.TheVariants as test
use Rattle.spf_ast.specs.Syntax.{Array}
use Rattle.spf_ast.specs.RawSyntax.{
  RawExpression,
  Number,
  Local,
  Len,
  Input,
  Load,
  Call,
  Neg,
  Binary,
  Compare,
  Both,
  Either,
  Not,
  arguments_of,
  RawPredictor,
  By,
  Host,
}
use Rattle.spf_ast.specs.RawSyntax.{
  RawStatement,
  Let,
  Assign,
  Store,
  Fill,
  Emit,
  Fail,
  If,
  For,
  While,
  Do,
  Fold,
  Pair,
  Break,
  RawBlock,
  end,
  on_line,
  RawFunction,
  RawProgram,
}
use Rattle.spf_parse_grammar.specs.Parts.{
  Part,
  token,
  operator,
  opens,
  name,
  number,
  count,
  many,
  few,
  expression,
  level,
  further,
  compared,
  operand,
  arguments,
  next_argument,
  names,
  row,
  guess,
  predictor,
  next_predictor,
  form,
  block,
  otherwise,
  header,
  size,
  array,
  parameters,
  next_parameter,
  function,
  program,
  Value,
  keyword,
  sign,
  statement,
  Rule,
  give,
  ◌>>=◌,
  ◌>>◌,
  ◌or◌,
}

-- what a part says, and no more
abbrev pub all : (p : Part) → Rule (Value p)
all p = p >>= λ x. give x

-- ---- expressions

-- how loosely a binary operator binds, the tightest 1; other signs are none
abbrev pub rank_of : Sign → ℕ
rank_of sign.Star = 1
rank_of sign.Slash = 1
rank_of sign.Percent = 1
rank_of sign.Plus = 2
rank_of sign.Minus = 2
rank_of sign.ShiftLeft = 3
rank_of sign.ShiftRight = 3
rank_of sign.And = 4
rank_of sign.Xor = 5
rank_of sign.Or = 6
rank_of sign.Equal = 7
rank_of sign.NotEqual = 7
rank_of sign.Less = 7
rank_of sign.LessEqual = 7
rank_of sign.Greater = 7
rank_of sign.GreaterEqual = 7
rank_of sign.AndAnd = 8
rank_of sign.OrOr = 9
rank_of s = 0

-- what a binary operator makes of its two sides
abbrev pub joined : Sign → RawExpression → RawExpression → RawExpression
joined sign.Star a b = Binary op.Mul a b
joined sign.Slash a b = Binary op.Div a b
joined sign.Percent a b = Binary op.Rem a b
joined sign.Plus a b = Binary op.Add a b
joined sign.Minus a b = Binary op.Sub a b
joined sign.ShiftLeft a b = Binary op.Shl a b
joined sign.ShiftRight a b = Binary op.Shr a b
joined sign.And a b = Binary op.And a b
joined sign.Xor a b = Binary op.Xor a b
joined sign.Or a b = Binary op.Or a b
joined sign.Equal a b = Compare test.Eq a b
joined sign.NotEqual a b = Compare test.Ne a b
joined sign.Less a b = Compare test.Lt a b
joined sign.LessEqual a b = Compare test.Le a b
joined sign.Greater a b = Compare test.Gt a b
joined sign.GreaterEqual a b = Compare test.Ge a b
joined sign.AndAnd a b = Both a b
joined s a b = Either a b

-- a name alone, indexed, or called
abbrev pub named : ℕ → List ℕ → Rule RawExpression
named n x =
    give (Local x)
    or (do
      opens n sign.OpenBracket
      i ← expression (n + 1)
      sign sign.CloseBracket
      give (Load x i))
    or (do
      opens n sign.OpenParen
      given ← arguments (n + 1)
      give (Call x (arguments_of given)))

abbrev pub operand_rule : ℕ → Rule RawExpression
operand_rule n =
    (do
      k ← number
      give (Number k))
    or (do
      x ← name
      named n x)
    or (do
      keyword word.Len
      give Len)
    or (do
      keyword word.Input
      opens n sign.OpenBracket
      i ← expression (n + 1)
      sign sign.CloseBracket
      give (Input i))
    or (do
      opens n sign.Minus
      a ← operand (n + 1)
      give (Neg a))
    or (do
      opens n sign.Not
      a ← operand (n + 1)
      give (Not a))
    or (do
      opens n sign.OpenParen
      a ← expression (n + 1)
      sign sign.CloseParen
      give a)

-- An expression of a rank: operands of the next tighter rank, with operators of this one between them. Of comparisons there is at most one.
abbrev pub level_rule : ℕ → (rank used : ℕ) → Rule (RawExpression × ℕ)
level_rule n zero used = do
  a ← operand n
  give (a, used)
level_rule n (suc rank) used =
    if nat_eq rank 6 then (do
      x ← level n rank used
      all (compared n rank x.0 x.1))
    else (do
      x ← level n rank used
      all (further n rank x.0 x.1))

-- what follows an operand, grouped to the left
abbrev pub further_rule : ℕ → (rank : ℕ) → RawExpression → (used : ℕ) → Rule (RawExpression × ℕ)
further_rule n rank a used =
    give (a, used)
    or (do
      o ← operator (suc rank) used
      x ← level n rank (used + 1)
      all (further n rank (joined o a x.0) x.1))

-- what follows the first operand of a comparison
abbrev pub compared_rule : ℕ → (rank : ℕ) → RawExpression → (used : ℕ) → Rule (RawExpression × ℕ)
compared_rule n rank a used =
    give (a, used)
    or (do
      o ← operator (suc rank) used
      x ← level n rank (used + 1)
      give (joined o a x.0, x.1))

abbrev pub expression_rule : ℕ → Rule RawExpression
expression_rule n = do
  x ← level n 9 0
  give x.0

-- what stands in the parentheses of a call, with the closing one
abbrev pub arguments_rule : ℕ → Rule (List RawExpression)
arguments_rule n =
    (do
      sign sign.CloseParen
      give [])
    or (do
      a ← expression n
      more ← many (next_argument n)
      sign sign.CloseParen
      give (a ∷ more))

abbrev pub next_argument_rule : ℕ → Rule RawExpression
next_argument_rule n = do
  sign sign.Comma
  a ← expression n
  give a

-- ---- rows

-- a name, or two to four in parentheses
abbrev pub names_rule : ℕ → Rule (List (List ℕ))
names_rule n =
    (do
      x ← name
      give (x ∷ []))
    or (do
      opens n sign.OpenParen
      x ← name
      y ← next_parameter
      more ← few 2 next_parameter
      sign sign.CloseParen
      give (x ∷ y ∷ more))

-- an expression, or two to four in parentheses
abbrev pub row_rule : ℕ → Rule (List RawExpression)
row_rule n =
    (do
      a ← expression n
      give (a ∷ []))
    or (do
      opens n sign.OpenParen
      a ← expression (n + 1)
      b ← next_argument (n + 1)
      more ← few 2 (next_argument (n + 1))
      sign sign.CloseParen
      give (a ∷ b ∷ more))

abbrev pub predictor_rule : ℕ → Rule RawPredictor
predictor_rule n =
    (do
      keyword word.Host
      k ← count
      give (Host k))
    or (do
      g ← expression n
      give (By g))

abbrev pub next_predictor_rule : ℕ → Rule RawPredictor
next_predictor_rule n = do
  sign sign.Comma
  g ← predictor n
  give g

-- a predictor, or two to four in parentheses
abbrev pub guess_rule : ℕ → Rule (List RawPredictor)
guess_rule n =
    (do
      g ← predictor n
      give (g ∷ []))
    or (do
      opens n sign.OpenParen
      g ← predictor (n + 1)
      h ← next_predictor (n + 1)
      more ← few 2 (next_predictor (n + 1))
      sign sign.CloseParen
      give (g ∷ h ∷ more))

-- ---- statements

-- statements in order, each with its line
abbrev pub block_of : List (ℕ × RawStatement) → RawBlock
block_of [] = end
block_of (s ∷ rest) = on_line s.0 s.1 (block_of rest)

abbrev pub block_rule : Bool → ℕ → Rule RawBlock
block_rule breaks n = do
  opens n sign.OpenBrace
  inside ← many (statement breaks (n + 1))
  sign sign.CloseBrace
  give (block_of inside)

-- an assignment, a store and a call, after the name
abbrev pub assign_form : ℕ → List ℕ → Rule RawStatement
assign_form n x = do
  sign sign.Assign
  a ← expression n
  sign sign.Semicolon
  give (Assign x a)

abbrev pub store_form : ℕ → List ℕ → Rule RawStatement
store_form n x = do
  opens n sign.OpenBracket
  i ← expression (n + 1)
  sign sign.CloseBracket
  sign sign.Assign
  a ← expression n
  sign sign.Semicolon
  give (Store x i a)

abbrev pub call_form : ℕ → List ℕ → Rule RawStatement
call_form n x = do
  opens n sign.OpenParen
  given ← arguments (n + 1)
  sign sign.Semicolon
  give (Do x (arguments_of given))

abbrev pub named_form : ℕ → Rule RawStatement
named_form n = do
  x ← name
  assign_form n x or store_form n x or call_form n x

abbrev pub let_form : ℕ → Rule RawStatement
let_form n = do
  keyword word.Let
  x ← name
  sign sign.Assign
  a ← expression n
  sign sign.Semicolon
  give (Let x a)

abbrev pub fill_form : ℕ → Rule RawStatement
fill_form n = do
  keyword word.Fill
  x ← name
  opens n sign.OpenBracket
  i ← expression (n + 1)
  sign sign.DotDot
  j ← expression (n + 1)
  sign sign.CloseBracket
  sign sign.Assign
  a ← expression n
  sign sign.Semicolon
  give (Fill x i j a)

abbrev pub emit_form : ℕ → Rule RawStatement
emit_form n = do
  keyword word.Emit
  a ← expression n
  sign sign.Semicolon
  give (Emit a)

abbrev pub fail_form : ℕ → Rule RawStatement
fail_form n = do
  keyword word.Fail
  k ← number
  sign sign.Semicolon
  give (Fail k)

abbrev pub if_form : Bool → ℕ → Rule RawStatement
if_form breaks n = do
  keyword word.If
  c ← expression n
  a ← block breaks n
  b ← otherwise breaks n
  give (If c a b)

-- an absent `else` is an empty block
abbrev pub otherwise_rule : Bool → ℕ → Rule RawBlock
otherwise_rule breaks n =
    give end
    or (do
      keyword word.Else
      b ← block breaks n
      give b)

abbrev pub for_form : Bool → ℕ → Rule RawStatement
for_form breaks n = do
  keyword word.For
  x ← name
  keyword word.In
  i ← expression n
  sign sign.DotDot
  j ← expression n
  b ← block breaks n
  give (For x i j b)

abbrev pub while_form : Bool → ℕ → Rule RawStatement
while_form breaks n = do
  keyword word.While
  c ← expression n
  keyword word.Max
  most ← count
  b ← block breaks n
  give (While c most b)

abbrev pub fold_form : Bool → ℕ → Rule RawStatement
fold_form breaks n = do
  keyword word.Specfold
  s ← names n
  sign sign.Assign
  e ← row n
  keyword word.For
  k ← name
  keyword word.In
  i ← expression n
  sign sign.DotDot
  j ← expression n
  keyword word.Predict
  g ← guess n
  opens n sign.OpenBrace
  inside ← many (statement breaks (n + 1))
  l ← keyword word.Next
  a ← row (n + 1)
  sign sign.Semicolon
  sign sign.CloseBrace
  give (Fold (record {
    carried = s;
    start = arguments_of e;
    block = k;
    low = i;
    high = j;
    predict = g;
    next = arguments_of a;
    next_line = l;
  }) (block_of inside))

abbrev pub pair_form : Bool → ℕ → Rule RawStatement
pair_form breaks n = do
  keyword word.Spec
  x ← names n
  sign sign.Assign
  opens n sign.OpenBrace
  inside ← many (statement breaks (n + 1))
  l ← keyword word.Give
  a ← row (n + 1)
  sign sign.Semicolon
  sign sign.CloseBrace
  keyword word.Predict
  g ← guess n
  c ← block breaks n
  give (Pair (record { carried = x; give = arguments_of a; give_line = l; predict = g }) (block_of inside) c)

abbrev pub break_form : Rule RawStatement
break_form = do
  keyword word.Break
  sign sign.Semicolon
  give Break

-- the statements of every version
abbrev pub plain_form : Bool → ℕ → Rule RawStatement
plain_form breaks n =
    let_form n
    or named_form n
    or fill_form n
    or emit_form n
    or fail_form n
    or if_form breaks n
    or for_form breaks n
    or while_form breaks n
    or fold_form breaks n
    or pair_form breaks n

abbrev pub form_rule : Bool → ℕ → Rule RawStatement
form_rule true n = plain_form true n or break_form
form_rule false n = plain_form false n

-- ---- programs

-- this number, up to the semicolon
abbrev pub version_rule : ℕ → Rule ℕ
version_rule v = do
  token (kind.Number (pos v))
  sign sign.Semicolon
  give v

-- `version` and the version's number; a text without them has version 1
abbrev pub header_rule : Rule ℕ
header_rule =
    give 1
    or (do
      keyword word.Version
      version_rule 1 or version_rule 2)

-- the factor and the offset of a size
abbrev pub size_rule : Rule (ℤ × ℤ)
size_rule = do
  k ← number
  give (pos 0, k) or (do
    sign sign.Star
    keyword word.Len
    give (k, pos 0) or (do
      sign sign.Plus
      o ← number
      give (k, o)))

abbrev pub array_rule : Rule Array
array_rule = do
  l ← keyword word.Array
  x ← name
  opens 0 sign.OpenBracket
  s ← size
  sign sign.CloseBracket
  sign sign.Semicolon
  give (record { name = x; factor = s.0; offset = s.1; line = l })

-- what stands in the parentheses of a function, with the closing one
abbrev pub parameters_rule : Rule (List (List ℕ))
parameters_rule =
    (do
      sign sign.CloseParen
      give [])
    or (do
      x ← name
      more ← many next_parameter
      sign sign.CloseParen
      give (x ∷ more))

abbrev pub next_parameter_rule : Rule (List ℕ)
next_parameter_rule = do
  sign sign.Comma
  x ← name
  give x

abbrev pub function_rule : Bool → Rule RawFunction
function_rule breaks = do
  l ← keyword word.Fn
  f ← name
  opens 0 sign.OpenParen
  xs ← parameters
  opens 0 sign.OpenBrace
  inside ← many (statement breaks 1)
  r ← keyword word.Return
  a ← expression 1
  sign sign.Semicolon
  sign sign.CloseBrace
  give (record { name = f; params = xs; body = block_of inside; answer = a; answer_line = r; line = l })

-- whether `break` is a statement in this version
abbrev pub has_breaks : ℕ → Bool
has_breaks version = nat_eq version 2

abbrev pub program_rule : Rule RawProgram
program_rule = do
  v ← header
  arrays ← many array
  functions ← many (function (has_breaks v))
  l ← keyword word.Main
  b ← block (has_breaks v) 0
  give (record { version = v; arrays = arrays; functions = functions; main = b; main_line = l })

-- a part none or more times
abbrev pub many_rule : (p : Part) → Rule (List (Value p))
many_rule p =
    give []
    or (do
      x ← p
      more ← many p
      give (x ∷ more))

-- a part at most this many times
abbrev pub few_rule : ℕ → (p : Part) → Rule (List (Value p))
few_rule zero p = give []
few_rule (suc most) p =
    give []
    or (do
      x ← p
      more ← few most p
      give (x ∷ more))

-- ---- all together

-- what a part says by its production; a token is read as itself
abbrev pub rule : (p : Part) → Rule (Value p)
rule (many p) = many_rule p
rule (few most p) = few_rule most p
rule (expression n) = expression_rule n
rule (level n rank used) = level_rule n rank used
rule (further n rank a used) = further_rule n rank a used
rule (compared n rank a used) = compared_rule n rank a used
rule (operand n) = operand_rule n
rule (arguments n) = arguments_rule n
rule (next_argument n) = next_argument_rule n
rule (names n) = names_rule n
rule (row n) = row_rule n
rule (guess n) = guess_rule n
rule (predictor n) = predictor_rule n
rule (next_predictor n) = next_predictor_rule n
rule (form breaks n) = form_rule breaks n
rule (block breaks n) = block_rule breaks n
rule (otherwise breaks n) = otherwise_rule breaks n
rule header = header_rule
rule size = size_rule
rule array = array_rule
rule parameters = parameters_rule
rule next_parameter = next_parameter_rule
rule (function breaks) = function_rule breaks
rule program = program_rule
rule p = all p

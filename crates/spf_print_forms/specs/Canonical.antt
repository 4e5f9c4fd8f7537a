-- The canonical text of a program: each statement on lines of its own, indented by its blocks, and no parentheses but those that are needed.
use Rattle.std.specs.Prelude.{ℕ, zero, ◌+◌, Bool, true, false, nat_eq, nat_lt, if◌then◌else◌, length, List, [], ◌∷◌, ◌++◌, codes, ℤ, pos}
use Rattle.std.specs.Fmt.{decimal, signed_decimal}
use Rattle.spf_ast.specs.declared.syntax.Op.{Op}
use Rattle.spf_ast.specs.declared.syntax.Op.TheVariants as op
use Rattle.spf_ast.specs.declared.syntax.Test.{Test}
use Rattle.spf_ast.specs.declared.syntax.Test.TheVariants as test
use Rattle.spf_ast.specs.Syntax.{Array}
use Rattle.spf_ast.specs.RawSyntax.{
  RawExpression,
  Number,
  Local,
  Len,
  Input,
  Load,
  Call,
  Neg,
  Binary,
  Compare,
  Both,
  Either,
  Not,
  RawArguments,
  no_more,
  argument,
}
use Rattle.spf_ast.specs.RawSyntax.{RawPredictor, By, Host, RawFoldHead}
use Rattle.spf_ast.specs.RawSyntax.{RawStatement, Let, Assign, Store, Fill, Emit, Fail, If, For, While, Do, Fold, Pair, Break, RawBlock, end, on_line}
use Rattle.spf_ast.specs.RawSyntax.{RawFunction, RawProgram}
use Rattle.spf_ast.specs.Spelling.{raw_count}

-- ---- pieces and lines

-- pieces, one after another
abbrev pub joined : List (List ℕ) → List ℕ
joined [] = []
joined (piece ∷ pieces) = piece ++ joined pieces

-- a line of these pieces, after its indentation
abbrev pub line : List ℕ → List (List ℕ) → List ℕ
line indent pieces = indent ++ joined pieces ++ 10 ∷ []

-- the indentation of a block's statements, where its own is this
abbrev pub deeper : List ℕ → List ℕ
deeper indent = indent ++ codes "  "

-- ---- expressions

-- how tightly an operator binds, the loosest with 1: `||`, `&&`, comparisons, `|`, `^`, `&`, shifts, sums, products,
-- signs, and operands
abbrev pub op_level : Op → ℕ
op_level op.Or = 4
op_level op.Xor = 5
op_level op.And = 6
op_level op.Shl = 7
op_level op.Shr = 7
op_level op.Add = 8
op_level op.Sub = 8
op_level op.Mul = 9
op_level op.Div = 9
op_level op.Rem = 9

abbrev pub comparison_level : ℕ
comparison_level = 3

abbrev pub unary_level : ℕ
unary_level = 10

abbrev pub level : RawExpression → ℕ
level (Either a b) = 1
level (Both a b) = 2
level (Compare test a b) = comparison_level
level (Binary op a b) = op_level op
level (Neg a) = unary_level
level (Not a) = unary_level
level _ = 11

-- how an operator is written
abbrev pub op_sign : Op → List ℕ
op_sign op.Add = codes " + "
op_sign op.Sub = codes " - "
op_sign op.Mul = codes " * "
op_sign op.Div = codes " / "
op_sign op.Rem = codes " % "
op_sign op.And = codes " & "
op_sign op.Or = codes " | "
op_sign op.Xor = codes " ^ "
op_sign op.Shl = codes " << "
op_sign op.Shr = codes " >> "

-- how a comparison is written
abbrev pub test_sign : Test → List ℕ
test_sign test.Eq = codes " == "
test_sign test.Ne = codes " != "
test_sign test.Lt = codes " < "
test_sign test.Le = codes " <= "
test_sign test.Gt = codes " > "
test_sign test.Ge = codes " >= "

-- in parentheses, where they are needed
abbrev pub enclosed : Bool → List ℕ → List ℕ
enclosed true text = joined (codes "(" ∷ text ∷ codes ")" ∷ [])
enclosed false text = text

-- An expression. An operand is in parentheses where its level is below the least that may stand there: that of the
-- operator at the left, and one more at the right; at a comparison more than its own on both sides.
abbrev mutual
  pub expression_text : RawExpression → List ℕ
  expression_text (Number n) = signed_decimal n
  expression_text (Local x) = x
  expression_text Len = codes "len"
  expression_text (Input index) = joined (codes "input" ∷ codes "[" ∷ expression_text index ∷ codes "]" ∷ [])
  expression_text (Load a index) = joined (a ∷ codes "[" ∷ expression_text index ∷ codes "]" ∷ [])
  expression_text (Call f given) = joined (f ∷ codes "(" ∷ arguments_text given ∷ codes ")" ∷ [])
  expression_text (Neg a) = joined (codes "-" ∷ enclosed (nat_lt (level a) unary_level) (expression_text a) ∷ [])
  expression_text (Not a) = joined (codes "!" ∷ enclosed (nat_lt (level a) unary_level) (expression_text a) ∷ [])
  expression_text (Binary op a b) =
      joined (enclosed (nat_lt (level a) (op_level op)) (expression_text a) ∷ op_sign op
      ∷ enclosed (nat_lt (level b) (op_level op + 1)) (expression_text b) ∷ [])
  expression_text (Compare test a b) =
      joined (enclosed (nat_lt (level a) (comparison_level + 1)) (expression_text a) ∷ test_sign test
      ∷ enclosed (nat_lt (level b) (comparison_level + 1)) (expression_text b) ∷ [])
  expression_text (Both a b) =
      joined (enclosed (nat_lt (level a) 2) (expression_text a) ∷ codes " && " ∷ enclosed (nat_lt (level b) 3) (expression_text b) ∷ [])
  expression_text (Either a b) =
      joined (enclosed (nat_lt (level a) 1) (expression_text a) ∷ codes " || " ∷ enclosed (nat_lt (level b) 2) (expression_text b) ∷ [])

  -- arguments, with a comma and a space between two
  pub arguments_text : RawArguments → List ℕ
  arguments_text no_more = []
  arguments_text (argument first rest) = expression_text first ++ further_arguments_text rest

  pub further_arguments_text : RawArguments → List ℕ
  further_arguments_text no_more = []
  further_arguments_text (argument first rest) = codes ", " ++ expression_text first ++ further_arguments_text rest

-- names, each after a comma and a space
abbrev pub further_names_text : List (List ℕ) → List ℕ
further_names_text [] = []
further_names_text (x ∷ xs) = codes ", " ++ x ++ further_names_text xs

-- names, with a comma and a space between two
abbrev pub names_text : List (List ℕ) → List ℕ
names_text [] = []
names_text (x ∷ xs) = x ++ further_names_text xs

-- a predictor
abbrev pub predictor_text : RawPredictor → List ℕ
predictor_text (By guess) = expression_text guess
predictor_text (Host number) = joined (codes "host " ∷ decimal number ∷ [])

-- predictors, each after a comma and a space
abbrev pub further_predictors_text : List RawPredictor → List ℕ
further_predictors_text [] = []
further_predictors_text (g ∷ gs) = codes ", " ++ predictor_text g ++ further_predictors_text gs

-- predictors, with a comma and a space between two
abbrev pub predictors_text : List RawPredictor → List ℕ
predictors_text [] = []
predictors_text (g ∷ gs) = predictor_text g ++ further_predictors_text gs

-- ---- rows: in parentheses, where there are several parts

abbrev pub carried_text : List (List ℕ) → List ℕ
carried_text xs = enclosed (nat_lt 1 (length xs)) (names_text xs)

abbrev pub row_text : RawArguments → List ℕ
row_text given = enclosed (nat_lt 1 (raw_count given)) (arguments_text given)

abbrev pub guess_text : List RawPredictor → List ℕ
guess_text gs = enclosed (nat_lt 1 (length gs)) (predictors_text gs)

-- ---- statements

-- the line that begins a fold
abbrev pub fold_line : List ℕ → RawFoldHead → List ℕ
fold_line indent head =
    line indent (codes "specfold " ∷ carried_text head.carried ∷ codes " = " ∷ row_text head.start ∷ codes " for "
    ∷ head.block ∷ codes " in " ∷ expression_text head.low ∷ codes ".." ∷ expression_text head.high
    ∷ codes " predict " ∷ guess_text head.predict ∷ codes " {" ∷ [])

abbrev mutual
  -- the lines of a statement, after an indentation
  pub statement_text : List ℕ → RawStatement → List ℕ
  statement_text indent (Let x value) = line indent (codes "let " ∷ x ∷ codes " = " ∷ expression_text value ∷ codes ";" ∷ [])
  statement_text indent (Assign x value) = line indent (x ∷ codes " = " ∷ expression_text value ∷ codes ";" ∷ [])
  statement_text indent (Store a index value) =
      line indent (a ∷ codes "[" ∷ expression_text index ∷ codes "] = " ∷ expression_text value ∷ codes ";" ∷ [])
  statement_text indent (Fill a low high value) =
      line indent (codes "fill " ∷ a ∷ codes "[" ∷ expression_text low ∷ codes ".." ∷ expression_text high
      ∷ codes "] = " ∷ expression_text value ∷ codes ";" ∷ [])
  statement_text indent (Emit value) = line indent (codes "emit " ∷ expression_text value ∷ codes ";" ∷ [])
  statement_text indent (Fail number) = line indent (codes "fail " ∷ signed_decimal number ∷ codes ";" ∷ [])
  statement_text indent (If test a b) =
      line indent (codes "if " ∷ expression_text test ∷ codes " {" ∷ []) ++ block_text (deeper indent) a ++ otherwise_text indent b
  statement_text indent (For x low high body) =
      line indent (codes "for " ∷ x ∷ codes " in " ∷ expression_text low ∷ codes ".." ∷ expression_text high ∷ codes " {" ∷ [])
      ++ block_text (deeper indent) body
      ++ line indent (codes "}" ∷ [])
  statement_text indent (While test most body) =
      line indent (codes "while " ∷ expression_text test ∷ codes " max " ∷ decimal most ∷ codes " {" ∷ [])
      ++ block_text (deeper indent) body
      ++ line indent (codes "}" ∷ [])
  statement_text indent (Do f given) = line indent (f ∷ codes "(" ∷ arguments_text given ∷ codes ");" ∷ [])
  statement_text indent (Fold head body) =
      fold_line indent head
      ++ block_text (deeper indent) body
      ++ line (deeper indent) (codes "next " ∷ row_text head.next ∷ codes ";" ∷ [])
      ++ line indent (codes "}" ∷ [])
  statement_text indent (Pair head producer consumer) =
      line indent (codes "spec " ∷ carried_text head.carried ∷ codes " = {" ∷ [])
      ++ block_text (deeper indent) producer
      ++ line (deeper indent) (codes "give " ∷ row_text head.give ∷ codes ";" ∷ [])
      ++ line indent (codes "} predict " ∷ guess_text head.predict ∷ codes " {" ∷ [])
      ++ block_text (deeper indent) consumer
      ++ line indent (codes "}" ∷ [])
  statement_text indent Break = line indent (codes "break;" ∷ [])

  -- the end of an `if`, with its other block where that has a statement
  pub otherwise_text : List ℕ → RawBlock → List ℕ
  otherwise_text indent end = line indent (codes "}" ∷ [])
  otherwise_text indent (on_line n first rest) =
      line indent (codes "} else {" ∷ [])
      ++ statement_text (deeper indent) first
      ++ block_text (deeper indent) rest
      ++ line indent (codes "}" ∷ [])

  -- the lines of a block's statements
  pub block_text : List ℕ → RawBlock → List ℕ
  block_text indent end = []
  block_text indent (on_line n first rest) = statement_text indent first ++ block_text indent rest

-- ---- programs

-- a factor and an offset: a 0 is left out, but for one that stands alone
abbrev pub size_text : ℤ → ℤ → List ℕ
size_text (pos zero) offset = signed_decimal offset
size_text factor (pos zero) = joined (signed_decimal factor ∷ codes "*len" ∷ [])
size_text factor offset = joined (signed_decimal factor ∷ codes "*len + " ∷ signed_decimal offset ∷ [])

-- an array
abbrev pub array_text : Array → List ℕ
array_text a = line [] (codes "array " ∷ a.name ∷ codes "[" ∷ size_text a.factor a.offset ∷ codes "];" ∷ [])

-- a function
abbrev pub function_text : RawFunction → List ℕ
function_text f =
    line [] (codes "fn " ∷ f.name ∷ codes "(" ∷ names_text f.params ∷ codes ") {" ∷ [])
    ++ block_text (deeper []) f.body
    ++ line (deeper []) (codes "return " ∷ expression_text f.answer ∷ codes ";" ∷ [])
    ++ line [] (codes "}" ∷ [])

-- arrays, functions
abbrev pub arrays_text : List Array → List ℕ
arrays_text [] = []
arrays_text (a ∷ rest) = array_text a ++ arrays_text rest

abbrev pub functions_text : List RawFunction → List ℕ
functions_text [] = []
functions_text (f ∷ rest) = function_text f ++ functions_text rest

-- `main`
abbrev pub main_text : RawBlock → List ℕ
main_text body = line [] (codes "main {" ∷ []) ++ block_text (deeper []) body ++ line [] (codes "}" ∷ [])

-- the line that begins a program of version 2; of version 1 there is none
abbrev pub header_text : ℕ → List ℕ
header_text version = if nat_eq version 2 then line [] (codes "version 2;" ∷ []) else []

-- a whole program
abbrev pub canonical_text : RawProgram → List ℕ
canonical_text p = header_text p.version ++ arrays_text p.arrays ++ functions_text p.functions ++ main_text p.main

-- The pieces of canonical texts: their tokens, and the blanks between them.
use Rattle.std.proofs.Common.{◌≡◌, ℕ, zero, suc, arith, ◌+◌, Bool, true, false, nat_lt, nat_eq, if◌then◌else◌, length, List, [], ◌∷◌, ◌++◌, map, ℤ, pos}
use Rattle.std.specs.Fmt.{decimal, signed_decimal}
use Rattle.std.proofs.lemmas.Bool.Decides.{nat_tests}
use Rattle.spf_text.specs.declared.token.Keyword.{Keyword}
use Rattle.spf_text.specs.declared.token.Keyword.TheVariants as word
use Rattle.spf_text.specs.declared.token.Sign.{Sign}
use Rattle.spf_text.specs.declared.token.Sign.TheVariants as sign
use Rattle.spf_text.specs.declared.token.TokenKind.TheVariants as kind
use Rattle.spf_text.specs.Tokens.{Piece, Blank, Lexeme, bytes_of, word_spelling, sign_spelling}
use Rattle.spf_ast.specs.declared.syntax.Op.{Op}
use Rattle.spf_ast.specs.declared.syntax.Op.TheVariants as op
use Rattle.spf_ast.specs.declared.syntax.Test.{Test}
use Rattle.spf_ast.specs.declared.syntax.Test.TheVariants as test
use Rattle.spf_ast.specs.Syntax.{Array}
use Rattle.spf_ast.specs.RawSyntax.{RawExpression, Number, Local, Len, Input, Load, Call, Neg, Binary, Compare, Both, Either, Not, RawArguments, no_more, argument}
use Rattle.spf_ast.specs.RawSyntax.{RawPredictor, By, Host, RawFoldHead}
use Rattle.spf_ast.specs.RawSyntax.{RawStatement, Let, Assign, Store, Fill, Emit, Fail, If, For, While, Do, Fold, Pair, Break, RawBlock, end, on_line}
use Rattle.spf_ast.specs.RawSyntax.{RawFunction, RawProgram}
use Rattle.spf_ast.specs.Spelling.{raw_count}
use Rattle.spf_print_forms.specs.Canonical.{level, op_level, comparison_level, unary_level, deeper}

-- ---- single pieces

abbrev pub w : Keyword → Piece
w k = Lexeme (kind.Keyword k) (word_spelling k)

abbrev pub s : Sign → Piece
s x = Lexeme (kind.Sign x) (sign_spelling x)

abbrev pub name : List ℕ → Piece
name x = Lexeme kind.Name x

abbrev pub number : ℤ → Piece
number n = Lexeme (kind.Number n) (signed_decimal n)

abbrev pub count : ℕ → Piece
count n = Lexeme (kind.Number (pos n)) (decimal n)

abbrev pub space : Piece
space = Blank 32

abbrev pub newline : Piece
newline = Blank 10

-- the bytes of pieces
abbrev pub bytes : List Piece → List ℕ
bytes [] = []
bytes (p ∷ ps) = bytes_of p ++ bytes ps

-- pieces, one list after another
abbrev pub chain : List (List Piece) → List Piece
chain [] = []
chain (ps ∷ rest) = ps ++ chain rest

-- ---- expressions

abbrev pub op_sign : Op → Sign
op_sign op.Add = sign.Plus
op_sign op.Sub = sign.Minus
op_sign op.Mul = sign.Star
op_sign op.Div = sign.Slash
op_sign op.Rem = sign.Percent
op_sign op.And = sign.And
op_sign op.Or = sign.Or
op_sign op.Xor = sign.Xor
op_sign op.Shl = sign.ShiftLeft
op_sign op.Shr = sign.ShiftRight

abbrev pub test_sign : Test → Sign
test_sign test.Eq = sign.Equal
test_sign test.Ne = sign.NotEqual
test_sign test.Lt = sign.Less
test_sign test.Le = sign.LessEqual
test_sign test.Gt = sign.Greater
test_sign test.Ge = sign.GreaterEqual

-- a sign with a space on each side
abbrev pub spaced : Sign → List Piece
spaced x = space ∷ s x ∷ space ∷ []

abbrev pub enclosed : Bool → List Piece → List Piece
enclosed true ps = s sign.OpenParen ∷ (ps ++ s sign.CloseParen ∷ [])
enclosed false ps = ps

abbrev mutual
  pub of_expression : RawExpression → List Piece
  of_expression (Number n) = number n ∷ []
  of_expression (Local x) = name x ∷ []
  of_expression Len = w word.Len ∷ []
  of_expression (Input index) = w word.Input ∷ s sign.OpenBracket ∷ (of_expression index ++ s sign.CloseBracket ∷ [])
  of_expression (Load a index) = name a ∷ s sign.OpenBracket ∷ (of_expression index ++ s sign.CloseBracket ∷ [])
  of_expression (Call f given) = name f ∷ s sign.OpenParen ∷ (of_arguments given ++ s sign.CloseParen ∷ [])
  of_expression (Neg a) = s sign.Minus ∷ enclosed (nat_lt (level a) unary_level) (of_expression a)
  of_expression (Not a) = s sign.Not ∷ enclosed (nat_lt (level a) unary_level) (of_expression a)
  of_expression (Binary op a b) =
      enclosed (nat_lt (level a) (op_level op)) (of_expression a) ++ (spaced (op_sign op) ++ enclosed (nat_lt (level b) (op_level op + 1)) (of_expression b))
  of_expression (Compare test a b) =
      enclosed (nat_lt (level a) (comparison_level + 1)) (of_expression a) ++ (spaced (test_sign test) ++ enclosed (nat_lt (level b) (comparison_level + 1)) (of_expression b))
  of_expression (Both a b) =
      enclosed (nat_lt (level a) 2) (of_expression a) ++ (spaced sign.AndAnd ++ enclosed (nat_lt (level b) 3) (of_expression b))
  of_expression (Either a b) =
      enclosed (nat_lt (level a) 1) (of_expression a) ++ (spaced sign.OrOr ++ enclosed (nat_lt (level b) 2) (of_expression b))

  pub of_arguments : RawArguments → List Piece
  of_arguments no_more = []
  of_arguments (argument first rest) = of_expression first ++ of_further rest

  pub of_further : RawArguments → List Piece
  of_further no_more = []
  of_further (argument first rest) = s sign.Comma ∷ space ∷ (of_expression first ++ of_further rest)

abbrev pub of_predictor : RawPredictor → List Piece
of_predictor (By guess) = of_expression guess
of_predictor (Host n) = w word.Host ∷ space ∷ count n ∷ []

abbrev pub of_further_predictors : List RawPredictor → List Piece
of_further_predictors [] = []
of_further_predictors (g ∷ gs) = s sign.Comma ∷ space ∷ (of_predictor g ++ of_further_predictors gs)

abbrev pub of_predictors : List RawPredictor → List Piece
of_predictors [] = []
of_predictors (g ∷ gs) = of_predictor g ++ of_further_predictors gs

abbrev pub of_further_names : List (List ℕ) → List Piece
of_further_names [] = []
of_further_names (x ∷ xs) = s sign.Comma ∷ space ∷ name x ∷ of_further_names xs

abbrev pub of_names : List (List ℕ) → List Piece
of_names [] = []
of_names (x ∷ xs) = name x ∷ of_further_names xs

-- ---- rows

-- two parts and more are several
pub several : (n : ℕ) → nat_lt 1 (suc (suc n)) ≡ true
several n = grind (arith, nat_tests)

abbrev pub of_carried : List (List ℕ) → List Piece
of_carried xs = enclosed (nat_lt 1 (length xs)) (of_names xs)

abbrev pub of_row : RawArguments → List Piece
of_row given = enclosed (nat_lt 1 (raw_count given)) (of_arguments given)

abbrev pub of_guess : List RawPredictor → List Piece
of_guess gs = enclosed (nat_lt 1 (length gs)) (of_predictors gs)

-- ---- statements

abbrev pub blanks : List ℕ → List Piece
blanks indent = map Blank indent

-- a line of these pieces
abbrev pub on_own_line : List ℕ → List Piece → List Piece
on_own_line indent ps = blanks indent ++ (ps ++ newline ∷ [])

-- a range of numbers
abbrev pub range : RawExpression → RawExpression → List Piece
range low high = of_expression low ++ s sign.DotDot ∷ of_expression high

-- the tokens of single lines
abbrev pub let_line : List ℕ → RawExpression → List Piece
let_line x value = w word.Let ∷ space ∷ name x ∷ space ∷ s sign.Assign ∷ space ∷ (of_expression value ++ s sign.Semicolon ∷ [])

abbrev pub assign_line : List ℕ → RawExpression → List Piece
assign_line x value = name x ∷ space ∷ s sign.Assign ∷ space ∷ (of_expression value ++ s sign.Semicolon ∷ [])

-- the end of an assignment to an element or a range
abbrev pub stored : RawExpression → List Piece
stored value = s sign.CloseBracket ∷ space ∷ s sign.Assign ∷ space ∷ (of_expression value ++ s sign.Semicolon ∷ [])

abbrev pub store_line : List ℕ → RawExpression → RawExpression → List Piece
store_line a index value = name a ∷ s sign.OpenBracket ∷ (of_expression index ++ stored value)

abbrev pub fill_line : List ℕ → RawExpression → RawExpression → RawExpression → List Piece
fill_line a low high value = w word.Fill ∷ space ∷ name a ∷ s sign.OpenBracket ∷ (range low high ++ stored value)

-- a word and an expression: `emit` and `return`
abbrev pub word_line : Keyword → RawExpression → List Piece
word_line k value = w k ∷ space ∷ (of_expression value ++ s sign.Semicolon ∷ [])

-- a word and a row: `next` and `give`
abbrev pub row_line : Keyword → RawArguments → List Piece
row_line k given = w k ∷ space ∷ (of_row given ++ s sign.Semicolon ∷ [])

abbrev pub break_line : List Piece
break_line = w word.Break ∷ s sign.Semicolon ∷ []

abbrev pub fail_line : ℤ → List Piece
fail_line n = w word.Fail ∷ space ∷ number n ∷ s sign.Semicolon ∷ []

-- the end of a line that begins a block
abbrev pub opening : List Piece
opening = space ∷ s sign.OpenBrace ∷ []

abbrev pub if_line : RawExpression → List Piece
if_line test = w word.If ∷ space ∷ (of_expression test ++ opening)

abbrev pub for_line : List ℕ → RawExpression → RawExpression → List Piece
for_line x low high = w word.For ∷ space ∷ name x ∷ space ∷ w word.In ∷ space ∷ (range low high ++ opening)

abbrev pub while_line : RawExpression → ℕ → List Piece
while_line test most = w word.While ∷ space ∷ (of_expression test ++ space ∷ w word.Max ∷ space ∷ count most ∷ opening)

abbrev pub do_line : List ℕ → RawArguments → List Piece
do_line f given = name f ∷ s sign.OpenParen ∷ (of_arguments given ++ s sign.CloseParen ∷ s sign.Semicolon ∷ [])

-- the line of a fold: what comes after its range, after its start row, and after its names
abbrev pub fold_guess : RawFoldHead → List Piece
fold_guess head = space ∷ w word.Predict ∷ space ∷ (of_guess head.predict ++ opening)

abbrev pub fold_range : RawFoldHead → List Piece
fold_range head = space ∷ w word.For ∷ space ∷ name head.block ∷ space ∷ w word.In ∷ space ∷ (range head.low head.high ++ fold_guess head)

abbrev pub fold_start : RawFoldHead → List Piece
fold_start head = space ∷ s sign.Assign ∷ space ∷ (of_row head.start ++ fold_range head)

abbrev pub fold_line : RawFoldHead → List Piece
fold_line head = w word.Specfold ∷ space ∷ (of_carried head.carried ++ fold_start head)

abbrev pub pair_line : List (List ℕ) → List Piece
pair_line xs = w word.Spec ∷ space ∷ (of_carried xs ++ space ∷ s sign.Assign ∷ opening)

abbrev pub consumer_line : List RawPredictor → List Piece
consumer_line predict = s sign.CloseBrace ∷ space ∷ w word.Predict ∷ space ∷ (of_guess predict ++ opening)

abbrev pub else_line : List Piece
else_line = s sign.CloseBrace ∷ space ∷ w word.Else ∷ opening

abbrev pub close_line : List Piece
close_line = s sign.CloseBrace ∷ []

abbrev pub closing : List ℕ → List Piece
closing indent = on_own_line indent close_line

abbrev mutual
  pub of_statement : List ℕ → RawStatement → List Piece
  of_statement indent (Let x value) = on_own_line indent (let_line x value)
  of_statement indent (Assign x value) = on_own_line indent (assign_line x value)
  of_statement indent (Store a index value) = on_own_line indent (store_line a index value)
  of_statement indent (Fill a low high value) = on_own_line indent (fill_line a low high value)
  of_statement indent (Emit value) = on_own_line indent (word_line word.Emit value)
  of_statement indent (Fail n) = on_own_line indent (fail_line n)
  of_statement indent (If test a b) = on_own_line indent (if_line test) ++ (of_block (deeper indent) a ++ of_otherwise indent b)
  of_statement indent (For x low high body) = on_own_line indent (for_line x low high) ++ (of_block (deeper indent) body ++ closing indent)
  of_statement indent (While test most body) = on_own_line indent (while_line test most) ++ (of_block (deeper indent) body ++ closing indent)
  of_statement indent (Do f given) = on_own_line indent (do_line f given)
  of_statement indent (Fold head body) =
      on_own_line indent (fold_line head) ++ (of_block (deeper indent) body ++ (on_own_line (deeper indent) (row_line word.Next head.next) ++ closing indent))
  of_statement indent (Pair head producer consumer) =
      on_own_line indent (pair_line head.carried) ++ (of_block (deeper indent) producer ++ (on_own_line (deeper indent) (row_line word.Give head.give)
      ++ (on_own_line indent (consumer_line head.predict) ++ (of_block (deeper indent) consumer ++ closing indent))))
  of_statement indent Break = on_own_line indent break_line

  pub of_otherwise : List ℕ → RawBlock → List Piece
  of_otherwise indent end = closing indent
  of_otherwise indent (on_line n first rest) =
      on_own_line indent else_line ++ ((of_statement (deeper indent) first ++ of_block (deeper indent) rest) ++ closing indent)

  pub of_block : List ℕ → RawBlock → List Piece
  of_block indent end = []
  of_block indent (on_line n first rest) = of_statement indent first ++ of_block indent rest

-- ---- programs

abbrev pub of_size : ℤ → ℤ → List Piece
of_size (pos zero) offset = number offset ∷ []
of_size factor (pos zero) = number factor ∷ s sign.Star ∷ w word.Len ∷ []
of_size factor offset = number factor ∷ s sign.Star ∷ w word.Len ∷ space ∷ s sign.Plus ∷ space ∷ number offset ∷ []

abbrev pub array_line : Array → List Piece
array_line a = w word.Array ∷ space ∷ name a.name ∷ s sign.OpenBracket ∷ (of_size a.factor a.offset ++ s sign.CloseBracket ∷ s sign.Semicolon ∷ [])

abbrev pub of_array : Array → List Piece
of_array a = on_own_line [] (array_line a)

abbrev pub function_line : RawFunction → List Piece
function_line f = w word.Fn ∷ space ∷ name f.name ∷ s sign.OpenParen ∷ (of_names f.params ++ s sign.CloseParen ∷ opening)

abbrev pub of_function : RawFunction → List Piece
of_function f =
    on_own_line [] (function_line f) ++ (of_block (deeper []) f.body ++ (on_own_line (deeper []) (word_line word.Return f.answer) ++ closing []))

abbrev pub of_arrays : List Array → List Piece
of_arrays [] = []
of_arrays (a ∷ rest) = of_array a ++ of_arrays rest

abbrev pub of_functions : List RawFunction → List Piece
of_functions [] = []
of_functions (f ∷ rest) = of_function f ++ of_functions rest

abbrev pub of_main : RawBlock → List Piece
of_main body = on_own_line [] (w word.Main ∷ opening) ++ (of_block (deeper []) body ++ closing [])

abbrev pub header_line : List Piece
header_line = w word.Version ∷ space ∷ count 2 ∷ s sign.Semicolon ∷ []

abbrev pub of_header : ℕ → List Piece
of_header version = if nat_eq version 2 then on_own_line [] header_line else []

abbrev pub of_program : RawProgram → List Piece
of_program p = of_header p.version ++ (of_arrays p.arrays ++ (of_functions p.functions ++ of_main p.main))

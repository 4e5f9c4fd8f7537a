-- What contracts see of the code's programs: plain data.
use Rattle.std.specs.Prelude.{ℕ, List, [], ◌∷◌, map}
use Rattle.spf_ast.specs.declared.syntax.Name.{Name}
use Rattle.spf_ast.specs.declared.syntax.Array as code_array
use Rattle.spf_ast.specs.declared.syntax.Fold.{out-Fold}
use Rattle.spf_ast.specs.declared.syntax.Fold as code_fold
use Rattle.spf_ast.specs.declared.syntax.Pair.{out-Pair}
use Rattle.spf_ast.specs.declared.syntax.Pair as code_pair
use Rattle.spf_ast.specs.declared.syntax.Function as code_function
use Rattle.spf_ast.specs.declared.syntax.Program as code_program
use Rattle.spf_ast.specs.declared.syntax.Expr.{Expr, Row_of-Expr, end_of-Expr, more_of-Expr}
use Rattle.spf_ast.specs.declared.syntax.Expr as e
use Rattle.spf_ast.specs.declared.syntax.Cond.{Cond}
use Rattle.spf_ast.specs.declared.syntax.Cond as c
use Rattle.spf_ast.specs.declared.syntax.Predict.{Predict}
use Rattle.spf_ast.specs.declared.syntax.Predict.TheVariants as p
use Rattle.spf_ast.specs.declared.syntax.Stmt.{Stmt}
use Rattle.spf_ast.specs.declared.syntax.StmtKind.{StmtKind}
use Rattle.spf_ast.specs.declared.syntax.StmtKind as s
use Rattle.spf_ast.specs.declared.syntax.StmtKind.TheBlock.{struct-Fold, struct-Pair, Row_of-Stmt, end_of-Stmt, more_of-Stmt}
use Rattle.spf_ast.specs.Syntax.{Expression, Number, Local, Len, Input, Load, Call, Neg, Binary, Arguments, no_more, argument, arguments_of}
use Rattle.spf_ast.specs.Syntax.{Condition, Compare, Both, Either, Not, Predictor, By, Host, FoldHead, PairHead}
use Rattle.spf_ast.specs.Syntax.{Statement, Let, Assign, Store, Fill, Emit, Fail, If, For, While, Do, Fold, Pair, Break, Block, end, on_line}
use Rattle.spf_ast.specs.Syntax.{Array, Function, Program}

-- an expression, and a row of expressions that are arguments
abbrev mutual
  pub expression : Expr → Expression
  expression (e.Number n) = Number n
  expression (e.Local slot) = Local slot
  expression e.Len = Len
  expression (e.Input' place index) = Input (expression index)
  expression (e.Load' array place index) = Load array (expression index)
  expression (e.Call' f shape row) = Call f (row_arguments row)
  expression (e.Neg' place inner) = Neg (expression inner)
  expression (e.Binary' op place left other right) = Binary op (expression left) (expression right)

  pub row_arguments : {n : _} → Row_of-Expr n → Arguments
  row_arguments end_of-Expr = no_more
  row_arguments (more_of-Expr first rest) = argument (expression first) (row_arguments rest)

-- a list of expressions that are arguments
abbrev pub arguments : List Expr → Arguments
arguments es = arguments_of (map expression es)

-- a condition
abbrev pub condition : Cond → Condition
condition (c.Compare test a b) = Compare test (expression a.value) (expression b.value)
condition (c.Both' place left other right) = Both (condition left) (condition right)
condition (c.Either' place left other right) = Either (condition left) (condition right)
condition (c.Not' place inner) = Not (condition inner)

-- how a part of a carried row is guessed
abbrev pub predictor : Predict → Predictor
predictor (p.Expr guess) = By (expression guess)
predictor (p.Host number) = Host number

-- a statement, and a row of statements that is a block
abbrev mutual
  pub statement : StmtKind → Statement
  statement (s.Let slot value) = Let slot (expression value)
  statement (s.Assign slot value) = Assign slot (expression value)
  statement (s.Store array index value) = Store array (expression index) (expression value)
  statement (s.Fill array low high value) = Fill array (expression low) (expression high) (expression value)
  statement (s.Emit value) = Emit (expression value)
  statement (s.Fail number) = Fail number
  statement (s.If' test n first m second) = If (condition test) (row_block first) (row_block second)
  statement (s.For' slot low high n body) = For slot (expression low) (expression high) (row_block body)
  statement (s.While' test most n body) = While (condition test) most (row_block body)
  statement (s.Call f given) = Do f (arguments given.items)
  statement (s.Fold' place fold) = fold_statement fold
  statement (s.Pair' place pair) = pair_statement pair
  statement s.Break = Break

  pub fold_statement : code_fold.Fold → Statement
  fold_statement (struct-Fold carried start block low high predict n body next next_line) =
      Fold (record {
        carried = carried.items;
        start = arguments start.items;
        block = block;
        low = expression low;
        high = expression high;
        predict = map predictor predict.items;
        next = arguments next.items;
        next_line = next_line;
      }) (row_block body)

  pub pair_statement : code_pair.Pair → Statement
  pair_statement (struct-Pair carried n producer give give_line predict m consumer) =
      Pair (record {
        carried = carried.items;
        give = arguments give.items;
        give_line = give_line;
        predict = map predictor predict.items;
      }) (row_block producer) (row_block consumer)

  pub row_block : {n : _} → Row_of-Stmt n → Block
  row_block end_of-Stmt = end
  row_block (more_of-Stmt line kind rest) = on_line line (statement kind) (row_block rest)

-- the fields of a fold, but for its body
abbrev pub fold_head : code_fold.Fold → FoldHead
fold_head f = record {
  carried = (out-Fold f).carried.items;
  start = arguments (out-Fold f).start.items;
  block = (out-Fold f).block;
  low = expression (out-Fold f).low;
  high = expression (out-Fold f).high;
  predict = map predictor (out-Fold f).predict.items;
  next = arguments (out-Fold f).next.items;
  next_line = (out-Fold f).next_line;
}

-- the fields of a pair, but for its producer and its consumer
abbrev pub pair_head : code_pair.Pair → PairHead
pair_head f = record {
  carried = (out-Pair f).carried.items;
  give = arguments (out-Pair f).give.items;
  give_line = (out-Pair f).give_line;
  predict = map predictor (out-Pair f).predict.items;
}

-- a list of statements
abbrev pub block : List Stmt → Block
block [] = end
block (first ∷ rest) = on_line first.line (statement first.kind) (block rest)

-- a name, as its bytes
abbrev pub name : Name → List ℕ
name n = n.bytes.items

-- an array
abbrev pub array : code_array.Array → Array
array a = record { name = name a.name; factor = a.factor; offset = a.offset; line = a.line }

-- a function
abbrev pub function : code_function.Function → Function
function f = record {
  name = name f.name;
  params = f.params;
  slots = map name f.slots.items;
  body = block f.body.items;
  answer = expression f.answer;
  answer_line = f.answer_line;
  line = f.line;
}

-- a whole program
abbrev pub program : code_program.Program → Program
program p = record {
  version = p.version;
  arrays = map array p.arrays.items;
  functions = map function p.functions.items;
  slots = map name p.slots.items;
  main = block p.main.items;
}

-- What contracts see of the code's raw programs: plain data.
use Rattle.std.specs.Prelude.{List, [], ◌∷◌, map}
use Rattle.spf_ast.specs.declared.raw.RawExpr.{RawExpr, Row_of-RawExpr, end_of-RawExpr, more_of-RawExpr}
use Rattle.spf_ast.specs.declared.raw.RawExpr as e
use Rattle.spf_ast.specs.declared.raw.RawPredict.{RawPredict}
use Rattle.spf_ast.specs.declared.raw.RawPredict.TheVariants as p
use Rattle.spf_ast.specs.declared.raw.RawStmt.{RawStmt}
use Rattle.spf_ast.specs.declared.raw.RawStmtKind.{RawStmtKind}
use Rattle.spf_ast.specs.declared.raw.RawStmtKind as s
use Rattle.spf_ast.specs.declared.raw.RawStmtKind.TheBlock.{struct-RawFold, struct-RawPair, Row_of-RawStmt, end_of-RawStmt, more_of-RawStmt}
use Rattle.spf_ast.specs.declared.raw.RawFold.{out-RawFold}
use Rattle.spf_ast.specs.declared.raw.RawFold as code_fold
use Rattle.spf_ast.specs.declared.raw.RawPair.{out-RawPair}
use Rattle.spf_ast.specs.declared.raw.RawPair as code_pair
use Rattle.spf_ast.specs.declared.raw.RawFunction as code_function
use Rattle.spf_ast.specs.declared.raw.RawProgram as code_program
use Rattle.spf_ast.specs.View.{name, array}
use Rattle.spf_ast.specs.RawSyntax.{
  RawExpression,
  Number,
  Local,
  Len,
  Input,
  Load,
  Call,
  Neg,
  Binary,
  Compare,
  Both,
  Either,
  Not,
  RawArguments,
  no_more,
  argument,
  arguments_of,
}
use Rattle.spf_ast.specs.RawSyntax.{RawPredictor, By, Host, RawFoldHead, RawPairHead}
use Rattle.spf_ast.specs.RawSyntax.{RawStatement, Let, Assign, Store, Fill, Emit, Fail, If, For, While, Do, Fold, Pair, Break, RawBlock, end, on_line}
use Rattle.spf_ast.specs.RawSyntax.{RawFunction, RawProgram}

-- an expression, and a row of expressions that are arguments
abbrev mutual
  pub raw_expression : RawExpr → RawExpression
  raw_expression (e.Number n) = Number n
  raw_expression (e.Local x) = Local (name x)
  raw_expression e.Len = Len
  raw_expression (e.Input' place index) = Input (raw_expression index)
  raw_expression (e.Load' array place index) = Load (name array) (raw_expression index)
  raw_expression (e.Call' f shape row) = Call (name f) (row_raw_arguments row)
  raw_expression (e.Neg' place inner) = Neg (raw_expression inner)
  raw_expression (e.Binary' op place left other right) = Binary op (raw_expression left) (raw_expression right)
  raw_expression (e.Compare' test place left other right) = Compare test (raw_expression left) (raw_expression right)
  raw_expression (e.Both' place left other right) = Both (raw_expression left) (raw_expression right)
  raw_expression (e.Either' place left other right) = Either (raw_expression left) (raw_expression right)
  raw_expression (e.Not' place inner) = Not (raw_expression inner)

  pub row_raw_arguments : {n : _} → Row_of-RawExpr n → RawArguments
  row_raw_arguments end_of-RawExpr = no_more
  row_raw_arguments (more_of-RawExpr first rest) = argument (raw_expression first) (row_raw_arguments rest)

-- a list of expressions that are arguments
abbrev pub raw_arguments : List RawExpr → RawArguments
raw_arguments es = arguments_of (map raw_expression es)

-- how a part of a carried row is guessed
abbrev pub raw_predictor : RawPredict → RawPredictor
raw_predictor (p.Expr guess) = By (raw_expression guess)
raw_predictor (p.Host number) = Host number

-- a statement, and a row of statements that is a block
abbrev mutual
  pub raw_statement : RawStmtKind → RawStatement
  raw_statement (s.Let x value) = Let (name x) (raw_expression value)
  raw_statement (s.Assign x value) = Assign (name x) (raw_expression value)
  raw_statement (s.Store a index value) = Store (name a) (raw_expression index) (raw_expression value)
  raw_statement (s.Fill a low high value) = Fill (name a) (raw_expression low) (raw_expression high) (raw_expression value)
  raw_statement (s.Emit value) = Emit (raw_expression value)
  raw_statement (s.Fail number) = Fail number
  raw_statement (s.If' test n first m second) = If (raw_expression test) (row_raw_block first) (row_raw_block second)
  raw_statement (s.For' x low high n body) = For (name x) (raw_expression low) (raw_expression high) (row_raw_block body)
  raw_statement (s.While' test most n body) = While (raw_expression test) most (row_raw_block body)
  raw_statement (s.Call f given) = Do (name f) (raw_arguments given.items)
  raw_statement (s.Fold' place fold) = raw_fold_statement fold
  raw_statement (s.Pair' place pair) = raw_pair_statement pair
  raw_statement s.Break = Break

  pub raw_fold_statement : code_fold.RawFold → RawStatement
  raw_fold_statement (struct-RawFold carried start block low high predict n body next next_line) =
      Fold (record {
        carried = map name carried.items;
        start = raw_arguments start.items;
        block = name block;
        low = raw_expression low;
        high = raw_expression high;
        predict = map raw_predictor predict.items;
        next = raw_arguments next.items;
        next_line = next_line;
      }) (row_raw_block body)

  pub raw_pair_statement : code_pair.RawPair → RawStatement
  raw_pair_statement (struct-RawPair carried n producer give give_line predict m consumer) =
      Pair (record {
        carried = map name carried.items;
        give = raw_arguments give.items;
        give_line = give_line;
        predict = map raw_predictor predict.items;
      }) (row_raw_block producer) (row_raw_block consumer)

  pub row_raw_block : {n : _} → Row_of-RawStmt n → RawBlock
  row_raw_block end_of-RawStmt = end
  row_raw_block (more_of-RawStmt line kind rest) = on_line line (raw_statement kind) (row_raw_block rest)

-- the fields of a fold, but for its body
abbrev pub raw_fold_head : code_fold.RawFold → RawFoldHead
raw_fold_head f = record {
  carried = map name (out-RawFold f).carried.items;
  start = raw_arguments (out-RawFold f).start.items;
  block = name (out-RawFold f).block;
  low = raw_expression (out-RawFold f).low;
  high = raw_expression (out-RawFold f).high;
  predict = map raw_predictor (out-RawFold f).predict.items;
  next = raw_arguments (out-RawFold f).next.items;
  next_line = (out-RawFold f).next_line;
}

-- the fields of a pair, but for its producer and its consumer
abbrev pub raw_pair_head : code_pair.RawPair → RawPairHead
raw_pair_head f = record {
  carried = map name (out-RawPair f).carried.items;
  give = raw_arguments (out-RawPair f).give.items;
  give_line = (out-RawPair f).give_line;
  predict = map raw_predictor (out-RawPair f).predict.items;
}

-- a list of statements
abbrev pub raw_block : List RawStmt → RawBlock
raw_block [] = end
raw_block (first ∷ rest) = on_line first.line (raw_statement first.kind) (raw_block rest)

-- a function
abbrev pub raw_function : code_function.RawFunction → RawFunction
raw_function f = record {
  name = name f.name;
  params = map name f.params.items;
  body = raw_block f.body.items;
  answer = raw_expression f.answer;
  answer_line = f.answer_line;
  line = f.line;
}

-- a whole program
abbrev pub raw_program : code_program.RawProgram → RawProgram
raw_program p = record {
  version = p.version;
  arrays = map array p.arrays.items;
  functions = map raw_function p.functions.items;
  main = raw_block p.main.items;
  main_line = p.main_line;
}

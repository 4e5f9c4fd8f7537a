-- How programs are written: with names instead of the numbers of arrays, functions and slots.
use Rattle.std.specs.Prelude.{◌≡◌, ◌⊎◌, Bool, true, false, ◌||◌, ℕ, suc, ◌<◌, ◌^◌, List, [], length, map, take, slice_index_or, pos}
use Rattle.std.specs.List.{All}
use Rattle.spf_ast.specs.Syntax as s
use Rattle.spf_ast.specs.Syntax.{Expression, Arguments, Condition, Predictor, FoldHead, PairHead, Statement, Block, Array, Function, Program}
use Rattle.spf_ast.specs.RawSyntax.{
  RawExpression,
  Number,
  Local,
  Len,
  Input,
  Load,
  Call,
  Neg,
  Binary,
  Compare,
  Both,
  Either,
  Not,
  RawArguments,
  no_more,
  argument,
}
use Rattle.spf_ast.specs.RawSyntax.{RawPredictor, By, Host, RawFoldHead, RawPairHead}
use Rattle.spf_ast.specs.RawSyntax.{RawStatement, Let, Assign, Store, Fill, Emit, Fail, If, For, While, Do, Fold, Pair, Break, RawBlock, end, on_line}
use Rattle.spf_ast.specs.RawSyntax.{RawFunction, RawProgram}
use Rattle.spf_ast.specs.Lawful.{IsName, IsNumber}
use Rattle.spf_ast.specs.Carried.{IsWidth}

-- ---- the text of a resolved program

-- the names that the numbers of a form stand for: those of the arrays, of the functions, and of its own slots
pub record Vocabulary : Type 0 where
  pub arrays : List (List ℕ)
  pub functions : List (List ℕ)
  pub slots : List (List ℕ)

-- the name at an index; at none, no bytes
abbrev pub name_at : List (List ℕ) → ℕ → List ℕ
name_at names index = slice_index_or names index []

abbrev mutual
  -- an expression, written
  pub spelled_expression : Vocabulary → Expression → RawExpression
  spelled_expression v (s.Number n) = Number n
  spelled_expression v (s.Local slot) = Local (name_at v.slots slot)
  spelled_expression v s.Len = Len
  spelled_expression v (s.Input index) = Input (spelled_expression v index)
  spelled_expression v (s.Load a index) = Load (name_at v.arrays a) (spelled_expression v index)
  spelled_expression v (s.Call f given) = Call (name_at v.functions f) (spelled_arguments v given)
  spelled_expression v (s.Neg inner) = Neg (spelled_expression v inner)
  spelled_expression v (s.Binary op a b) = Binary op (spelled_expression v a) (spelled_expression v b)

  -- arguments
  pub spelled_arguments : Vocabulary → Arguments → RawArguments
  spelled_arguments v s.no_more = no_more
  spelled_arguments v (s.argument first rest) = argument (spelled_expression v first) (spelled_arguments v rest)

-- a condition
abbrev pub spelled_condition : Vocabulary → Condition → RawExpression
spelled_condition v (s.Compare test a b) = Compare test (spelled_expression v a) (spelled_expression v b)
spelled_condition v (s.Both c d) = Both (spelled_condition v c) (spelled_condition v d)
spelled_condition v (s.Either c d) = Either (spelled_condition v c) (spelled_condition v d)
spelled_condition v (s.Not c) = Not (spelled_condition v c)

-- a predictor
abbrev pub spelled_predictor : Vocabulary → Predictor → RawPredictor
spelled_predictor v (s.By guess) = By (spelled_expression v guess)
spelled_predictor v (s.Host number) = Host number

-- the names of a row's slots
abbrev pub spelled_names : Vocabulary → List ℕ → List (List ℕ)
spelled_names v slots = map (name_at v.slots) slots

-- the fields of a fold, but for its body
abbrev pub spelled_fold : Vocabulary → FoldHead → RawFoldHead
spelled_fold v f = record {
  carried = spelled_names v f.carried;
  start = spelled_arguments v f.start;
  block = name_at v.slots f.block;
  low = spelled_expression v f.low;
  high = spelled_expression v f.high;
  predict = map (spelled_predictor v) f.predict;
  next = spelled_arguments v f.next;
  next_line = f.next_line;
}

-- the fields of a pair, but for its producer and its consumer
abbrev pub spelled_pair : Vocabulary → PairHead → RawPairHead
spelled_pair v p = record {
  carried = spelled_names v p.carried;
  give = spelled_arguments v p.give;
  give_line = p.give_line;
  predict = map (spelled_predictor v) p.predict;
}

abbrev mutual
  -- a statement
  pub spelled_statement : Vocabulary → Statement → RawStatement
  spelled_statement v (s.Let slot value) = Let (name_at v.slots slot) (spelled_expression v value)
  spelled_statement v (s.Assign slot value) = Assign (name_at v.slots slot) (spelled_expression v value)
  spelled_statement v (s.Store a index value) = Store (name_at v.arrays a) (spelled_expression v index) (spelled_expression v value)
  spelled_statement v (s.Fill a low high value) =
      Fill (name_at v.arrays a) (spelled_expression v low) (spelled_expression v high) (spelled_expression v value)
  spelled_statement v (s.Emit value) = Emit (spelled_expression v value)
  spelled_statement v (s.Fail number) = Fail (pos number)
  spelled_statement v (s.If test a b) = If (spelled_condition v test) (spelled_block v a) (spelled_block v b)
  spelled_statement v (s.For slot low high body) =
      For (name_at v.slots slot) (spelled_expression v low) (spelled_expression v high) (spelled_block v body)
  spelled_statement v (s.While test most body) = While (spelled_condition v test) most (spelled_block v body)
  spelled_statement v (s.Do f given) = Do (name_at v.functions f) (spelled_arguments v given)
  spelled_statement v (s.Fold head body) = Fold (spelled_fold v head) (spelled_block v body)
  spelled_statement v (s.Pair head producer consumer) = Pair (spelled_pair v head) (spelled_block v producer) (spelled_block v consumer)
  spelled_statement v s.Break = Break

  -- a block
  pub spelled_block : Vocabulary → Block → RawBlock
  spelled_block v s.end = end
  spelled_block v (s.on_line line first rest) = on_line line (spelled_statement v first) (spelled_block v rest)

-- the names of a program's arrays and functions, and of these slots
abbrev pub vocabulary : Program → List (List ℕ) → Vocabulary
vocabulary p slots = record {
  arrays = map (λ (a : Array). a.name) p.arrays;
  functions = map (λ (f : Function). f.name) p.functions;
  slots = slots;
}

-- a function
abbrev pub spelled_function : Program → Function → RawFunction
spelled_function p f = record {
  name = f.name;
  params = take f.params f.slots;
  body = spelled_block (vocabulary p f.slots) f.body;
  answer = spelled_expression (vocabulary p f.slots) f.answer;
  answer_line = f.answer_line;
  line = f.line;
}

-- a whole program, whose word `main` is on this line
abbrev pub spelled : ℕ → Program → RawProgram
spelled main_line p = record {
  version = p.version;
  arrays = p.arrays;
  functions = map (spelled_function p) p.functions;
  main = spelled_block (vocabulary p p.slots) p.main;
  main_line = main_line;
}

-- ---- what a text can hold

abbrev mutual
  -- the names of an expression are names, and its numbers are numbers that a text can hold
  pub IsWritableExpression : RawExpression → Type 0
  IsWritableExpression (Number n) = IsNumber n
  IsWritableExpression (Local x) = IsName x
  IsWritableExpression Len = Unit {0}
  IsWritableExpression (Input index) = IsWritableExpression index
  IsWritableExpression (Load a index) = IsName a × IsWritableExpression index
  IsWritableExpression (Call f given) = IsName f × AreWritableArguments given
  IsWritableExpression (Neg inner) = IsWritableExpression inner
  IsWritableExpression (Binary op a b) = IsWritableExpression a × IsWritableExpression b
  IsWritableExpression (Compare test a b) = IsWritableExpression a × IsWritableExpression b
  IsWritableExpression (Both a b) = IsWritableExpression a × IsWritableExpression b
  IsWritableExpression (Either a b) = IsWritableExpression a × IsWritableExpression b
  IsWritableExpression (Not inner) = IsWritableExpression inner

  -- of arguments
  pub AreWritableArguments : RawArguments → Type 0
  AreWritableArguments no_more = Unit {0}
  AreWritableArguments (argument first rest) = IsWritableExpression first × AreWritableArguments rest

-- how many there are
abbrev pub raw_count : RawArguments → ℕ
raw_count no_more = 0
raw_count (argument first rest) = suc (raw_count rest)

-- of a predictor of one part of a row
abbrev pub IsWritablePredictor : RawPredictor → Type 0
IsWritablePredictor (By guess) = IsWritableExpression guess
IsWritablePredictor (Host number) = number < 2 ^ 63

-- of a fold, but for its body; it has one to four carried names
abbrev pub IsWritableFold : RawFoldHead → Type 0
IsWritableFold f =
    All IsName f.carried
    × AreWritableArguments f.start
    × IsName f.block
    × IsWritableExpression f.low
    × IsWritableExpression f.high
    × All IsWritablePredictor f.predict
    × AreWritableArguments f.next
    × IsWidth (length f.carried)

-- of a pair, but for its producer and its consumer; it has one to four carried names
abbrev pub IsWritablePair : RawPairHead → Type 0
IsWritablePair p =
    All IsName p.carried × AreWritableArguments p.give × All IsWritablePredictor p.predict × IsWidth (length p.carried)

abbrev mutual
  -- of a statement
  pub IsWritableStatement : RawStatement → Type 0
  IsWritableStatement (Let x value) = IsName x × IsWritableExpression value
  IsWritableStatement (Assign x value) = IsName x × IsWritableExpression value
  IsWritableStatement (Store a index value) = IsName a × IsWritableExpression index × IsWritableExpression value
  IsWritableStatement (Fill a low high value) =
      IsName a × IsWritableExpression low × IsWritableExpression high × IsWritableExpression value
  IsWritableStatement (Emit value) = IsWritableExpression value
  IsWritableStatement (Fail number) = IsNumber number
  IsWritableStatement (If test a b) = IsWritableExpression test × IsWritableBlock a × IsWritableBlock b
  IsWritableStatement (For x low high body) =
      IsName x × IsWritableExpression low × IsWritableExpression high × IsWritableBlock body
  IsWritableStatement (While test most body) = IsWritableExpression test × (most < 2 ^ 63) × IsWritableBlock body
  IsWritableStatement (Do f given) = IsName f × AreWritableArguments given
  IsWritableStatement (Fold head body) = IsWritableFold head × IsWritableBlock body
  IsWritableStatement (Pair head producer consumer) = IsWritablePair head × IsWritableBlock producer × IsWritableBlock consumer
  IsWritableStatement Break = Unit {0}

  -- of a block
  pub IsWritableBlock : RawBlock → Type 0
  IsWritableBlock end = Unit {0}
  IsWritableBlock (on_line line first rest) = IsWritableStatement first × IsWritableBlock rest

-- of an array
abbrev pub IsWritableArray : Array → Type 0
IsWritableArray a = IsName a.name × IsNumber a.factor × IsNumber a.offset

-- of a function
abbrev pub IsWritableFunction : RawFunction → Type 0
IsWritableFunction f = IsName f.name × All IsName f.params × IsWritableBlock f.body × IsWritableExpression f.answer

abbrev mutual
  -- a `break` stands in a statement, at any depth
  pub has_break : RawStatement → Bool
  has_break Break = true
  has_break (If test a b) = holds_break a || holds_break b
  has_break (For x low high body) = holds_break body
  has_break (While test most body) = holds_break body
  has_break (Fold head body) = holds_break body
  has_break (Pair head producer consumer) = holds_break producer || holds_break consumer
  has_break _ = false

  -- in a block
  pub holds_break : RawBlock → Bool
  holds_break end = false
  holds_break (on_line line first rest) = has_break first || holds_break rest

-- `break` stands only in version 2
pub record BreaksAreAllowed (p : RawProgram) : Type 0 where
  pub main : (p.version ≡ 1) → holds_break p.main ≡ false
  pub functions : (p.version ≡ 1) → All (λ (f : RawFunction). holds_break f.body ≡ false) p.functions

-- A raw program is well-formed: its names are names, its numbers are numbers that a text can hold, its constructs have
-- one to four carried names, and it is written in one of the two versions of the language.
pub record IsWellFormed (p : RawProgram) : Type 0 where
  pub version : (p.version ≡ 1) ⊎ (p.version ≡ 2)
  pub breaks : BreaksAreAllowed p
  pub arrays : All IsWritableArray p.arrays
  pub functions : All IsWritableFunction p.functions
  pub main : IsWritableBlock p.main

-- the parts of a fold, and those of a pair, are rows: one to four parts each
pub record FoldHasRows (f : RawFoldHead) : Type 0 where
  pub start : IsWidth (raw_count f.start)
  pub predict : IsWidth (length f.predict)
  pub next : IsWidth (raw_count f.next)

pub record PairHasRows (p : RawPairHead) : Type 0 where
  pub give : IsWidth (raw_count p.give)
  pub predict : IsWidth (length p.predict)

abbrev mutual
  -- so it is with each construct in a statement, at any depth
  pub HasRows : RawStatement → Type 0
  HasRows (If test a b) = HoldRows a × HoldRows b
  HasRows (For x low high body) = HoldRows body
  HasRows (While test most body) = HoldRows body
  HasRows (Fold head body) = FoldHasRows head × HoldRows body
  HasRows (Pair head producer consumer) = PairHasRows head × HoldRows producer × HoldRows consumer
  HasRows _ = Unit {0}

  -- in a block
  pub HoldRows : RawBlock → Type 0
  HoldRows end = Unit {0}
  HoldRows (on_line line first rest) = HasRows first × HoldRows rest

-- a raw program can be written: it is well-formed, and its constructs have rows
pub record IsWritable (p : RawProgram) : Type 0 where
  pub well_formed : IsWellFormed p
  pub functions : All (λ (f : RawFunction). HoldRows f.body) p.functions
  pub main : HoldRows p.main

-- What the resolver answers for each raw form, from where the form stands, and from the locals and the slots so far.
use Rattle.std.specs.Prelude.{◌≡◌, ℕ, Bool, true, List, [], ◌∷◌, ◌++◌, length, map, Result, None}
use Rattle.std.specs.declared.vec.Vec.{Vec}
use Rattle.std.specs.declared.boxed.Box.{Box}
use Rattle.std.specs.declared.alloc.Global.{Global}
use Rattle.spf_ast.specs.declared.syntax.Name.{Name}
use Rattle.spf_ast.specs.declared.syntax.Expr.{Expr}
use Rattle.spf_ast.specs.declared.syntax.Predict.{Predict}
use Rattle.spf_ast.specs.declared.syntax.Stmt.{Stmt}
use Rattle.spf_ast.specs.declared.syntax.StmtKind.{StmtKind}
use Rattle.spf_ast.specs.declared.raw.RawExpr.{RawExpr}
use Rattle.spf_ast.specs.declared.raw.RawStmt.{RawStmt}
use Rattle.spf_ast.specs.declared.raw.RawFold.{RawFold, out-RawFold}
use Rattle.spf_ast.specs.declared.raw.RawPair.{RawPair, out-RawPair}
use Rattle.spf_ast.specs.Syntax.{Expression, Arguments, Condition, Predictor, FoldHead, PairHead, Block}
use Rattle.spf_ast.specs.RawSyntax.{RawExpression, RawArguments, RawPredictor, RawFoldHead, RawStatement, RawBlock}
use Rattle.spf_ast.specs.RawSyntax as r
use Rattle.spf_ast.specs.View.{name, expression, arguments, predictor, statement, block}
use Rattle.spf_ast.specs.RawView.{raw_expression, raw_block, raw_fold_head, raw_pair_head}
use Rattle.spf_types_names.specs.declared.fault.TypeError.{TypeError}
use Rattle.spf_types_names.specs.Globals.{Globals}
use Rattle.spf_types_names.specs.Locals.{Local, Seen, binding_of}
use Rattle.spf_types_names.specs.Faults.{Fault, Setting, a_number, a_truth, expression_faults, arguments_faults, predictor_faults, predictors_faults}
use Rattle.spf_types_names.specs.Faults.{fold_faults, statement_faults, block_faults, valued_faults, rowed_faults, in_part}
use Rattle.spf_types_names.specs.Resolved.{scope, fixed, with_each, row_slots, block_slot, locals_at_end}
use Rattle.spf_types_names.specs.Resolved.{resolved_expression, resolved_arguments, resolved_condition, resolved_predictor, resolved_predictors}
use Rattle.spf_types_names.specs.Resolved.{resolved_statement, resolved_block}
use Rattle.spf_types_names.specs.Answers.{Answers}
use Rattle.spf_types_forms.specs.declared.header.Header.{Header}

-- ---- raw statements, from the parts that the parser gave

-- a `let`
abbrev pub raw_let : Name → RawExpr → RawStatement
raw_let x value = r.Let (name x) (raw_expression value)

-- an assignment
abbrev pub raw_assign : Name → RawExpr → RawStatement
raw_assign x value = r.Assign (name x) (raw_expression value)

-- a store into an array, at an index
abbrev pub raw_store : Name → RawExpr → RawExpr → RawStatement
raw_store array index value = r.Store (name array) (raw_expression index) (raw_expression value)

-- a `fill` of an array, between two indices
abbrev pub raw_fill : Name → RawExpr → RawExpr → RawExpr → RawStatement
raw_fill array low high value = r.Fill (name array) (raw_expression low) (raw_expression high) (raw_expression value)

-- an `if`
abbrev pub raw_if : RawExpr → List RawStmt → List RawStmt → RawStatement
raw_if test first second = r.If (raw_expression test) (raw_block first) (raw_block second)

-- a `for`
abbrev pub raw_for : Name → RawExpr → RawExpr → List RawStmt → RawStatement
raw_for x low high body = r.For (name x) (raw_expression low) (raw_expression high) (raw_block body)

-- a `while`, which turns at most so often
abbrev pub raw_while : RawExpr → ℕ → List RawStmt → RawStatement
raw_while test most body = r.While (raw_expression test) most (raw_block body)

-- the body of a fold
abbrev pub body_of : RawFold → RawBlock
body_of raw = raw_block (out-RawFold raw).body.items

-- the producer and the consumer of a pair
abbrev pub producer_of : RawPair → RawBlock
producer_of raw = raw_block (out-RawPair raw).producer.items

abbrev pub consumer_of : RawPair → RawBlock
consumer_of raw = raw_block (out-RawPair raw).consumer.items

-- a fold and a pair
abbrev pub raw_fold : RawFold → RawStatement
raw_fold raw = r.Fold (raw_fold_head raw) (body_of raw)

abbrev pub raw_pair : RawPair → RawStatement
raw_pair raw = r.Pair (raw_pair_head raw) (producer_of raw) (consumer_of raw)

-- ---- locals and slots

-- these names take the next slots, but may not be used
abbrev pub with_slots : Seen → List (List ℕ) → Seen
with_slots seen names = record { locals = seen.locals; slots = seen.slots ++ names }

-- the names of a fold
abbrev pub names_of_fold : RawFoldHead → List (List ℕ)
names_of_fold head = head.carried ++ head.block ∷ []

-- these names may also be used, in the slots from this one on, but not assigned
abbrev pub showing_row : Seen → ℕ → List (List ℕ) → Seen
showing_row seen first names = record { locals = with_each true seen.locals first names; slots = seen.slots }

-- the block number of a fold may also be used, in this slot, but not assigned
abbrev pub showing_block : Seen → ℕ → RawFoldHead → Seen
showing_block seen slot head = record { locals = fixed head.block slot ∷ seen.locals; slots = seen.slots }

-- in the body of a fold, what it carries and its block number may also be used
abbrev pub inside_fold : Seen → ℕ → ℕ → RawFoldHead → Seen
inside_fold seen first slot head = showing_block (showing_row seen first head.carried) slot head

-- the name of a fold's block number is new besides the names that the fold carries, whatever their slots
abbrev pub BlockIsNew : List Local → RawFoldHead → Type 0
BlockIsNew locals head = (fixed : Bool) (n : ℕ) → binding_of (with_each fixed locals n head.carried) head.block ≡ None

-- a header has the slots of a fold's names, of which the first is this one
abbrev pub HasSlots : Header → ℕ → RawFoldHead → Type 0
HasSlots h first head = (h.first ≡ first) × (h.carried.items ≡ row_slots first head.carried) × (h.block ≡ block_slot first head)

-- ---- answers of parts

-- a test passes where there are no faults, or refuses with the first one
abbrev pub Tests : {X : Type 0} → List Fault → Result X TypeError → Type 0
Tests faults = Answers faults (λ x. tt {0}) (tt {0})

-- the first fault of a raw expression that is to give a number, or the expression that it stands for
abbrev pub AnswersNumber : {X : Type 0} → Setting → Seen → ℕ → RawExpression → (X → Expression) → Result X TypeError → Type 0
AnswersNumber here seen line raw view =
    Answers (expression_faults here (scope seen.locals) line a_number raw) view (resolved_expression here.globals seen.locals raw)

-- the first fault of a raw expression that is to give a truth value, or the condition that it stands for
abbrev pub AnswersCondition : {X : Type 0} → Setting → Seen → ℕ → RawExpression → (X → Condition) → Result X TypeError → Type 0
AnswersCondition here seen line raw view =
    Answers (expression_faults here (scope seen.locals) line a_truth raw) view (resolved_condition here.globals seen.locals raw)

-- the first fault of raw arguments, or the arguments that they stand for
abbrev pub AnswersArguments : Setting → Seen → ℕ → RawArguments → Result (Vec Expr Global) TypeError → Type 0
AnswersArguments here seen line raw =
    Answers (arguments_faults here (scope seen.locals) line raw) (λ v. arguments v.items) (resolved_arguments here.globals seen.locals raw)

-- the first fault of a raw predictor, or the predictor that it stands for
abbrev pub AnswersPredictor : Setting → Seen → ℕ → RawPredictor → Result Predict TypeError → Type 0
AnswersPredictor here seen line raw =
    Answers (predictor_faults here (scope seen.locals) line raw) predictor (resolved_predictor here.globals seen.locals raw)

-- the first fault of raw predictors, or the predictors that they stand for
abbrev pub AnswersPredictors : Setting → Seen → ℕ → List RawPredictor → Result (Vec Predict Global) TypeError → Type 0
AnswersPredictors here seen line raw =
    Answers (predictors_faults here (scope seen.locals) line raw) (λ v. map predictor v.items) (resolved_predictors here.globals seen.locals raw)

-- the first fault of a fold's predictors, which may use its block number, or what they stand for
abbrev pub AnswersGuesses : Setting → Seen → ℕ → RawFoldHead → ℕ → Result (Vec Predict Global) TypeError → Type 0
AnswersGuesses here seen line head slot = AnswersPredictors here (showing_block seen slot head) line head.predict

-- ---- answers of statements

-- the first fault of a raw statement, or the statement that it stands for
abbrev pub AnswersStatement : Setting → Seen → ℕ → RawStatement → Result StmtKind TypeError → Type 0
AnswersStatement here seen line raw =
    Answers (statement_faults here (scope seen.locals) line raw) statement (resolved_statement here.globals seen.locals (length seen.slots) raw)

-- the first fault of a raw block, or the block that it stands for
abbrev pub AnswersBlock : Setting → Seen → RawBlock → Result (Vec Stmt Global) TypeError → Type 0
AnswersBlock here seen raw =
    Answers (block_faults here (scope seen.locals) raw) (λ v. block v.items) (resolved_block here.globals seen.locals (length seen.slots) raw)

-- the locals at the end of a raw block
abbrev pub locals_behind : Seen → RawBlock → List Local
locals_behind seen raw = locals_at_end seen.locals (length seen.slots) raw

-- the first fault of a raw block and then a number on a line, or what they stand for
abbrev pub AnswersValue : Setting → Seen → RawBlock → ℕ → RawExpression → Result (Vec Stmt Global × Box Expr Global) TypeError → Type 0
AnswersValue here seen raw line value =
    Answers {A = Block × Expression} (valued_faults here (scope seen.locals) raw line value)
    (λ p. (block p.0.items, expression p.1.value))
    (resolved_block here.globals seen.locals (length seen.slots) raw, resolved_expression here.globals (locals_behind seen raw) value)

-- the first fault of a part of a construct and then a row on a line, or what they stand for
abbrev pub AnswersRow : Setting → Seen → RawBlock → ℕ → RawArguments → Result (Vec Stmt Global × Vec Expr Global) TypeError → Type 0
AnswersRow here seen raw line row =
    Answers {A = Block × Arguments} (rowed_faults here (scope seen.locals) raw line row)
    (λ p. (block p.0.items, arguments p.1.items))
    (resolved_block here.globals seen.locals (length seen.slots) raw, resolved_arguments here.globals (locals_behind seen raw) row)

-- the first fault of a fold's body and its `next`, or what they stand for
abbrev pub AnswersBody : Setting → Seen → RawFold → Result (Vec Stmt Global × Vec Expr Global) TypeError → Type 0
AnswersBody here seen raw = AnswersRow here seen (body_of raw) (raw_fold_head raw).next_line (raw_fold_head raw).next

-- the first fault of a pair's consumer, or what it stands for
abbrev pub AnswersConsumer : Setting → Seen → RawPair → Result (Vec Stmt Global) TypeError → Type 0
AnswersConsumer here seen raw = AnswersBlock (in_part here) seen (consumer_of raw)

-- ---- answers of headers

-- the start of a fold, the ends of its range, and its predictors
abbrev pub HeaderParts : Type 0
HeaderParts = Arguments × Expression × Expression × List Predictor

-- those of a header
abbrev pub header_parts : Header → HeaderParts
header_parts h = (arguments h.start.items, expression h.low.value, expression h.high.value, map predictor h.predict.items)

-- those that a raw fold's head stands for
abbrev pub resolved_header : Globals → Seen → RawFoldHead → HeaderParts
resolved_header g seen head = (
  resolved_arguments g seen.locals head.start,
  resolved_expression g seen.locals head.low,
  resolved_expression g seen.locals head.high,
  resolved_predictors g (fixed head.block (block_slot (length seen.slots) head) ∷ seen.locals) head.predict,
)

-- the first fault of a fold's head, or what it stands for
abbrev pub AnswersHeader : Setting → Seen → ℕ → RawFoldHead → Result Header TypeError → Type 0
AnswersHeader here seen line head =
    Answers (fold_faults here (scope seen.locals) line head) header_parts (resolved_header here.globals seen head)

-- ---- heads that are made

-- the head of a fold that a header, a row and its line make
abbrev pub fold_head_of : Header → Vec Expr Global → ℕ → FoldHead
fold_head_of header next next_line = record {
  carried = header.carried.items;
  start = arguments header.start.items;
  block = header.block;
  low = expression header.low.value;
  high = expression header.high.value;
  predict = map predictor header.predict.items;
  next = arguments next.items;
  next_line = next_line;
}

-- the head of a pair that slots, a row, its line and predictors make
abbrev pub pair_head_of : Vec ℕ Global → Vec Expr Global → ℕ → Vec Predict Global → PairHead
pair_head_of carried give give_line predict = record {
  carried = carried.items;
  give = arguments give.items;
  give_line = give_line;
  predict = map predictor predict.items;
}

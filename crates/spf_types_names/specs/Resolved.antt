-- The forms that raw forms without faults stand for.
use Rattle.std.specs.Prelude.{ℕ, ◌+◌, Bool, true, false, List, [], ◌∷◌, ◌++◌, length, map, Option, Some, None, ℤ, pos, negsuc}
use Rattle.spf_ast.specs.declared.syntax.Test.TheVariants as test
use Rattle.spf_ast.specs.Syntax as s
use Rattle.spf_ast.specs.Syntax.{Expression, Arguments, Condition, Predictor, FoldHead, PairHead, Statement, Block, Array, Function, Program}
use Rattle.spf_ast.specs.RawSyntax.{RawExpression, Number, Local, Input, Load, Call, Neg, Binary, Compare, Both, Either, Not, RawArguments, no_more, argument}
use Rattle.spf_ast.specs.RawSyntax.{
  RawPredictor,
  By,
  Host,
  RawFoldHead,
  RawStatement,
  Let,
  Assign,
  Store,
  Fill,
  Emit,
  Fail,
  If,
  For,
  While,
  Do,
  Fold,
  Pair,
  Break,
  RawBlock,
  end,
  on_line,
  RawFunction,
  RawProgram,
}
use Rattle.spf_types_names.specs.declared.globals.Outer.{Outer}
use Rattle.spf_types_names.specs.declared.globals.Outer.TheVariants as outer
use Rattle.spf_types_names.specs.declared.locals.Binding.{Binding}
use Rattle.spf_types_names.specs.Globals.{Globals, globals_of, global_named}
use Rattle.spf_types_names.specs.Locals as l
use Rattle.spf_types_names.specs.Locals.{binding_of}
use Rattle.spf_types_names.specs.Faults.{Scope}

-- ---- names

-- a local that may be assigned, and one that may not
abbrev pub free : List ℕ → ℕ → l.Local
free x slot = record { name = x; slot = slot; fixed = false }

abbrev pub fixed : List ℕ → ℕ → l.Local
fixed x slot = record { name = x; slot = slot; fixed = true }

-- locals of these names besides others, declared from left to right, the first of which has slot n
abbrev pub with_each : Bool → List l.Local → ℕ → List (List ℕ) → List l.Local
with_each fixed ls n [] = ls
with_each fixed ls n (x ∷ xs) = with_each fixed (record { name = x; slot = n; fixed = fixed } ∷ ls) (n + 1) xs

-- their slots
abbrev pub row_slots : ℕ → List (List ℕ) → List ℕ
row_slots n [] = []
row_slots n (x ∷ xs) = n ∷ row_slots (n + 1) xs

-- the scope of these locals
abbrev pub scope : List l.Local → Scope
scope ls = map (λ (v : l.Local). record { name = v.name; fixed = v.fixed }) ls

-- the slot of a name; 0 where it has none
abbrev pub slot_of : List l.Local → List ℕ → ℕ
slot_of ls x = slot (binding_of ls x)
  where
    slot : Option Binding → ℕ
    slot (Some b) = b.slot
    slot None = 0

-- the index of a name's array or function; 0 where it has none
abbrev pub index_of : Globals → List ℕ → ℕ
index_of g x = index (global_named g x)
  where
    index : Option Outer → ℕ
    index (Some (outer.Array n)) = n
    index (Some (outer.Function n)) = n
    index None = 0

-- ---- expressions

abbrev mutual
  -- an expression; a truth value stands for none
  pub resolved_expression : Globals → List l.Local → RawExpression → Expression
  resolved_expression g ls (Number n) = s.Number n
  resolved_expression g ls (Local x) = s.Local (slot_of ls x)
  resolved_expression g ls (Input index) = s.Input (resolved_expression g ls index)
  resolved_expression g ls (Load a index) = s.Load (index_of g a) (resolved_expression g ls index)
  resolved_expression g ls (Call f given) = s.Call (index_of g f) (resolved_arguments g ls given)
  resolved_expression g ls (Neg inner) = s.Neg (resolved_expression g ls inner)
  resolved_expression g ls (Binary op a b) = s.Binary op (resolved_expression g ls a) (resolved_expression g ls b)
  resolved_expression g ls _ = s.Len

  -- arguments
  pub resolved_arguments : Globals → List l.Local → RawArguments → Arguments
  resolved_arguments g ls no_more = s.no_more
  resolved_arguments g ls (argument first rest) = s.argument (resolved_expression g ls first) (resolved_arguments g ls rest)

-- a condition; a number stands for none
abbrev pub resolved_condition : Globals → List l.Local → RawExpression → Condition
resolved_condition g ls (Compare t a b) = s.Compare t (resolved_expression g ls a) (resolved_expression g ls b)
resolved_condition g ls (Both c d) = s.Both (resolved_condition g ls c) (resolved_condition g ls d)
resolved_condition g ls (Either c d) = s.Either (resolved_condition g ls c) (resolved_condition g ls d)
resolved_condition g ls (Not c) = s.Not (resolved_condition g ls c)
resolved_condition g ls _ = s.Compare test.Eq s.Len s.Len

-- a predictor
abbrev pub resolved_predictor : Globals → List l.Local → RawPredictor → Predictor
resolved_predictor g ls (By guess) = s.By (resolved_expression g ls guess)
resolved_predictor g ls (Host number) = s.Host number

-- the predictors of a row's parts
abbrev pub resolved_predictors : Globals → List l.Local → List RawPredictor → List Predictor
resolved_predictors g ls [] = []
resolved_predictors g ls (first ∷ rest) = resolved_predictor g ls first ∷ resolved_predictors g ls rest

-- ---- statements

abbrev mutual
  -- the names that a statement declares, in the order of the text
  pub names_of : RawStatement → List (List ℕ)
  names_of (Let x value) = x ∷ []
  names_of (If test a b) = names_in a ++ names_in b
  names_of (For x low high body) = x ∷ names_in body
  names_of (While test most body) = names_in body
  names_of (Fold head body) = head.carried ++ head.block ∷ names_in body
  names_of (Pair head producer consumer) = head.carried ++ (names_in producer ++ names_in consumer)
  names_of _ = []

  -- the names that a block declares
  pub names_in : RawBlock → List (List ℕ)
  names_in end = []
  names_in (on_line line first rest) = names_of first ++ names_in rest

-- how many slots a block takes
abbrev pub slots_in : RawBlock → ℕ
slots_in b = length (names_in b)

-- the locals after a statement whose first declaration has slot n
abbrev pub locals_after : List l.Local → ℕ → RawStatement → List l.Local
locals_after ls n (Let x value) = free x n ∷ ls
locals_after ls n (Fold head body) = with_each false ls n head.carried
locals_after ls n (Pair head producer consumer) = with_each false ls n head.carried
locals_after ls n _ = ls

-- the locals at the end of a block
abbrev pub locals_at_end : List l.Local → ℕ → RawBlock → List l.Local
locals_at_end ls n end = ls
locals_at_end ls n (on_line line first rest) = locals_at_end (locals_after ls n first) (n + length (names_of first)) rest

-- the slot of a fold's block name, and the first slot of its body
abbrev pub block_slot : ℕ → RawFoldHead → ℕ
block_slot n head = n + length head.carried

abbrev pub body_slot : ℕ → RawFoldHead → ℕ
body_slot n head = n + length head.carried + 1

-- the locals of a fold's body
abbrev pub body_locals : List l.Local → ℕ → RawFoldHead → List l.Local
body_locals ls n head = fixed head.block (block_slot n head) ∷ with_each true ls n head.carried

-- a number that isn't negative
abbrev pub natural : ℤ → ℕ
natural (pos n) = n
natural (negsuc n) = 0

abbrev mutual
  -- a statement whose first declaration has slot n
  pub resolved_statement : Globals → List l.Local → ℕ → RawStatement → Statement
  resolved_statement g ls n (Let x value) = s.Let n (resolved_expression g ls value)
  resolved_statement g ls n (Assign x value) = s.Assign (slot_of ls x) (resolved_expression g ls value)
  resolved_statement g ls n (Store a index value) = s.Store (index_of g a) (resolved_expression g ls index) (resolved_expression g ls value)
  resolved_statement g ls n (Fill a low high value) =
      s.Fill (index_of g a) (resolved_expression g ls low) (resolved_expression g ls high) (resolved_expression g ls value)
  resolved_statement g ls n (Emit value) = s.Emit (resolved_expression g ls value)
  resolved_statement g ls n (Fail number) = s.Fail (natural number)
  resolved_statement g ls n (If test a b) =
      s.If (resolved_condition g ls test) (resolved_block g ls n a) (resolved_block g ls (n + slots_in a) b)
  resolved_statement g ls n (For x low high body) =
      s.For n (resolved_expression g ls low) (resolved_expression g ls high) (resolved_block g (fixed x n ∷ ls) (n + 1) body)
  resolved_statement g ls n (While test most body) = s.While (resolved_condition g ls test) most (resolved_block g ls n body)
  resolved_statement g ls n (Do f given) = s.Do (index_of g f) (resolved_arguments g ls given)
  resolved_statement g ls n (Fold head body) =
      s.Fold (record {
        carried = row_slots n head.carried;
        start = resolved_arguments g ls head.start;
        block = block_slot n head;
        low = resolved_expression g ls head.low;
        high = resolved_expression g ls head.high;
        predict = resolved_predictors g (fixed head.block (block_slot n head) ∷ ls) head.predict;
        next = resolved_arguments g (locals_at_end (body_locals ls n head) (body_slot n head) body) head.next;
        next_line = head.next_line;
      }) (resolved_block g (body_locals ls n head) (body_slot n head) body)
  resolved_statement g ls n (Pair head producer consumer) =
      s.Pair (record {
        carried = row_slots n head.carried;
        give = resolved_arguments g (locals_at_end ls (n + length head.carried) producer) head.give;
        give_line = head.give_line;
        predict = resolved_predictors g ls head.predict;
      }) (resolved_block g ls (n + length head.carried) producer)
      (resolved_block g (with_each true ls n head.carried) (n + length head.carried + slots_in producer) consumer)
  resolved_statement g ls n Break = s.Break

  -- a block
  pub resolved_block : Globals → List l.Local → ℕ → RawBlock → Block
  resolved_block g ls n end = s.end
  resolved_block g ls n (on_line line first rest) =
      s.on_line line (resolved_statement g ls n first) (resolved_block g (locals_after ls n first) (n + length (names_of first)) rest)

-- the locals and the slots after a statement, after a block whose locals may still be used, and after one whose locals may not
abbrev pub after_statement : l.Seen → RawStatement → l.Seen
after_statement seen s = record { locals = locals_after seen.locals (length seen.slots) s; slots = seen.slots ++ names_of s }

abbrev pub after_block : l.Seen → RawBlock → l.Seen
after_block seen b = record { locals = locals_at_end seen.locals (length seen.slots) b; slots = seen.slots ++ names_in b }

abbrev pub after_inner : l.Seen → RawBlock → l.Seen
after_inner seen b = record { locals = seen.locals; slots = seen.slots ++ names_in b }

-- ---- programs

-- the locals and the slots after names that are declared and may then be used
abbrev pub after_names : l.Seen → List (List ℕ) → l.Seen
after_names seen names = record { locals = with_each false seen.locals (length seen.slots) names; slots = seen.slots ++ names }

-- a function
abbrev pub resolved_function : Globals → RawFunction → Function
resolved_function g f = record {
  name = f.name;
  params = length f.params;
  slots = f.params ++ names_in f.body;
  body = resolved_block g (with_each false [] 0 f.params) (length f.params) f.body;
  answer = resolved_expression g (locals_at_end (with_each false [] 0 f.params) (length f.params) f.body) f.answer;
  answer_line = f.answer_line;
  line = f.line;
}

-- a program
abbrev pub resolved : RawProgram → Program
resolved p = record {
  version = p.version;
  arrays = p.arrays;
  functions = map (resolved_function (globals_of p.arrays p.functions)) p.functions;
  slots = names_in p.main;
  main = resolved_block (globals_of p.arrays p.functions) [] 0 p.main;
}

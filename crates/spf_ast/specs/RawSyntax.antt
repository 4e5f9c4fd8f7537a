-- Programs as they are written, as plain data: names instead of the numbers of arrays, functions and slots.
use Rattle.std.specs.Prelude.{ℕ, List, [], ◌∷◌, ℤ}
use Rattle.spf_ast.specs.declared.syntax.Op.{Op}
use Rattle.spf_ast.specs.declared.syntax.Test.{Test}
use Rattle.spf_ast.specs.Syntax.{Array}

mutual
  -- an expression, which gives a number or a truth value
  pub data RawExpression : Type 0 where
    Number : ℤ → RawExpression
    Local : List ℕ → RawExpression
    Len : RawExpression
    Input : RawExpression → RawExpression
    Load : List ℕ → RawExpression → RawExpression
    Call : List ℕ → RawArguments → RawExpression
    Neg : RawExpression → RawExpression
    Binary : Op → RawExpression → RawExpression → RawExpression
    Compare : Test → RawExpression → RawExpression → RawExpression
    Both : RawExpression → RawExpression → RawExpression
    Either : RawExpression → RawExpression → RawExpression
    Not : RawExpression → RawExpression

  -- expressions in order: the arguments of a call, or the parts of a row
  pub data RawArguments : Type 0 where
    no_more : RawArguments
    argument : RawExpression → RawArguments → RawArguments

-- how a part of a carried row is guessed: by an expression, or by a predictor that is supplied
pub data RawPredictor : Type 0 where
  By : RawExpression → RawPredictor
  Host : ℕ → RawPredictor

-- the fields of a fold, but for its body
pub record RawFoldHead : Type 0 where
  pub carried : List (List ℕ)
  pub start : RawArguments
  pub block : List ℕ
  pub low : RawExpression
  pub high : RawExpression
  pub predict : List RawPredictor
  pub next : RawArguments
  pub next_line : ℕ

-- the fields of a pair, but for its producer and its consumer
pub record RawPairHead : Type 0 where
  pub carried : List (List ℕ)
  pub give : RawArguments
  pub give_line : ℕ
  pub predict : List RawPredictor

mutual
  -- a statement
  pub data RawStatement : Type 0 where
    Let : List ℕ → RawExpression → RawStatement
    Assign : List ℕ → RawExpression → RawStatement
    Store : List ℕ → RawExpression → RawExpression → RawStatement
    Fill : List ℕ → RawExpression → RawExpression → RawExpression → RawStatement
    Emit : RawExpression → RawStatement
    Fail : ℤ → RawStatement
    If : RawExpression → RawBlock → RawBlock → RawStatement
    For : List ℕ → RawExpression → RawExpression → RawBlock → RawStatement
    While : RawExpression → ℕ → RawBlock → RawStatement
    Do : List ℕ → RawArguments → RawStatement
    Fold : RawFoldHead → RawBlock → RawStatement
    Pair : RawPairHead → RawBlock → RawBlock → RawStatement
    Break : RawStatement

  -- statements in order, each with its line
  pub data RawBlock : Type 0 where
    end : RawBlock
    on_line : ℕ → RawStatement → RawBlock → RawBlock

-- a function, with the names of its parameters
pub record RawFunction : Type 0 where
  pub name : List ℕ
  pub params : List (List ℕ)
  pub body : RawBlock
  pub answer : RawExpression
  pub answer_line : ℕ
  pub line : ℕ

-- a whole program, with the version of the language that it is written in, and the line of the word `main`
pub record RawProgram : Type 0 where
  pub version : ℕ
  pub arrays : List Array
  pub functions : List RawFunction
  pub main : RawBlock
  pub main_line : ℕ

-- the arguments of a list
abbrev pub arguments_of : List RawExpression → RawArguments
arguments_of [] = no_more
arguments_of (e ∷ es) = argument e (arguments_of es)

-- one block, and then another
abbrev pub followed_by : RawBlock → RawBlock → RawBlock
followed_by end next = next
followed_by (on_line n s rest) next = on_line n s (followed_by rest next)

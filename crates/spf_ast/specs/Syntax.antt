-- Programs as plain data: what is written, without where its parts lie in memory.
use Rattle.std.specs.Prelude.{ℕ, List, [], ◌∷◌, ℤ}
use Rattle.spf_ast.specs.declared.syntax.Op.{Op}
use Rattle.spf_ast.specs.declared.syntax.Test.{Test}

mutual
  -- an expression, which gives a number
  pub data Expression : Type 0 where
    Number : ℤ → Expression
    Local : ℕ → Expression
    Len : Expression
    Input : Expression → Expression
    Load : ℕ → Expression → Expression
    Call : ℕ → Arguments → Expression
    Neg : Expression → Expression
    Binary : Op → Expression → Expression → Expression

  -- expressions in order: the arguments of a call, or the parts of a row
  pub data Arguments : Type 0 where
    no_more : Arguments
    argument : Expression → Arguments → Arguments

-- a condition, which is true or false
pub data Condition : Type 0 where
  Compare : Test → Expression → Expression → Condition
  Both : Condition → Condition → Condition
  Either : Condition → Condition → Condition
  Not : Condition → Condition

-- how a part of a carried row is guessed: by an expression, or by a predictor that is supplied
pub data Predictor : Type 0 where
  By : Expression → Predictor
  Host : ℕ → Predictor

-- the fields of a fold, but for its body
pub record FoldHead : Type 0 where
  pub carried : List ℕ
  pub start : Arguments
  pub block : ℕ
  pub low : Expression
  pub high : Expression
  pub predict : List Predictor
  pub next : Arguments
  pub next_line : ℕ

-- the fields of a pair, but for its producer and its consumer
pub record PairHead : Type 0 where
  pub carried : List ℕ
  pub give : Arguments
  pub give_line : ℕ
  pub predict : List Predictor

mutual
  -- a statement
  pub data Statement : Type 0 where
    Let : ℕ → Expression → Statement
    Assign : ℕ → Expression → Statement
    Store : ℕ → Expression → Expression → Statement
    Fill : ℕ → Expression → Expression → Expression → Statement
    Emit : Expression → Statement
    Fail : ℕ → Statement
    If : Condition → Block → Block → Statement
    For : ℕ → Expression → Expression → Block → Statement
    While : Condition → ℕ → Block → Statement
    Do : ℕ → Arguments → Statement
    Fold : FoldHead → Block → Statement
    Pair : PairHead → Block → Block → Statement
    Break : Statement

  -- statements in order, each with its line
  pub data Block : Type 0 where
    end : Block
    on_line : ℕ → Statement → Block → Block

-- an array, whose size is `factor` times the input's length, plus `offset`
pub record Array : Type 0 where
  pub name : List ℕ
  pub factor : ℤ
  pub offset : ℤ
  pub line : ℕ

-- a function, with the names of its slots, the first of which are its parameters
pub record Function : Type 0 where
  pub name : List ℕ
  pub params : ℕ
  pub slots : List (List ℕ)
  pub body : Block
  pub answer : Expression
  pub answer_line : ℕ
  pub line : ℕ

-- a whole program, with the version of the language that it is written in, and the names of the slots of `main`
pub record Program : Type 0 where
  pub version : ℕ
  pub arrays : List Array
  pub functions : List Function
  pub slots : List (List ℕ)
  pub main : Block

-- the arguments of a list
abbrev pub arguments_of : List Expression → Arguments
arguments_of [] = no_more
arguments_of (e ∷ es) = argument e (arguments_of es)

-- one block, and then another
abbrev pub followed_by : Block → Block → Block
followed_by end next = next
followed_by (on_line n s rest) next = on_line n s (followed_by rest next)

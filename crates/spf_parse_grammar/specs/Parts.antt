-- What productions are made of.
use Rattle.std.specs.Prelude.{ℕ, Bool, List, ℤ}
use Rattle.spf_text.specs.declared.token.Keyword.{Keyword}
use Rattle.spf_text.specs.declared.token.Sign.{Sign}
use Rattle.spf_text.specs.declared.token.TokenKind.{TokenKind}
use Rattle.spf_text.specs.declared.token.TokenKind.TheVariants as kind
use Rattle.spf_ast.specs.Syntax.{Array}
use Rattle.spf_ast.specs.RawSyntax.{RawExpression, RawPredictor, RawStatement, RawBlock, RawFunction, RawProgram}

-- A token, or what a production is named after. The first number of a part is how many levels of nesting are open
-- where it begins; `used` is how many operators its expression has so far. A part with statements is told whether
-- `break` is one.
pub data Part : Type 0 where
  -- this token; a sign that opens a level of nesting; an operator of this rank
  token : TokenKind → Part
  opens : ℕ → Sign → Part
  operator : (rank used : ℕ) → Part
  -- a name; a number, as an integer or as a natural number
  name : Part
  number : Part
  count : Part
  -- a part any number of times, or at most `most` times; a part with the line of its first token
  many : Part → Part
  few : (most : ℕ) → Part → Part
  lined : Part → Part
  -- an expression, and what it is made of
  expression : ℕ → Part
  level : ℕ → (rank used : ℕ) → Part
  further : ℕ → (rank : ℕ) → RawExpression → (used : ℕ) → Part
  compared : ℕ → (rank : ℕ) → RawExpression → (used : ℕ) → Part
  operand : ℕ → Part
  arguments : ℕ → Part
  next_argument : ℕ → Part
  -- the names, the expressions and the predictors of a row, and one predictor
  names : ℕ → Part
  row : ℕ → Part
  guess : ℕ → Part
  predictor : ℕ → Part
  next_predictor : ℕ → Part
  -- a statement, and what it is made of
  form : (breaks : Bool) → ℕ → Part
  block : (breaks : Bool) → ℕ → Part
  otherwise : (breaks : Bool) → ℕ → Part
  -- a program, and what it is made of
  header : Part
  size : Part
  array : Part
  parameters : Part
  next_parameter : Part
  function : (breaks : Bool) → Part
  program : Part

-- What a part says. A token says its line; where operators are counted, their number comes too.
abbrev pub Value : Part → Type 0
Value (token k) = ℕ
Value (opens n s) = Unit {0}
Value (operator rank used) = Sign
Value name = List ℕ
Value number = ℤ
Value count = ℕ
Value (many p) = List (Value p)
Value (few most p) = List (Value p)
Value (lined p) = ℕ × Value p
Value (expression n) = RawExpression
Value (level n rank used) = RawExpression × ℕ
Value (further n rank a used) = RawExpression × ℕ
Value (compared n rank a used) = RawExpression × ℕ
Value (operand n) = RawExpression
Value (arguments n) = List RawExpression
Value (next_argument n) = RawExpression
Value (names n) = List (List ℕ)
Value (row n) = List RawExpression
Value (guess n) = List RawPredictor
Value (predictor n) = RawPredictor
Value (next_predictor n) = RawPredictor
Value (form breaks n) = RawStatement
Value (block breaks n) = RawBlock
Value (otherwise breaks n) = RawBlock
Value header = ℕ
Value size = ℤ × ℤ
Value array = Array
Value parameters = List (List ℕ)
Value next_parameter = List ℕ
Value (function breaks) = RawFunction
Value program = RawProgram

abbrev pub keyword : Keyword → Part
keyword w = token (kind.Keyword w)

abbrev pub sign : Sign → Part
sign s = token (kind.Sign s)

-- a statement is a form with its line
abbrev pub statement : Bool → ℕ → Part
statement breaks n = lined (form breaks n)

-- what a production says: parts one after another, of which later ones may depend on what earlier ones say, and alternatives
pub data Rule (A : Type 0) : Type 0 where
  give : A → Rule A
  part : (p : Part) → (Value p → Rule A) → Rule A
  either : Rule A → Rule A → Rule A

infixl 10 ◌>>=◌
abbrev pub ◌>>=◌ : {A : Type 0} → (p : Part) → (Value p → Rule A) → Rule A
p >>= r = part p r

infixl 10 ◌>>◌
abbrev pub ◌>>◌ : {A : Type 0} → Part → Rule A → Rule A
p >> r = part p (λ x. r)

infixr 5 ◌or◌
abbrev pub ◌or◌ : {A : Type 0} → Rule A → Rule A → Rule A
r or s = either r s

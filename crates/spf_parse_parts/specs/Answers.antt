-- What the parser's functions answer.
use Rattle.std.specs.Prelude.{◌≡◌, ℕ, zero, suc, ◌+◌, ◌<◌, ◌≤◌, nat_eq, Bool, true, false, if◌then◌else◌, List, [], ◌∷◌, ◌++◌, length, map, Option, Some, None, Result, Ok, Err}
use Rattle.spf_text.specs.declared.token.Keyword.{Keyword}
use Rattle.spf_text.specs.declared.token.Keyword.TheVariants as word
use Rattle.spf_text.specs.declared.token.Sign.TheVariants as sign
use Rattle.spf_text.specs.declared.token.TokenKind.{TokenKind}
use Rattle.spf_text.specs.declared.token.TokenKind.TheVariants as kind
use Rattle.spf_ast.specs.declared.raw.RawStmt.{RawStmt}
use Rattle.spf_ast.specs.RawSyntax.{RawExpression, RawPredictor, By, Host, RawStatement}
use Rattle.spf_ast.specs.RawView.{raw_expression, raw_predictor, raw_statement}
use Rattle.spf_ast.specs.View.{name as seen_name}
use Rattle.spf_parse_grammar.specs.Lexemes.{Lexeme}
use Rattle.spf_parse_grammar.specs.Parts.{
  Part,
  ◌>>=◌,
  ◌>>◌,
  token,
  opens,
  name,
  count,
  many,
  few,
  lined,
  expression,
  level,
  further,
  compared,
  operand,
  next_argument,
  names,
  row,
  guess,
  predictor,
  next_predictor,
  form,
  otherwise,
  header,
  size,
  function,
  statement,
  Value,
  Rule,
  give,
  part,
  ◌or◌,
}
use Rattle.spf_parse_grammar.specs.Rules.{all, rank_of, named}
use Rattle.spf_parse_grammar.specs.Derivations.{Reading}
use Rattle.spf_parse_parts.specs.declared.statement.FoldHead.{FoldHead}
use Rattle.spf_parse_parts.specs.declared.fault.Fault.{Fault}
use Rattle.spf_parse_parts.specs.declared.fault.Fault.TheVariants as fault

-- the next token's kind
abbrev pub ahead : List Lexeme → Option TokenKind
ahead [] = None
ahead (t ∷ ts) = Some t.kind

-- how far a token reaches back: what is read up to a level goes on with the tokens that reach no further
abbrev pub reach_of_rank : ℕ → ℕ
reach_of_rank zero = 14
reach_of_rank (suc rank) = suc (suc rank)

abbrev pub reach : TokenKind → ℕ
reach kind.Name = 12
reach (kind.Keyword word.Else) = 11
reach (kind.Keyword word.Let) = 12
reach (kind.Keyword word.Fill) = 12
reach (kind.Keyword word.Emit) = 12
reach (kind.Keyword word.Fail) = 12
reach (kind.Keyword word.If) = 12
reach (kind.Keyword word.For) = 12
reach (kind.Keyword word.While) = 12
reach (kind.Keyword word.Specfold) = 12
reach (kind.Keyword word.Spec) = 12
reach (kind.Keyword word.Break) = 12
reach (kind.Keyword word.Version) = 11
reach (kind.Keyword word.Array) = 12
reach (kind.Keyword word.Fn) = 13
reach (kind.Sign sign.OpenParen) = 1
reach (kind.Sign sign.OpenBracket) = 1
reach (kind.Sign s) = reach_of_rank (rank_of s)
reach k = 14

-- nothing that is read up to this level goes on with these tokens
abbrev pub Stops : ℕ → List Lexeme → Type 0
Stops n [] = Unit {0}
Stops n (t ∷ ts) = n < reach t.kind

-- the level up to which a part is read
abbrev pub stop : Part → ℕ
stop (many (function breaks)) = 13
stop (many p) = 12
stop (lined p) = 11
stop (form breaks n) = 11
stop (otherwise breaks n) = 11
stop header = 11
stop (expression n) = 10
stop (row n) = 10
stop (guess n) = 10
stop (predictor n) = 10
stop (level n rank used) = suc rank
stop (further n rank a used) = suc (suc rank)
stop (compared n rank a used) = suc (suc rank)
stop (operand n) = 1
stop size = 3
stop p = 0

-- Of what F says of ts the tokens `read` are read, and of us G says what is left: what G says of any tokens F says of
-- them after `read`, and nothing else, where the next token is the same and F stops at what follows.
pub record Leads {A : Type 0} (n : ℕ) (F : Rule A) (ts : List Lexeme) (G : Rule A) (us : List Lexeme) : Type 0 where
  pub read : List Lexeme
  pub split : ts ≡ read ++ us
  pub into : (free : ℕ) (k : List Lexeme) (b : A) (vs : List Lexeme) → Reading free G k b vs → Reading free F (read ++ k) b vs
  pub only : (free : ℕ) (k : List Lexeme) (b : A) (vs : List Lexeme) → ahead k ≡ ahead us → Reading free F (read ++ k) b vs → Stops n vs → Reading free G k b vs

-- a token that passes a limit comes next in the completion
abbrev pub Begins : Bool → List Lexeme → List Lexeme → Type 0
Begins true rest more = (t : Lexeme) × (us : List Lexeme) × (vs : List Lexeme) × (rest ≡ t ∷ us) × (more ≡ t ∷ vs)
Begins false rest more = Unit {0}

abbrev pub Binds : Bool → ℕ → List Lexeme → Type 0
Binds true free k = free < length k
Binds false free k = Unit {0}

-- What was read is a prefix of what F says, within the limits: it goes on with `more`. With the next token it isn't:
-- as far as the limits bind, if that token passes one, and in no case else.
pub record Faults {A : Type 0} (deep : Bool) (n : ℕ) (F : Rule A) (ts : List Lexeme) (left : ℕ) : Type 0 where
  pub read : List Lexeme
  pub rest : List Lexeme
  pub split : ts ≡ read ++ rest
  pub left_is : length rest ≡ left
  pub more : List Lexeme
  pub value : A
  pub begins : Begins deep rest more
  -- what was read is a prefix of what F says
  pub viable : (free : ℕ) (k : List Lexeme) → length (more ++ k) ≤ free → Reading free F (read ++ (more ++ k)) value k
  -- with the next token it is none
  pub dead : (free : ℕ) (k : List Lexeme) (b : A) (vs : List Lexeme) → Binds deep free k → ahead k ≡ ahead rest
      → Reading free F (read ++ k) b vs → Stops n vs → ⊥

abbrev pub Refuses : {A : Type 0} → ℕ → Rule A → List Lexeme → Fault → Type 0
Refuses n F ts (fault.Unexpected left) = Faults false n F ts left
Refuses n F ts (fault.TooDeep left) = Faults true n F ts left
Refuses n F ts fault.OutOfMemory = Unit {0}

-- what is answered about these tokens for a rule: what it says of them, and what is left; or where they go wrong
abbrev pub Answered : {X A : Type 0} → ℕ → Rule A → List Lexeme → (X → A) → (X → List Lexeme) → Result X Fault → Type 0
Answered n F ts value rest (Ok x) = Leads n F ts (give (value x)) (rest x)
Answered n F ts value rest (Err why) = Refuses n F ts why

-- for a part
abbrev pub Answers : {X : Type 0} → (p : Part) → List Lexeme → (X → Value p) → (X → List Lexeme) → Result X Fault → Type 0
Answers p ts value rest result = Answered (stop p) (all p) ts value rest result

-- the part is read
abbrev pub IsRead : (p : Part) → List Lexeme → Value p → List Lexeme → Type 0
IsRead p ts x us = Leads (stop p) (all p) ts (give x) us

-- a statement with its line
abbrev pub stated : RawStmt → ℕ × RawStatement
stated s = (s.line, raw_statement s.kind)

-- an operand that begins with a name
abbrev pub named_operand : ℕ → Rule RawExpression
named_operand n = name >>= λ x. named n x

-- an expression, and the token after it
abbrev pub value_before : ℕ → TokenKind → Rule RawExpression
value_before n end = expression n >>= λ a. token end >> give a

-- a row, and the token after it
abbrev pub row_before : ℕ → TokenKind → Rule (List RawExpression)
row_before n end = row n >>= λ a. token end >> give a

-- What follows an operand in an expression of this rank, and then what follows the expression. The operand is given,
-- and how many operators there are before it.
abbrev pub after_operand : {A : Type 0} → ℕ → (rank : ℕ) → RawExpression → (used : ℕ) → (RawExpression × ℕ → Rule A) → Rule A
after_operand n zero a used K = K (a, used)
after_operand n (suc rank) a used K =
    after_operand n rank a used
    (λ x. if nat_eq rank 6 then part (compared n rank x.0 x.1) K else part (further n rank x.0 x.1) K)

-- What follows an opening parenthesis. With `)` after an expression it was an operand, and the whole expression is said.
-- With `,` it was the first part of a row.
abbrev pub from_bracket : {A : Type 0} → ℕ → (whole : RawExpression → A) → (first : RawExpression → Rule A) → Rule A
from_bracket n whole first = expression (n + 1) >>= λ a.
    (token (kind.Sign sign.CloseParen) >> after_operand n 9 a 0 (λ x. give (whole x.0)))
    or (token (kind.Sign sign.Comma) >> first a)

-- the closing parenthesis after all parts
abbrev pub closed : {A : Type 0} → List A → List A → Rule (List A)
closed before more = token (kind.Sign sign.CloseParen) >> give (before ++ more)

-- what follows a whole expression, which is a row, or the first part of a row and its comma
abbrev pub row_after : ℕ → RawExpression → Bool → Rule (List RawExpression)
row_after n a true = give (a ∷ [])
row_after n a false = expression (n + 1) >>= λ b. few 2 (next_argument (n + 1)) >>= closed (a ∷ b ∷ [])

abbrev pub row_from : ℕ → Rule (List RawExpression)
row_from n = from_bracket n (λ a. a ∷ []) (λ a. row_after n a false)

-- the same of predictors
abbrev pub guess_after : ℕ → RawPredictor → Bool → Rule (List RawPredictor)
guess_after n g true = give (g ∷ [])
guess_after n g false = predictor (n + 1) >>= λ h. few 2 (next_predictor (n + 1)) >>= closed (g ∷ h ∷ [])

abbrev pub guess_from_bracket : ℕ → Rule (List RawPredictor)
guess_from_bracket n = from_bracket n (λ a. By a ∷ []) (λ a. guess_after n (By a) false)

abbrev pub guess_from : ℕ → Rule (List RawPredictor)
guess_from n =
    (token (kind.Keyword word.Host) >> (count >>= λ k. token (kind.Sign sign.Comma) >> guess_after n (Host k) false))
    or guess_from_bracket n

-- what is answered about these tokens for a rule of which only the beginning is read: what it says of what is left; or
-- where they go wrong
abbrev pub Continues : {X A : Type 0} → ℕ → Rule A → List Lexeme → (X → Rule A) → (X → List Lexeme) → Result X Fault → Type 0
Continues n F ts next rest (Ok x) = Leads n F ts (next x) (rest x)
Continues n F ts next rest (Err why) = Refuses n F ts why

-- an opening brace, and the statements after it
abbrev pub opened_statements : Bool → ℕ → Rule (List (ℕ × RawStatement))
opened_statements breaks n = opens n sign.OpenBrace >> (many (statement breaks (n + 1)) >>= λ inside. give inside)

-- an opening brace, the statements after it, and a last one of this word with a row, up to the closing brace
abbrev pub ended_statements : Bool → ℕ → Keyword → Rule (List (ℕ × RawStatement) × ℕ × List RawExpression)
ended_statements breaks n w = do
  opens n sign.OpenBrace
  inside ← many (statement breaks (n + 1))
  l ← token (kind.Keyword w)
  a ← row (n + 1)
  token (kind.Sign sign.Semicolon)
  token (kind.Sign sign.CloseBrace)
  give (inside, l, a)

-- what a fold says before its body
pub record Opening : Type 0 where
  pub carried : List (List ℕ)
  pub start : List RawExpression
  pub block : List ℕ
  pub low : RawExpression
  pub high : RawExpression
  pub predict : List RawPredictor

-- a fold up to its body
abbrev pub fold_opening : ℕ → Rule Opening
fold_opening n = do
  token (kind.Keyword word.Specfold)
  s ← names n
  token (kind.Sign sign.Assign)
  e ← row n
  token (kind.Keyword word.For)
  k ← name
  token (kind.Keyword word.In)
  i ← expression n
  token (kind.Sign sign.DotDot)
  j ← expression n
  token (kind.Keyword word.Predict)
  g ← guess n
  give (record { carried = s; start = e; block = k; low = i; high = j; predict = g })

abbrev pub seen_head : FoldHead → Opening
seen_head h = record {
  carried = map seen_name h.carried.items;
  start = map raw_expression h.start.items;
  block = seen_name h.block;
  low = raw_expression h.low;
  high = raw_expression h.high;
  predict = map raw_predictor h.predict.items;
}

-- the next token is `break`
abbrev pub IsBreakNext : List Lexeme → Type 0
IsBreakNext ts = ahead ts ≡ Some (kind.Keyword word.Break)

-- a statement begins with this token
abbrev pub opens_statement : (breaks : Bool) → Option TokenKind → Bool
opens_statement breaks (Some kind.Name) = true
opens_statement breaks (Some (kind.Keyword word.Let)) = true
opens_statement breaks (Some (kind.Keyword word.Fill)) = true
opens_statement breaks (Some (kind.Keyword word.Emit)) = true
opens_statement breaks (Some (kind.Keyword word.Fail)) = true
opens_statement breaks (Some (kind.Keyword word.If)) = true
opens_statement breaks (Some (kind.Keyword word.For)) = true
opens_statement breaks (Some (kind.Keyword word.While)) = true
opens_statement breaks (Some (kind.Keyword word.Specfold)) = true
opens_statement breaks (Some (kind.Keyword word.Spec)) = true
opens_statement breaks (Some (kind.Keyword word.Break)) = breaks
opens_statement breaks w = false

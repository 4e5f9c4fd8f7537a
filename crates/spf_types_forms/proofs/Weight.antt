-- How much syntax a raw form has, which bounds the recursion over it.
use Rattle.std.proofs.Common.{◌≡◌, ℕ, ◌+◌, ◌<◌, zero, suc, List, [], ◌∷◌, length, get_or, ap, arith}
use Rattle.std.specs.declared.vec.Vec.{Vec}
use Rattle.std.specs.declared.alloc.Global.{Global}
use Rattle.spf_ast.specs.declared.syntax.Name.{Name}
use Rattle.spf_ast.specs.declared.raw.RawExpr.{RawExpr}
use Rattle.spf_ast.specs.declared.raw.RawExpr.TheVariants as e
use Rattle.spf_ast.specs.RawSyntax.{RawExpression, Number, Local, Len, Input, Load, Call, Neg, Binary, Compare, Both, Either, Not, RawArguments, no_more, argument}
use Rattle.std.specs.declared.boxed.Box.{Box}
use Rattle.spf_ast.specs.declared.raw.RawStmt.{RawStmt}
use Rattle.spf_ast.specs.declared.raw.RawStmtKind.{RawStmtKind}
use Rattle.spf_ast.specs.declared.raw.RawStmtKind.TheVariants as s
use Rattle.spf_ast.specs.declared.raw.RawFold.{out-RawFold}
use Rattle.spf_ast.specs.declared.raw.RawFold as code_fold
use Rattle.spf_ast.specs.declared.raw.RawPair.{out-RawPair}
use Rattle.spf_ast.specs.declared.raw.RawPair as code_pair
use Rattle.spf_ast.specs.RawSyntax.{RawStatement, Let, Assign, Store, Fill, Emit, Fail, If, For, While, Do, Fold, Pair, Break, RawBlock, end, on_line}
use Rattle.spf_ast.specs.RawView.{raw_expression, raw_arguments, raw_statement, raw_block}
use Rattle.spf_ast.proofs.RawViews.{raw_expression-call, raw_statement-if, raw_statement-for, raw_statement-while, raw_statement-fold, raw_statement-pair}

abbrev mutual
  pub expression_weight : RawExpression → ℕ
  expression_weight (Number n) = 1
  expression_weight (Local slot) = 1
  expression_weight Len = 1
  expression_weight (Input index) = 1 + expression_weight index
  expression_weight (Load array index) = 1 + expression_weight index
  expression_weight (Call f given) = 1 + arguments_weight given
  expression_weight (Neg inner) = 1 + expression_weight inner
  expression_weight (Binary op left right) = 1 + expression_weight left + expression_weight right
  expression_weight (Compare test left right) = 1 + expression_weight left + expression_weight right
  expression_weight (Both left right) = 1 + expression_weight left + expression_weight right
  expression_weight (Either left right) = 1 + expression_weight left + expression_weight right
  expression_weight (Not inner) = 1 + expression_weight inner

  pub arguments_weight : RawArguments → ℕ
  arguments_weight no_more = 0
  arguments_weight (argument first rest) = 1 + expression_weight first + arguments_weight rest

abbrev pub expr_weight : RawExpr → ℕ
expr_weight e = expression_weight (raw_expression e)

abbrev pub exprs_weight : List RawExpr → ℕ
exprs_weight es = arguments_weight (raw_arguments es)

pub expr_weight-call : (f : Name) (given : Vec RawExpr Global) → expr_weight (e.Call f given) ≡ 1 + exprs_weight given.items
expr_weight-call f given = ap expression_weight (raw_expression-call f given)

-- an argument of a list weighs less than the list
pub weight_at : (xs : List RawExpr) (i : ℕ) (x : RawExpr) → i < length xs → x ≡ get_or xs i x → expr_weight x < exprs_weight xs
weight_at [] i x h e = let no : ⊥ = omega arith in absurd no
weight_at (y ∷ ys) zero x h e = let w : expr_weight x ≡ expr_weight y = ap expr_weight e in omega (arith, w)
weight_at (y ∷ ys) (suc i) x h e = let r = weight_at ys i x (omega arith) e in omega (arith, r)

abbrev mutual
  pub statement_weight : RawStatement → ℕ
  statement_weight (Let slot value) = 1
  statement_weight (Assign slot value) = 1
  statement_weight (Store array index value) = 1
  statement_weight (Fill array low high value) = 1
  statement_weight (Emit value) = 1
  statement_weight (Fail number) = 1
  statement_weight (If test first second) = 2 + block_weight first + block_weight second
  statement_weight (For slot low high body) = 2 + block_weight body
  statement_weight (While test most body) = 2 + block_weight body
  statement_weight (Do f given) = 1
  statement_weight (Fold head body) = 2 + block_weight body
  statement_weight (Pair head producer consumer) = 2 + block_weight producer + block_weight consumer
  statement_weight Break = 1

  pub block_weight : RawBlock → ℕ
  block_weight end = 0
  block_weight (on_line line first rest) = 1 + statement_weight first + block_weight rest

abbrev pub kind_weight : RawStmtKind → ℕ
kind_weight k = statement_weight (raw_statement k)

abbrev pub stmts_weight : List RawStmt → ℕ
stmts_weight l = block_weight (raw_block l)

pub kind_weight-if : (c : RawExpr) (a b : Vec RawStmt Global) → kind_weight (s.If c a b) ≡ 2 + stmts_weight a.items + stmts_weight b.items
kind_weight-if c a b = ap statement_weight (raw_statement-if c a b)

pub kind_weight-for : (x : Name) (low high : RawExpr) (body : Vec RawStmt Global) → kind_weight (s.For x low high body) ≡ 2 + stmts_weight body.items
kind_weight-for x low high body = ap statement_weight (raw_statement-for x low high body)

pub kind_weight-while : (c : RawExpr) (most : ℕ) (body : Vec RawStmt Global) → kind_weight (s.While c most body) ≡ 2 + stmts_weight body.items
kind_weight-while c most body = ap statement_weight (raw_statement-while c most body)

pub kind_weight-fold : (f : Box code_fold.RawFold Global) → kind_weight (s.Fold f) ≡ 2 + stmts_weight (out-RawFold f.value).body.items
kind_weight-fold f = ap statement_weight (raw_statement-fold f)

pub kind_weight-pair : (p : Box code_pair.RawPair Global) → kind_weight (s.Pair p) ≡ 2 + stmts_weight (out-RawPair p.value).producer.items + stmts_weight (out-RawPair p.value).consumer.items
kind_weight-pair p = ap statement_weight (raw_statement-pair p)

-- a statement of a list weighs less than the list
pub stmt_weight_at : (xs : List RawStmt) (i : ℕ) (x : RawStmt) → i < length xs → x ≡ get_or xs i x → kind_weight x.kind < stmts_weight xs
stmt_weight_at [] i x h e = let no : ⊥ = omega arith in absurd no
stmt_weight_at (y ∷ ys) zero x h e = let w : kind_weight x.kind ≡ kind_weight y.kind = ap (λ (s : RawStmt). kind_weight s.kind) e in omega (arith, w)
stmt_weight_at (y ∷ ys) (suc i) x h e = let r = stmt_weight_at ys i x (omega arith) e in omega (arith, r)

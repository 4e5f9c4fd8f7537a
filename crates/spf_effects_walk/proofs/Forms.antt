-- What the code's forms weigh.
use Rattle.std.proofs.Common.{◌≡◌, ℕ, zero, suc, ◌+◌, ◌<◌, List, [], ◌∷◌, length, get_or, ap, arith}
use Rattle.std.specs.declared.vec.Vec.{Vec}
use Rattle.std.specs.declared.boxed.Box.{Box}
use Rattle.std.specs.declared.alloc.Global.{Global}
use Rattle.spf_ast.specs.declared.syntax.Expr.{Expr}
use Rattle.spf_ast.specs.declared.syntax.Expr.TheVariants as e
use Rattle.spf_ast.specs.declared.syntax.Cond.{Cond}
use Rattle.spf_ast.specs.declared.syntax.Stmt.{Stmt}
use Rattle.spf_ast.specs.declared.syntax.StmtKind.{StmtKind}
use Rattle.spf_ast.specs.declared.syntax.StmtKind.TheVariants as s
use Rattle.spf_ast.specs.declared.syntax.Fold.{out-Fold}
use Rattle.spf_ast.specs.declared.syntax.Fold as code_fold
use Rattle.spf_ast.specs.declared.syntax.Pair.{out-Pair}
use Rattle.spf_ast.specs.declared.syntax.Pair as code_pair
use Rattle.spf_ast.specs.declared.syntax.Function as code_function
use Rattle.spf_ast.specs.View.{expression, arguments, condition, statement, block}
use Rattle.spf_ast.proofs.Views.{expression-call, statement-if, statement-for, statement-while, statement-fold, statement-pair}
use Rattle.spf_effects_walk.proofs.Weight.{expression_weight, arguments_weight, condition_weight, statement_weight, block_weight}

abbrev pub expr_weight : Expr → ℕ
expr_weight e = expression_weight (expression e)

abbrev pub exprs_weight : List Expr → ℕ
exprs_weight es = arguments_weight (arguments es)

abbrev pub cond_weight : Cond → ℕ
cond_weight c = condition_weight (condition c)

abbrev pub kind_weight : StmtKind → ℕ
kind_weight k = statement_weight (statement k)

abbrev pub stmts_weight : List Stmt → ℕ
stmts_weight l = block_weight (block l)

abbrev pub function_weight : code_function.Function → ℕ
function_weight f = stmts_weight f.body.items + expr_weight f.answer

abbrev pub fold_weight : code_fold.Fold → ℕ
fold_weight f =
    2 + exprs_weight (out-Fold f).start.items + expr_weight (out-Fold f).low + expr_weight (out-Fold f).high + exprs_weight (out-Fold f).next.items + stmts_weight (out-Fold f).body.items

abbrev pub pair_weight : code_pair.Pair → ℕ
pair_weight p = 1 + stmts_weight (out-Pair p).producer.items + exprs_weight (out-Pair p).give.items + stmts_weight (out-Pair p).consumer.items

pub expr_weight-call : (f : ℕ) (given : Vec Expr Global) → expr_weight (e.Call f given) ≡ 1 + exprs_weight given.items
expr_weight-call f given = ap expression_weight (expression-call f given)

pub kind_weight-if : (c : Cond) (a b : Vec Stmt Global) → kind_weight (s.If c a b) ≡ 1 + cond_weight c + stmts_weight a.items + stmts_weight b.items
kind_weight-if c a b = ap statement_weight (statement-if c a b)

pub kind_weight-for : (x : ℕ) (low high : Expr) (body : Vec Stmt Global) → kind_weight (s.For x low high body) ≡ 1 + expr_weight low + expr_weight high + stmts_weight body.items
kind_weight-for x low high body = ap statement_weight (statement-for x low high body)

pub kind_weight-while : (c : Cond) (most : ℕ) (body : Vec Stmt Global) → kind_weight (s.While c most body) ≡ 1 + cond_weight c + stmts_weight body.items
kind_weight-while c most body = ap statement_weight (statement-while c most body)

pub kind_weight-fold : (f : Box code_fold.Fold Global) → kind_weight (s.Fold f) ≡ 1 + fold_weight f.value
kind_weight-fold f = ap statement_weight (statement-fold f)

pub kind_weight-pair : (p : Box code_pair.Pair Global) → kind_weight (s.Pair p) ≡ 1 + pair_weight p.value
kind_weight-pair p = ap statement_weight (statement-pair p)

-- a statement of a list weighs less than the list
pub weight_at : (xs : List Stmt) (i : ℕ) (x : Stmt) → i < length xs → x ≡ get_or xs i x → kind_weight x.kind < stmts_weight xs
weight_at [] i x h e = let no : ⊥ = omega arith in absurd no
weight_at (y ∷ ys) zero x h e = let w : kind_weight x.kind ≡ kind_weight y.kind = ap (λ (s : Stmt). kind_weight s.kind) e in omega (arith, w)
weight_at (y ∷ ys) (suc i) x h e = let r = weight_at ys i x (omega arith) e in omega (arith, r)

-- an argument of a list weighs less than the list
pub argument_weight_at : (xs : List Expr) (i : ℕ) (x : Expr) → i < length xs → x ≡ get_or xs i x → expr_weight x < exprs_weight xs
argument_weight_at [] i x h e = let no : ⊥ = omega arith in absurd no
argument_weight_at (y ∷ ys) zero x h e = let w : expr_weight x ≡ expr_weight y = ap expr_weight e in omega (arith, w)
argument_weight_at (y ∷ ys) (suc i) x h e = let r = argument_weight_at ys i x (omega arith) e in omega (arith, r)

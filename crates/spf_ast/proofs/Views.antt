-- What is seen of a form that holds a vector of forms: that of the vector's list.
use Rattle.std.proofs.Common.{◌≡◌, ℕ, map, refl, sym, ap, ◌∙◌}
use Rattle.std.specs.declared.vec.Vec.{Vec}
use Rattle.std.specs.declared.boxed.Box.{Box}
use Rattle.std.specs.declared.alloc.Global.{Global}
use Rattle.spf_ast.specs.declared.syntax.Expr.{Expr}
use Rattle.spf_ast.specs.declared.syntax.Expr.TheVariants as e
use Rattle.spf_ast.specs.declared.syntax.Expr.TheBlock.{Row_of-Expr, end_of-Expr, more_of-Expr, items-the_row-Expr, hidden-the_row-Expr-0, items_hidden-the_row-Expr-0}
use Rattle.spf_ast.specs.declared.syntax.Cond.{Cond}
use Rattle.spf_ast.specs.declared.syntax.Stmt.{Stmt}
use Rattle.spf_ast.specs.declared.syntax.Fold.{out-Fold}
use Rattle.spf_ast.specs.declared.syntax.Fold as code_fold
use Rattle.spf_ast.specs.declared.syntax.Pair.{out-Pair}
use Rattle.spf_ast.specs.declared.syntax.Pair as code_pair
use Rattle.spf_ast.specs.declared.syntax.StmtKind.TheVariants as s
use Rattle.spf_ast.specs.declared.syntax.StmtKind.TheBlock.{Row_of-Stmt, end_of-Stmt, more_of-Stmt, items-the_row-Stmt, hidden-the_row-Stmt-0, items_hidden-the_row-Stmt-0, struct-Fold, struct-Pair, items_shown-the_row-Stmt-0}
use Rattle.spf_ast.specs.declared.syntax.StmtKind.TheViews.{outs-struct-Fold, outs-struct-Pair}
use Rattle.spf_ast.specs.Syntax.{Call, argument, If, For, While, Fold, Pair, on_line}
use Rattle.spf_ast.specs.View.{expression, row_arguments, arguments, condition, statement, fold_statement, pair_statement, row_block, block, fold_head, pair_head, predictor}

row_arguments-items : {n : _} (row : Row_of-Expr n) → row_arguments row ≡ arguments (items-the_row-Expr n row)
row_arguments-items end_of-Expr = refl
row_arguments-items (more_of-Expr first rest) = ap (argument (expression first)) (row_arguments-items rest)

-- a call
pub expression-call : (f : ℕ) (given : Vec Expr Global) → expression (e.Call f given) ≡ Call f (arguments given.items)
expression-call f given =
    ap (Call f) (row_arguments-items (hidden-the_row-Expr-0 given) ∙ ap arguments (items_hidden-the_row-Expr-0 given))

row_block-items : {n : _} (row : Row_of-Stmt n) → row_block row ≡ block (items-the_row-Stmt n row)
row_block-items end_of-Stmt = refl
row_block-items (more_of-Stmt line kind rest) = ap (on_line line (statement kind)) (row_block-items rest)

-- a block that is held in a vector
held_block : (statements : Vec Stmt Global) → row_block (hidden-the_row-Stmt-0 statements) ≡ block statements.items
held_block statements = row_block-items (hidden-the_row-Stmt-0 statements) ∙ ap block (items_hidden-the_row-Stmt-0 statements)

pub statement-if : (test : Cond) (first second : Vec Stmt Global) → statement (s.If test first second) ≡ If (condition test) (block first.items) (block second.items)
statement-if test first second = λ i. If (condition test) (held_block first i) (held_block second i)

pub statement-for : (slot : ℕ) (low high : Expr) (body : Vec Stmt Global) → statement (s.For slot low high body) ≡ For slot (expression low) (expression high) (block body.items)
statement-for slot low high body = ap (For slot (expression low) (expression high)) (held_block body)

pub statement-while : (test : Cond) (most : ℕ) (body : Vec Stmt Global) → statement (s.While test most body) ≡ While (condition test) most (block body.items)
statement-while test most body = ap (While (condition test) most) (held_block body)

fold_statement-is : (fold : code_fold.Fold) → fold_statement fold ≡ Fold (fold_head fold) (block (out-Fold fold).body.items)
fold_statement-is (struct-Fold carried start blocks low high predict n body next next_line) =
    ap (Fold (record {
      carried = carried.items;
      start = arguments start.items;
      block = blocks;
      low = expression low;
      high = expression high;
      predict = map predictor predict.items;
      next = arguments next.items;
      next_line = next_line;
    })) (row_block-items body ∙ ap block (sym (items_shown-the_row-Stmt-0 n body)))
    ∙ ap (λ r. Fold (record {
      carried = r.carried.items;
      start = arguments r.start.items;
      block = r.block;
      low = expression r.low;
      high = expression r.high;
      predict = map predictor r.predict.items;
      next = arguments r.next.items;
      next_line = r.next_line;
    }) (block r.body.items)) (sym (outs-struct-Fold carried start blocks low high predict n body next next_line))

pub statement-fold : (fold : Box code_fold.Fold Global) → statement (s.Fold fold) ≡ Fold (fold_head fold.value) (block (out-Fold fold.value).body.items)
statement-fold fold = fold_statement-is fold.value

pair_statement-is : (pair : code_pair.Pair) → pair_statement pair ≡ Pair (pair_head pair) (block (out-Pair pair).producer.items) (block (out-Pair pair).consumer.items)
pair_statement-is (struct-Pair carried n producer give give_line predict m consumer) =
    (let p = row_block-items producer ∙ ap block (sym (items_shown-the_row-Stmt-0 n producer)) in
    let q = row_block-items consumer ∙ ap block (sym (items_shown-the_row-Stmt-0 m consumer)) in
    λ i. Pair (record { carried = carried.items; give = arguments give.items; give_line = give_line; predict = map predictor predict.items }) (p i) (q i))
    ∙ ap (λ r. Pair (record { carried = r.carried.items; give = arguments r.give.items; give_line = r.give_line; predict = map predictor r.predict.items }) (block r.producer.items) (block r.consumer.items)) (sym (outs-struct-Pair carried n producer give give_line predict m consumer))

pub statement-pair : (pair : Box code_pair.Pair Global) → statement (s.Pair pair) ≡ Pair (pair_head pair.value) (block (out-Pair pair.value).producer.items) (block (out-Pair pair.value).consumer.items)
statement-pair pair = pair_statement-is pair.value

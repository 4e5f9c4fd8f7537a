-- What is seen of a raw form that holds a vector of forms: that of the vector's list.
use Rattle.std.proofs.Common.{◌≡◌, ℕ, map, refl, sym, ap, ◌∙◌}
use Rattle.std.specs.declared.vec.Vec.{Vec}
use Rattle.std.specs.declared.boxed.Box.{Box}
use Rattle.std.specs.declared.alloc.Global.{Global}
use Rattle.spf_ast.specs.declared.syntax.Name.{Name}
use Rattle.spf_ast.specs.declared.raw.RawExpr.{RawExpr}
use Rattle.spf_ast.specs.declared.raw.RawExpr.TheVariants as e
use Rattle.spf_ast.specs.declared.raw.RawExpr.TheBlock.{Row_of-RawExpr, end_of-RawExpr, more_of-RawExpr, items-the_row-RawExpr, hidden-the_row-RawExpr-0, items_hidden-the_row-RawExpr-0}
use Rattle.spf_ast.specs.declared.raw.RawStmt.{RawStmt}
use Rattle.spf_ast.specs.declared.raw.RawFold.{out-RawFold}
use Rattle.spf_ast.specs.declared.raw.RawFold as code_fold
use Rattle.spf_ast.specs.declared.raw.RawPair.{out-RawPair}
use Rattle.spf_ast.specs.declared.raw.RawPair as code_pair
use Rattle.spf_ast.specs.declared.raw.RawStmtKind.TheVariants as s
use Rattle.spf_ast.specs.declared.raw.RawStmtKind.TheBlock.{Row_of-RawStmt, end_of-RawStmt, more_of-RawStmt, items-the_row-RawStmt, hidden-the_row-RawStmt-0, items_hidden-the_row-RawStmt-0, struct-RawFold, struct-RawPair, items_shown-the_row-RawStmt-0}
use Rattle.spf_ast.specs.declared.raw.RawStmtKind.TheViews.{outs-struct-RawFold, outs-struct-RawPair}
use Rattle.spf_ast.specs.View.{name}
use Rattle.spf_ast.specs.RawSyntax.{Call, argument, If, For, While, Fold, Pair, on_line}
use Rattle.spf_ast.specs.RawView.{raw_expression, row_raw_arguments, raw_arguments, raw_statement, raw_fold_statement, raw_pair_statement, row_raw_block, raw_block, raw_fold_head, raw_pair_head, raw_predictor}

row_raw_arguments-items : {n : _} (row : Row_of-RawExpr n) → row_raw_arguments row ≡ raw_arguments (items-the_row-RawExpr n row)
row_raw_arguments-items end_of-RawExpr = refl
row_raw_arguments-items (more_of-RawExpr first rest) = ap (argument (raw_expression first)) (row_raw_arguments-items rest)

-- a call
pub raw_expression-call : (f : Name) (given : Vec RawExpr Global) → raw_expression (e.Call f given) ≡ Call (name f) (raw_arguments given.items)
raw_expression-call f given =
    ap (Call (name f)) (row_raw_arguments-items (hidden-the_row-RawExpr-0 given) ∙ ap raw_arguments (items_hidden-the_row-RawExpr-0 given))

row_raw_block-items : {n : _} (row : Row_of-RawStmt n) → row_raw_block row ≡ raw_block (items-the_row-RawStmt n row)
row_raw_block-items end_of-RawStmt = refl
row_raw_block-items (more_of-RawStmt line kind rest) = ap (on_line line (raw_statement kind)) (row_raw_block-items rest)

-- a block that is held in a vector
held_block : (statements : Vec RawStmt Global) → row_raw_block (hidden-the_row-RawStmt-0 statements) ≡ raw_block statements.items
held_block statements = row_raw_block-items (hidden-the_row-RawStmt-0 statements) ∙ ap raw_block (items_hidden-the_row-RawStmt-0 statements)

pub raw_statement-if : (test : RawExpr) (first second : Vec RawStmt Global) → raw_statement (s.If test first second) ≡ If (raw_expression test) (raw_block first.items) (raw_block second.items)
raw_statement-if test first second = λ i. If (raw_expression test) (held_block first i) (held_block second i)

pub raw_statement-for : (x : Name) (low high : RawExpr) (body : Vec RawStmt Global) → raw_statement (s.For x low high body) ≡ For (name x) (raw_expression low) (raw_expression high) (raw_block body.items)
raw_statement-for x low high body = ap (For (name x) (raw_expression low) (raw_expression high)) (held_block body)

pub raw_statement-while : (test : RawExpr) (most : ℕ) (body : Vec RawStmt Global) → raw_statement (s.While test most body) ≡ While (raw_expression test) most (raw_block body.items)
raw_statement-while test most body = ap (While (raw_expression test) most) (held_block body)

raw_fold_statement-is : (fold : code_fold.RawFold) → raw_fold_statement fold ≡ Fold (raw_fold_head fold) (raw_block (out-RawFold fold).body.items)
raw_fold_statement-is (struct-RawFold carried start blocks low high predict n body next next_line) =
    ap (Fold (record {
      carried = map name carried.items;
      start = raw_arguments start.items;
      block = name blocks;
      low = raw_expression low;
      high = raw_expression high;
      predict = map raw_predictor predict.items;
      next = raw_arguments next.items;
      next_line = next_line;
    })) (row_raw_block-items body ∙ ap raw_block (sym (items_shown-the_row-RawStmt-0 n body)))
    ∙ ap (λ r. Fold (record {
      carried = map name r.carried.items;
      start = raw_arguments r.start.items;
      block = name r.block;
      low = raw_expression r.low;
      high = raw_expression r.high;
      predict = map raw_predictor r.predict.items;
      next = raw_arguments r.next.items;
      next_line = r.next_line;
    }) (raw_block r.body.items)) (sym (outs-struct-RawFold carried start blocks low high predict n body next next_line))

pub raw_statement-fold : (fold : Box code_fold.RawFold Global) → raw_statement (s.Fold fold) ≡ Fold (raw_fold_head fold.value) (raw_block (out-RawFold fold.value).body.items)
raw_statement-fold fold = raw_fold_statement-is fold.value

raw_pair_statement-is : (pair : code_pair.RawPair) → raw_pair_statement pair ≡ Pair (raw_pair_head pair) (raw_block (out-RawPair pair).producer.items) (raw_block (out-RawPair pair).consumer.items)
raw_pair_statement-is (struct-RawPair carried n producer give give_line predict m consumer) =
    (let p = row_raw_block-items producer ∙ ap raw_block (sym (items_shown-the_row-RawStmt-0 n producer)) in
    let q = row_raw_block-items consumer ∙ ap raw_block (sym (items_shown-the_row-RawStmt-0 m consumer)) in
    λ i. Pair (record { carried = map name carried.items; give = raw_arguments give.items; give_line = give_line; predict = map raw_predictor predict.items }) (p i) (q i))
    ∙ ap (λ r. Pair (record { carried = map name r.carried.items; give = raw_arguments r.give.items; give_line = r.give_line; predict = map raw_predictor r.predict.items }) (raw_block r.producer.items) (raw_block r.consumer.items)) (sym (outs-struct-RawPair carried n producer give give_line predict m consumer))

pub raw_statement-pair : (pair : Box code_pair.RawPair Global) → raw_statement (s.Pair pair) ≡ Pair (raw_pair_head pair.value) (raw_block (out-RawPair pair.value).producer.items) (raw_block (out-RawPair pair.value).consumer.items)
raw_statement-pair pair = raw_pair_statement-is pair.value

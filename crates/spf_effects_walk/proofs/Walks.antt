-- Walks over the statements of a block.
use Rattle.std.proofs.Common.{◌≡◌, ℕ, suc, ◌+◌, ◌<◌, ◌≤◌, Bool, false, List, ◌∷◌, length, get_or, drop, sym, ap, ◌∙◌, arith}
use Rattle.std.proofs.lemmas.List.{drop_all}
use Rattle.std.proofs.Math.Seq.{drop-cons}
use Rattle.std.specs.Prelude.{◌||◌}
use Rattle.spf_ast.specs.declared.syntax.Stmt.{Stmt}
use Rattle.std.specs.declared.vec.Vec.{Vec}
use Rattle.std.specs.declared.boxed.Box.{Box}
use Rattle.std.specs.declared.alloc.Global.{Global}
use Rattle.spf_ast.specs.declared.syntax.Expr.{Expr}
use Rattle.spf_ast.specs.declared.syntax.Cond.{Cond}
use Rattle.spf_ast.specs.declared.syntax.Fold.{Fold, out-Fold}
use Rattle.spf_ast.specs.declared.syntax.Pair.{Pair, out-Pair}
use Rattle.spf_ast.specs.declared.syntax.StmtKind.{StmtKind}
use Rattle.spf_ast.specs.declared.syntax.StmtKind.TheVariants as s
use Rattle.spf_ast.specs.View.{statement, block}
use Rattle.spf_ast.proofs.Views.{statement-if, statement-for, statement-while, statement-fold, statement-pair}
use Rattle.spf_ast.specs.Slots.{emits, statement_emits}

-- what is left of a list at an item
pub item_at : {A : Type 0} (xs : List A) (i : ℕ) (x : A) → i < length xs → x ≡ get_or xs i x → drop i xs ≡ x ∷ drop (i + 1) xs
item_at xs i x h e =
    drop-cons xs i x h ∙ ap (λ z. z ∷ drop (suc i) xs) (sym e) ∙ ap (λ n. x ∷ drop n xs) (let n : suc i ≡ i + 1 = omega arith in n)

-- whether the statements from an index on emit
abbrev pub emits_from : List Stmt → ℕ → Bool
emits_from statements i = emits (block (drop i statements))

pub emits_at : (statements : List Stmt) (i : ℕ) (x : Stmt) → i < length statements → x ≡ get_or statements i x → emits_from statements i ≡ (statement_emits (statement x.kind) || emits_from statements (i + 1))
emits_at statements i x h is = ap (λ l. emits (block l)) (item_at statements i x h is)

pub emits_none : (statements : List Stmt) (i : ℕ) → length statements ≤ i → emits_from statements i ≡ false
emits_none statements i h = ap (λ l. emits (block l)) (drop_all i statements h)

-- what the forms with blocks emit
pub if_emits : (kind : StmtKind) (test : Cond) (first second : Vec Stmt Global) → kind ≡ s.If test first second → (one other : List Stmt) → one ≡ first.items → other ≡ second.items → statement_emits (statement kind) ≡ (emits (block one) || emits (block other))
if_emits kind test first second is one other e f =
    ap (λ k. statement_emits (statement k)) is ∙ ap statement_emits (statement-if test first second)
    ∙ (λ i. emits (block (sym e i)) || emits (block (sym f i)))

pub for_emits : (kind : StmtKind) (slot : ℕ) (low high : Expr) (body : Vec Stmt Global) → kind ≡ s.For slot low high body → (held : List Stmt) → held ≡ body.items → statement_emits (statement kind) ≡ emits (block held)
for_emits kind slot low high body is held e =
    ap (λ k. statement_emits (statement k)) is ∙ ap statement_emits (statement-for slot low high body) ∙ ap (λ l. emits (block l)) (sym e)

pub while_emits : (kind : StmtKind) (test : Cond) (most : ℕ) (body : Vec Stmt Global) → kind ≡ s.While test most body → (held : List Stmt) → held ≡ body.items → statement_emits (statement kind) ≡ emits (block held)
while_emits kind test most body is held e =
    ap (λ k. statement_emits (statement k)) is ∙ ap statement_emits (statement-while test most body) ∙ ap (λ l. emits (block l)) (sym e)

pub fold_emits : (kind : StmtKind) (fold : Box Fold Global) → kind ≡ s.Fold fold → (f : Fold) → f ≡ fold.value → statement_emits (statement kind) ≡ emits (block (out-Fold f).body.items)
fold_emits kind fold is f e =
    ap (λ k. statement_emits (statement k)) is ∙ ap statement_emits (statement-fold fold) ∙ ap (λ g. emits (block (out-Fold g).body.items)) (sym e)

pub pair_emits : (kind : StmtKind) (pair : Box Pair Global) → kind ≡ s.Pair pair → (p : Pair) → p ≡ pair.value → statement_emits (statement kind) ≡ (emits (block (out-Pair p).producer.items) || emits (block (out-Pair p).consumer.items))
pair_emits kind pair is p e =
    ap (λ k. statement_emits (statement k)) is ∙ ap statement_emits (statement-pair pair)
    ∙ ap (λ q. emits (block (out-Pair q).producer.items) || emits (block (out-Pair q).consumer.items)) (sym e)

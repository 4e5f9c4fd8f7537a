-- Walks over the statements of a block that look for an assigned slot.
use Rattle.std.proofs.Common.{◌≡◌, ℕ, ◌+◌, ◌<◌, ◌≤◌, Bool, false, List, length, get_or, drop, sym, ap, ◌∙◌}
use Rattle.std.proofs.lemmas.List.{drop_all}
use Rattle.std.specs.Prelude.{◌||◌}
use Rattle.spf_ast.specs.declared.syntax.Stmt.{Stmt}
use Rattle.std.specs.declared.vec.Vec.{Vec}
use Rattle.std.specs.declared.boxed.Box.{Box}
use Rattle.std.specs.declared.alloc.Global.{Global}
use Rattle.spf_ast.specs.declared.syntax.Expr.{Expr}
use Rattle.spf_ast.specs.declared.syntax.Cond.{Cond}
use Rattle.spf_ast.specs.declared.syntax.Fold.{Fold, out-Fold}
use Rattle.spf_ast.specs.declared.syntax.Pair.{Pair, out-Pair}
use Rattle.spf_ast.specs.declared.syntax.StmtKind.{StmtKind}
use Rattle.spf_ast.specs.declared.syntax.StmtKind.TheVariants as s
use Rattle.spf_ast.specs.View.{statement, block}
use Rattle.spf_ast.proofs.Views.{statement-if, statement-for, statement-while, statement-fold, statement-pair}
use Rattle.spf_ast.specs.Slots.{assigns, statement_assigns}
use Rattle.spf_effects_walk.proofs.Walks.{item_at}

-- whether the statements from an index on assign a slot that passes
abbrev pub assigns_from : (ℕ → Bool) → List Stmt → ℕ → Bool
assigns_from pass statements i = assigns pass (block (drop i statements))

pub assigns_at : (pass : ℕ → Bool) (statements : List Stmt) (i : ℕ) (x : Stmt) → i < length statements → x ≡ get_or statements i x → assigns_from pass statements i ≡ (statement_assigns pass (statement x.kind) || assigns_from pass statements (i + 1))
assigns_at pass statements i x h is = ap (λ l. assigns pass (block l)) (item_at statements i x h is)

pub assigns_none : (pass : ℕ → Bool) (statements : List Stmt) (i : ℕ) → length statements ≤ i → assigns_from pass statements i ≡ false
assigns_none pass statements i h = ap (λ l. assigns pass (block l)) (drop_all i statements h)

-- what the forms with blocks assign
pub if_assigns : (pass : ℕ → Bool) (kind : StmtKind) (cond : Cond) (first second : Vec Stmt Global) → kind ≡ s.If cond first second → (one other : List Stmt) → one ≡ first.items → other ≡ second.items → statement_assigns pass (statement kind) ≡ (assigns pass (block one) || assigns pass (block other))
if_assigns pass kind cond first second is one other e f =
    ap (λ k. statement_assigns pass (statement k)) is ∙ ap (statement_assigns pass) (statement-if cond first second)
    ∙ (λ i. assigns pass (block (sym e i)) || assigns pass (block (sym f i)))

pub for_assigns : (pass : ℕ → Bool) (kind : StmtKind) (slot : ℕ) (low high : Expr) (body : Vec Stmt Global) → kind ≡ s.For slot low high body → (held : List Stmt) → held ≡ body.items → statement_assigns pass (statement kind) ≡ assigns pass (block held)
for_assigns pass kind slot low high body is held e =
    ap (λ k. statement_assigns pass (statement k)) is ∙ ap (statement_assigns pass) (statement-for slot low high body) ∙ ap (λ l. assigns pass (block l)) (sym e)

pub while_assigns : (pass : ℕ → Bool) (kind : StmtKind) (cond : Cond) (most : ℕ) (body : Vec Stmt Global) → kind ≡ s.While cond most body → (held : List Stmt) → held ≡ body.items → statement_assigns pass (statement kind) ≡ assigns pass (block held)
while_assigns pass kind cond most body is held e =
    ap (λ k. statement_assigns pass (statement k)) is ∙ ap (statement_assigns pass) (statement-while cond most body) ∙ ap (λ l. assigns pass (block l)) (sym e)

pub fold_assigns : (pass : ℕ → Bool) (kind : StmtKind) (fold : Box Fold Global) → kind ≡ s.Fold fold → (f : Fold) → f ≡ fold.value → statement_assigns pass (statement kind) ≡ assigns pass (block (out-Fold f).body.items)
fold_assigns pass kind fold is f e =
    ap (λ k. statement_assigns pass (statement k)) is ∙ ap (statement_assigns pass) (statement-fold fold) ∙ ap (λ g. assigns pass (block (out-Fold g).body.items)) (sym e)

pub pair_assigns : (pass : ℕ → Bool) (kind : StmtKind) (pair : Box Pair Global) → kind ≡ s.Pair pair → (p : Pair) → p ≡ pair.value → statement_assigns pass (statement kind) ≡ (assigns pass (block (out-Pair p).producer.items) || assigns pass (block (out-Pair p).consumer.items))
pair_assigns pass kind pair is p e =
    ap (λ k. statement_assigns pass (statement k)) is ∙ ap (statement_assigns pass) (statement-pair pair)
    ∙ ap (λ q. assigns pass (block (out-Pair q).producer.items) || assigns pass (block (out-Pair q).consumer.items)) (sym e)

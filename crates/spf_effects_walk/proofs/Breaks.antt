-- Walks over the statements of a block that look for a `break`.
use Rattle.std.proofs.Common.{◌≡◌, ℕ, ◌+◌, ◌<◌, ◌≤◌, Bool, false, List, length, get_or, drop, sym, ap, ◌∙◌}
use Rattle.std.proofs.lemmas.List.{drop_all}
use Rattle.std.specs.Prelude.{◌||◌}
use Rattle.std.specs.declared.vec.Vec.{Vec}
use Rattle.std.specs.declared.boxed.Box.{Box}
use Rattle.std.specs.declared.alloc.Global.{Global}
use Rattle.spf_ast.specs.declared.syntax.Cond.{Cond}
use Rattle.spf_ast.specs.declared.syntax.Fold.{Fold}
use Rattle.spf_ast.specs.declared.syntax.Pair.{Pair}
use Rattle.spf_ast.specs.declared.syntax.Stmt.{Stmt}
use Rattle.spf_ast.specs.declared.syntax.StmtKind.{StmtKind}
use Rattle.spf_ast.specs.declared.syntax.StmtKind.TheVariants as s
use Rattle.spf_ast.specs.View.{statement, block}
use Rattle.spf_ast.proofs.Views.{statement-if, statement-fold, statement-pair}
use Rattle.spf_ast.specs.Slots.{breaks, statement_breaks}
use Rattle.spf_effects_walk.proofs.Walks.{item_at}

-- whether the statements from an index on hold a `break`
abbrev pub breaks_from : List Stmt → ℕ → Bool
breaks_from statements i = breaks (block (drop i statements))

pub breaks_at : (statements : List Stmt) (i : ℕ) (x : Stmt) → i < length statements → x ≡ get_or statements i x → breaks_from statements i ≡ (statement_breaks (statement x.kind) || breaks_from statements (i + 1))
breaks_at statements i x h is = ap (λ l. breaks (block l)) (item_at statements i x h is)

pub breaks_none : (statements : List Stmt) (i : ℕ) → length statements ≤ i → breaks_from statements i ≡ false
breaks_none statements i h = ap (λ l. breaks (block l)) (drop_all i statements h)

-- an `if` holds those of its blocks
pub if_breaks : (kind : StmtKind) (test : Cond) (first second : Vec Stmt Global) → kind ≡ s.If test first second → (one other : List Stmt) → one ≡ first.items → other ≡ second.items → statement_breaks (statement kind) ≡ (breaks (block one) || breaks (block other))
if_breaks kind test first second is one other e f =
    ap (λ k. statement_breaks (statement k)) is ∙ ap statement_breaks (statement-if test first second)
    ∙ (λ i. breaks (block (sym e i)) || breaks (block (sym f i)))

-- a construct holds none that ends a loop around it
pub fold_breaks : (kind : StmtKind) (fold : Box Fold Global) → kind ≡ s.Fold fold → false ≡ statement_breaks (statement kind)
fold_breaks kind fold is = sym (ap (λ k. statement_breaks (statement k)) is ∙ ap statement_breaks (statement-fold fold))

pub pair_breaks : (kind : StmtKind) (pair : Box Pair Global) → kind ≡ s.Pair pair → false ≡ statement_breaks (statement kind)
pair_breaks kind pair is = sym (ap (λ k. statement_breaks (statement k)) is ∙ ap statement_breaks (statement-pair pair))

-- The registers that are there for the parts of `main`.
use Rattle.std.proofs.Common.{◌≡◌, ℕ, zero, suc, ◌≤◌, Option, None, Some, List, [], ◌∷◌, sym, ap, subst, arith}
use Rattle.std.specs.Prelude.{slice_get, MatchOption}
use Rattle.spf_ast.specs.declared.syntax.Stmt.{Stmt}
use Rattle.spf_ast.specs.Syntax.{Break, Block, end, on_line, Let, Assign, Store, Fill, Emit, Fail, If, For, While, Do, Fold, Pair}
use Rattle.spf_ast.specs.View.{block, statement}
use Rattle.spf_code_registers.specs.Registers.{block_needs, statement_needs}
use Rattle.spf_ast.specs.Construct.{Construct, constructs_in}
use Rattle.spf_exec.specs.Sources.{construct_needs}

-- a construct that is there fits
abbrev Fits : (ℕ → ℕ) → Option Construct → ℕ → Type 0
Fits f o size = MatchOption o (Unit {0}) (λ c. construct_needs f c ≤ size)

fits_more : (f : ℕ → ℕ) (o : Option Construct) (a b : ℕ) → a ≤ b → Fits f o a → Fits f o b
fits_more f None a b h k = tt
fits_more f (Some c) a b h k = omega (arith, h, k)

-- each top construct among statements fits where they do
construct_fits : (f : ℕ → ℕ) (b : Block) (n : ℕ) → Fits f (slice_get (constructs_in b) n) (block_needs f b)
construct_fits f end zero = tt
construct_fits f end (suc n) = tt
construct_fits f (on_line line (Let slot value) rest) n = fits_more f (slice_get (constructs_in rest) n) _ _ (omega arith) (construct_fits f rest n)
construct_fits f (on_line line (Assign slot value) rest) n = fits_more f (slice_get (constructs_in rest) n) _ _ (omega arith) (construct_fits f rest n)
construct_fits f (on_line line (Store array index value) rest) n = fits_more f (slice_get (constructs_in rest) n) _ _ (omega arith) (construct_fits f rest n)
construct_fits f (on_line line (Fill array low high value) rest) n = fits_more f (slice_get (constructs_in rest) n) _ _ (omega arith) (construct_fits f rest n)
construct_fits f (on_line line (Emit value) rest) n = fits_more f (slice_get (constructs_in rest) n) _ _ (omega arith) (construct_fits f rest n)
construct_fits f (on_line line (Fail number) rest) n = fits_more f (slice_get (constructs_in rest) n) _ _ (omega arith) (construct_fits f rest n)
construct_fits f (on_line line (If test a b) rest) n = fits_more f (slice_get (constructs_in rest) n) _ _ (omega arith) (construct_fits f rest n)
construct_fits f (on_line line (For slot low high body) rest) n = fits_more f (slice_get (constructs_in rest) n) _ _ (omega arith) (construct_fits f rest n)
construct_fits f (on_line line (While test most body) rest) n = fits_more f (slice_get (constructs_in rest) n) _ _ (omega arith) (construct_fits f rest n)
construct_fits f (on_line line (Do g given) rest) n = fits_more f (slice_get (constructs_in rest) n) _ _ (omega arith) (construct_fits f rest n)
construct_fits f (on_line line Break rest) n = fits_more f (slice_get (constructs_in rest) n) _ _ (omega arith) (construct_fits f rest n)
construct_fits f (on_line line (Fold head body) rest) zero = omega arith
construct_fits f (on_line line (Fold head body) rest) (suc n) = fits_more f (slice_get (constructs_in rest) n) _ _ (omega arith) (construct_fits f rest n)
construct_fits f (on_line line (Pair head producer consumer) rest) zero = omega arith
construct_fits f (on_line line (Pair head producer consumer) rest) (suc n) = fits_more f (slice_get (constructs_in rest) n) _ _ (omega arith) (construct_fits f rest n)

-- so a top construct needs no more than `main`
pub room_at : (f : ℕ → ℕ) (b : Block) (n : ℕ) (k : Construct) → slice_get (constructs_in b) n ≡ Some k → construct_needs f k ≤ block_needs f b
room_at f b n k found = subst (λ o. Fits f o (block_needs f b)) found (construct_fits f b n)

-- the statement at an index needs no more than the statements
pub statement_room : (f : ℕ → ℕ) (xs : List Stmt) (i : ℕ) (x : Stmt) → slice_get xs i ≡ Some x → statement_needs f (statement x.kind) ≤ block_needs f (block xs)
statement_room f [] zero x e = cc
statement_room f [] (suc i) x e = cc
statement_room f (y ∷ ys) zero x e = rw (sym (first_is e)) (omega arith)
  where
    value_or : Stmt → Option Stmt → Stmt
    value_or d (Some z) = z
    value_or d None = d

    first_is : Some y ≡ Some x → y ≡ x
    first_is same = ap (value_or y) same
statement_room f (y ∷ ys) (suc i) x e = let r = statement_room f ys i x e in omega (arith, r)

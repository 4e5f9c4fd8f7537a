-- What is known of lawful programs: their functions hold no `emit`, and they have few constructs.
use Rattle.std.proofs.Common.{◌≡◌, ◌≤◌, ℕ, false, Option, Some, None, length, refl, arith}
use Rattle.std.specs.Prelude.{IfSome, slice_get}
use Rattle.spf_ast.specs.Syntax.{Statement, Let, Assign, Store, Fill, Emit, Fail, If, For, While, Do, Fold, Pair, Break, Block, end, on_line, Function, Program}
use Rattle.spf_ast.specs.Construct.{constructs_in}
use Rattle.spf_ast.specs.Lawful.{Names, Scope, IsLawfulStatement, IsLawfulBlock, IsLawfulFunction, IsScoped, IsLawful}
use Rattle.spf_ast.specs.Silence.{FunctionIsSilent, FunctionsAreSilent}
use Rattle.spf_ast.specs.Size.{by_size, block_measure, function_sizes}
use Rattle.spf_ast.specs.Slots.{statement_emits, emits}
use Rattle.spf_ast_lemmas.proofs.Bools.{either_fails}

mutual
  statement-silent : (names : Names) (scope : Scope) (s : Statement) → IsLawfulStatement names false scope s → statement_emits s ≡ false
  statement-silent names scope (Let slot value) h = refl
  statement-silent names scope (Assign slot value) h = refl
  statement-silent names scope (Store array index value) h = refl
  statement-silent names scope (Fill array low high value) h = refl
  statement-silent names scope (Emit value) h = let e = h.0 in cc
  statement-silent names scope (Fail number) h = refl
  statement-silent names scope (If c first second) h = either_fails (emits first) (emits second) (block-silent names _ first h.1) (block-silent names _ second h.2)
  statement-silent names scope (For slot low high body) h = block-silent names _ body h.3
  statement-silent names scope (While c most body) h = block-silent names _ body h.2
  statement-silent names scope (Do f given) h = refl
  statement-silent names scope (Fold head body) h = block-silent names _ body h.6
  statement-silent names scope (Pair head producer consumer) h = either_fails (emits producer) (emits consumer) (block-silent names _ producer h.1) (block-silent names _ consumer h.4)
  statement-silent names scope Break h = refl

  block-silent : (names : Names) (scope : Scope) (b : Block) → IsLawfulBlock names false scope b → emits b ≡ false
  block-silent names scope end h = refl
  block-silent names scope (on_line line first rest) h = either_fails (statement_emits first) (emits rest) (statement-silent names _ first h.0) (block-silent names _ rest h.1)

-- no function of a lawful program emits
pub functions-silent : (p : Program) → IsScoped p → FunctionsAreSilent p.functions
functions-silent p h index = go (slice_get p.functions index) (h.functions index)
  where
    go : (o : Option Function) → IfSome o (IsLawfulFunction p index) → FunctionIsSilent o
    go None l = tt
    go (Some f) l = block-silent _ _ f.body l.body

measured : (f : ℕ → ℕ) (b : Block) → length (constructs_in b) ≤ block_measure (by_size f) b
measured f end = omega arith
measured f (on_line line (Fold head body) rest) = let h = measured f rest in omega (arith, h)
measured f (on_line line (Pair head producer consumer) rest) = let h = measured f rest in omega (arith, h)
measured f (on_line line s rest) = let h = measured f rest in omega (arith, h)

pub few-constructs : (p : Program) → IsLawful p → length (constructs_in p.main) ≤ 65536
few-constructs p l = let most = measured (function_sizes p) p.main in let size = l.limits.size in omega (arith, most, size)

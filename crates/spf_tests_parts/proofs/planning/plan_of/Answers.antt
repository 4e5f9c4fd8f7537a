use Rattle.std.proofs.Common.{◌≡◌, Some, None, Result, Ok, Err, arith, sym, ap, subst, ◌∙◌}
use Rattle.std.specs.Prelude.{IfOk, slice_get}
use Rattle.std.specs.Result.{result_ok}
use Rattle.spf_ast.specs.Construct.{Construct, fold, pair, constructs_in}
use Rattle.spf_ast.specs.ConstructView.{construct}
use Rattle.spf_ast.specs.View.{block, program}
use Rattle.spf_exec_instance.specs.Layout.{IsLayoutOf}
use Rattle.spf_check.specs.Plans.{AreBlocksOf}
use Rattle.spf_tests_parts.proofs.planning.plan_of.Goals as goal

-- any construct has two blocks
two-blocks : (k : Construct) → AreBlocksOf k 2
two-blocks (fold line head body) = tt
two-blocks (pair line head producer consumer) = omega (arith)

pub plan-requires-clause-construct : goal.plan-requires-clause-construct
plan-requires-clause-construct c =
    let own = construct c.in_ok-find_construct.field-0 in
    let main = ap (λ m. slice_get (constructs_in (block m)) 0) (sym (c.deref.ensures.value ∙ ap (λ p. p.main.items) c.program-2.ensures.program)) in
    (own, main ∙ c.in_ok-find_construct.ensures, two-blocks own)

-- what holds of the value of a result, where there is one
of-ok : {A E : Type 0} (r : Result A E) (x : A) (P : A → Type 0) → Some x ≡ result_ok r → IfOk r P → P x
of-ok (Ok y) x P e h = subst P (same y x e) h
  where
    same : {A : Type 0} (y x : A) → Some x ≡ Some y → y ≡ x
    same y x e = cc
of-ok (Err why) x P e h = absurd (no x e)
  where
    no : {A : Type 0} (x : A) → Some x ≡ None → ⊥
    no x e = cc

pub plan-requires-clause-layout : goal.plan-requires-clause-layout
plan-requires-clause-layout c =
    (0, of-ok c.layout.result c.in_ok-found.found (IsLayoutOf (program c.args.checked.now) 0) c.in_ok-found.ensures.value (rw c.program.ensures.program at c.layout.ensures.layout))

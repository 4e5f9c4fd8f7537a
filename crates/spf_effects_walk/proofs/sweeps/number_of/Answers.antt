use Rattle.std.proofs.Common.{◌≡◌, ℤ, refl, sym, ap, ◌∙◌, rules, w64, FitsSigned}
use Rattle.std.proofs.lemmas.Int.{to_z-of_z}
use Rattle.std.specs.Prelude.{Some, None}
use Rattle.spf_ast.specs.declared.syntax.Expr.{Expr}
use Rattle.spf_ast.specs.declared.syntax.Expr as e
use Rattle.spf_ast.specs.View.{expression}
use Rattle.spf_effects_walk.specs.Sweeping.{number_of}
use Rattle.spf_effects_walk.proofs.sweeps.number_of.Goals as goal

pub returns-in-Number : goal.returns-in-Number
returns-in-Number c =
    let fits : FitsSigned w64 c.in-Number.n = search rules in
    ap (λ z. Some z) (to_z-of_z w64 c.in-Number.n fits) ∙ ap (λ (x : Expr). number_of (expression x)) (sym c.in-Number.is)

-- an expression of another form is no number
no_number : (x : Expr) → ((n : ℤ) → x ≡ e.Number n → ⊥) → None ≡ number_of (expression x)
no_number (e.Number n) h = absurd (h n refl)
no_number (e.Local slot) h = refl
no_number e.Len h = refl
no_number (e.Input' place index) h = refl
no_number (e.Load' array place index) h = refl
no_number (e.Call' f shape row) h = refl
no_number (e.Neg' place inner) h = refl
no_number (e.Binary' op place left p right) h = refl

pub returns-in_default : goal.returns-in_default
returns-in_default c = no_number c.args.expr.now c.in_default.not-Number

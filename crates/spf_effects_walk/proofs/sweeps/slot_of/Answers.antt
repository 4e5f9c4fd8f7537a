use Rattle.std.proofs.Common.{◌≡◌, ℕ, refl, sym, ap}
use Rattle.std.specs.Prelude.{None}
use Rattle.spf_ast.specs.declared.syntax.Expr.{Expr}
use Rattle.spf_ast.specs.declared.syntax.Expr as e
use Rattle.spf_ast.specs.View.{expression}
use Rattle.spf_effects_walk.specs.Sweeping.{slot_of}
use Rattle.spf_effects_walk.proofs.sweeps.slot_of.Goals as goal

pub returns-in-Local : goal.returns-in-Local
returns-in-Local c = ap (λ (x : Expr). slot_of (expression x)) (sym c.in-Local.is)

-- an expression of another form is no slot
no_slot : (x : Expr) → ((slot : ℕ) → x ≡ e.Local slot → ⊥) → None ≡ slot_of (expression x)
no_slot (e.Local slot) h = absurd (h slot refl)
no_slot (e.Number n) h = refl
no_slot e.Len h = refl
no_slot (e.Input' place index) h = refl
no_slot (e.Load' array place index) h = refl
no_slot (e.Call' f shape row) h = refl
no_slot (e.Neg' place inner) h = refl
no_slot (e.Binary' op place left p right) h = refl

pub returns-in_default : goal.returns-in_default
returns-in_default c = no_slot c.args.expr.now c.in_default.not-Local

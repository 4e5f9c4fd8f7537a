use Rattle.std.proofs.Common.{List, ℕ, map, sym, ap, ◌∙◌}
use Rattle.std.proofs.lemmas.Result.{err_from_is_err_and}
use Rattle.spf_ast.specs.Syntax.{Function, Block}
use Rattle.spf_ast.specs.View.{array}
use Rattle.spf_types.specs.TooLarge.{limits_passed}
use Rattle.spf_types_forms.proofs.Steps.{behind, along, none_in}
use Rattle.spf_types.proofs.program.resolved_of.Goals as goal

pub returns-in_err-keeps_limits : goal.returns-in_err-keeps_limits
returns-in_err-keeps_limits c =
    let raw = c.args.raw in
    let p = err_from_is_err_and c.from_residual-in_err-keeps_limits.result c.from_residual-in_err-keeps_limits.ensures.1 in
    let parts = c.in_ok-parts.ensures {u = tt} in
    let same = ap (λ (t : List Function × List (List ℕ) × Block). record { version = raw.version; arrays = map array raw.arrays.items; functions = t.0; slots = t.1; main = t.2 }) parts.1 in
    rw (p.1, p.2) (behind _ _ _ parts.0 (along _ _ _ (ap (limits_passed raw.main_line) (sym same)) c.in_err-keeps_limits.ensures))

pub returns : goal.returns
returns c =
    let raw = c.args.raw in
    let parts = c.in_ok-parts.ensures {u = tt} in
    let same = ap (λ (t : List Function × List (List ℕ) × Block). record { version = raw.version; arrays = map array raw.arrays.items; functions = t.0; slots = t.1; main = t.2 }) parts.1 in
    (none_in _ _ parts.0 (ap (limits_passed raw.main_line) (sym same) ∙ (c.in_ok-keeps_limits.ensures {u = tt}).0), same)

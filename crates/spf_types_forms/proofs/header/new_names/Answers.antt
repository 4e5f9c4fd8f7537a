use Rattle.std.proofs.Common.{◌≡◌, ◌++◌, ◌∷◌, [], List, ℕ, length, map, false, refl, sym, ap, ◌∙◌, append_assoc}
use Rattle.std.proofs.lemmas.Result.{err_from_is_err_and}
use Rattle.spf_ast.specs.declared.raw.RawFold.{out-RawFold}
use Rattle.spf_ast.specs.View.{name}
use Rattle.spf_types_names.specs.HereView.{setting}
use Rattle.spf_types_names.specs.Locals.{Seen, binding_of}
use Rattle.spf_types_names.specs.Faults.{declared_faults}
use Rattle.spf_types_names.specs.Resolved.{scope}
use Rattle.spf_types_names.proofs.Rows.{hidden_so}
use Rattle.spf_types_forms.proofs.Blocks.{scope_each-is}
use Rattle.spf_types_forms.proofs.Grown.{grown_each, closed_front}
use Rattle.spf_types_forms.proofs.Steps.{behind, along, none_in}
use Rattle.spf_types_forms.proofs.header.new_names.Goals as goal

pub returns-in_err-declarable-clause-answers : goal.returns-in_err-declarable-clause-answers
returns-in_err-declarable-clause-answers c =
    let raw = out-RawFold c.args.raw.now in
    let ls = c.args.locals.now.locals in
    let d = rw c.deref.ensures.value at (c.in_ok-declared_each.ensures {u = tt}) in
    let is = ap (λ (z : Seen). scope z.locals) d.after ∙ scope_each-is false ls (length c.args.locals.now.slots) (map name raw.carried.items) in
    let p = err_from_is_err_and c.from_residual-in_err-declarable.result c.from_residual-in_err-declarable.ensures.1 in
    rw (p.1, p.2) (behind _ _ _ d.answers.0 (along _ _ _ (ap (λ sc. declared_faults (setting c.args.here.now) sc c.args.line (name raw.block)) (sym is)) c.in_err-declarable.ensures.answers))

pub returns-clause-answers : goal.returns-clause-answers
returns-clause-answers c =
    let raw = out-RawFold c.args.raw.now in
    let ls = c.args.locals.now.locals in
    let d = rw c.deref.ensures.value at (c.in_ok-declared_each.ensures {u = tt}) in
    let is = ap (λ (z : Seen). scope z.locals) d.after ∙ scope_each-is false ls (length c.args.locals.now.slots) (map name raw.carried.items) in
    (none_in _ _ d.answers.0 (ap (λ sc. declared_faults (setting c.args.here.now) sc c.args.line (name raw.block)) (sym is) ∙ (c.in_ok-declarable.ensures {u = tt}).answers.0), refl)

pub returns-clause-after : goal.returns-clause-after
returns-clause-after c =
    let raw = out-RawFold c.args.raw.now in
    let old = c.args.locals.now in
    let names = map name raw.carried.items in
    let d = rw c.deref.ensures.value at (c.in_ok-declared_each.ensures {u = tt}) in
    let g = grown_each false old.locals (length old.slots) names in
    closed_front old c.declared_each.new.locals c.declare.new.self c.close.new.self g.0 (name raw.block ∷ []) c.count-count.result (ap (λ (z : Seen). z.locals) d.after ∙ g.1) (c.in_ok-block.ensures {u = tt}).declared c.count-count.ensures c.close.ensures
    ∙ ap (λ (sl : List (List ℕ)). record { locals = old.locals; slots = sl }) (ap (λ (z : Seen). z.slots ++ name raw.block ∷ []) d.after ∙ append_assoc old.slots names (name raw.block ∷ []))

pub returns-clause-block : goal.returns-clause-block
returns-clause-block c fixed n =
    let raw = out-RawFold c.args.raw.now in
    let old = c.args.locals.now in
    let names = map name raw.carried.items in
    let d = rw c.deref.ensures.value at (c.in_ok-declared_each.ensures {u = tt}) in
    hidden_so false fixed old.locals old.locals (length old.slots) n names (λ q none. none) (name raw.block)
    (ap (λ (z : Seen). binding_of z.locals (name raw.block)) (sym d.after) ∙ (c.in_ok-declarable.ensures {u = tt}).new)

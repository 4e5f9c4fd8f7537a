use Rattle.std.proofs.Common.{◌≡◌, map, length, true, false, sym, ap, ◌∙◌}
use Rattle.std.proofs.lemmas.Result.{err_from_is_err_and}
use Rattle.std.proofs.lemmas.List.{length-map}
use Rattle.spf_ast.specs.View.{array as seen_array}
use Rattle.spf_ast.specs.RawView.{raw_function, raw_block}
use Rattle.spf_types_names.specs.Globals.{globals_of}
use Rattle.spf_types_names.specs.Faults.{block_faults}
use Rattle.spf_types_names.specs.Resolved.{scope}
use Rattle.spf_types_forms.proofs.Steps.{ahead, behind, along}
use Rattle.spf_types.proofs.program.parts_of.Goals as goal

pub returns-in_err-resolved : goal.returns-in_err-resolved
returns-in_err-resolved c =
    let p = err_from_is_err_and c.from_residual-in_err-resolved.result c.from_residual-in_err-resolved.ensures.1 in
    let a = rw (c.deref-arrays.ensures.value) at c.in_ok-new_arrays.ensures in
    let f = rw ((c.in_ok-globals.ensures {u = tt}).value, c.deref-arrays.ensures.value, c.deref-functions.ensures.value) at c.in_err-resolved.ensures in
    rw (p.1, p.2) (behind _ _ _ a.0 (ahead _ _ _ f))

pub returns-in_err-main : goal.returns-in_err-main
returns-in_err-main c =
    let raw = c.args.raw.now in
    let p = err_from_is_err_and c.from_residual-in_err-main.result c.from_residual-in_err-main.ensures.1 in
    let a = rw (c.deref-arrays.ensures.value) at c.in_ok-new_arrays.ensures in
    let f = rw ((c.in_ok-globals.ensures {u = tt}).value, c.deref-arrays.ensures.value, c.deref-functions.ensures.value) at c.in_ok-resolved.ensures in
    let g : c.in_ok-globals.globals ≡ globals_of (map seen_array raw.arrays.items) (map raw_function raw.functions.items) = (c.in_ok-globals.ensures {u = tt}).value ∙ (λ i. globals_of (map seen_array (c.deref-arrays.ensures.value i)) (map raw_function (c.deref-functions.ensures.value i))) in
    let n : length c.deref-functions.result.now ≡ length (map raw_function raw.functions.items) = ap length c.deref-functions.ensures.value ∙ sym (length-map raw.functions.items raw_function) in
    rw (p.1, p.2) (behind _ _ _ a.0 (behind _ _ _ f.0 (along _ _ _ (λ i. block_faults (record { globals = sym g i; index = sym n i; in_main = true; in_loop = false }) (scope (sym c.make-locals.ensures.locals i)) (raw_block (sym c.deref.ensures.value i))) (c.in_err-main.ensures {u = tt}).answers)))

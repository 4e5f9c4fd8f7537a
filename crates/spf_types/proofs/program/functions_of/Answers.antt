use Rattle.std.proofs.Common.{take, drop, map, not, sym, ap, ◌∙◌, ◌+◌, ◌++◌, false}
use Rattle.std.proofs.lemmas.Result.{err_from_is_err_and}
use Rattle.spf_ast.specs.RawView.{raw_function}
use Rattle.spf_types_names.specs.declared.fault.TypeFault.TheVariants.{Twice}
use Rattle.spf_types_names.specs.Faults.{first, when, function_faults, functions_faults}
use Rattle.spf_types.proofs.Programs.{function_twice, function_behind, one_function, function_name}
use Rattle.spf_types_forms.proofs.Steps.{ahead, along}
use Rattle.spf_types.proofs.program.functions_of.Goals as goal

pub returns-then-not-is_function : goal.returns-then-not-is_function
returns-then-not-is_function c =
    let i = c.loop-index.index in
    let f = c.index-raw-index.result in
    let g = c.args.globals.now in
    ap first (function_behind g c.args.raw.now c.loop-index.functions.items i f c.loop-index-test.true c.index-raw-index.is c.loop-index.invariant)
    ∙ ap (λ t. first (when t Twice f.line ++ (function_faults (record { globals = g; index = i; in_main = false; in_loop = false }) (raw_function f) ++ functions_faults g (g.arrays ++ take (i + 1) (map function_name c.args.raw.now)) (i + 1) (map raw_function (drop (i + 1) c.args.raw.now))))) (function_twice c.args.arrays.now c.args.raw.now g i f c.requires c.loop-index-test.true c.index-raw-index.is ∙ ap not (sym c.is_function.ensures) ∙ ap not c.if-not-is_function.true)

pub returns-in_err-resolved : goal.returns-in_err-resolved
returns-in_err-resolved c =
    let i = c.loop-index.index in
    let f = c.index-raw-index.result in
    let g = c.args.globals.now in
    let p = err_from_is_err_and c.from_residual.result c.from_residual.ensures.1 in
    rw (p.1, p.2) (along _ _ _ (function_behind g c.args.raw.now c.loop-index.functions.items i f c.loop-index-test.true c.index-raw-index.is c.loop-index.invariant
    ∙ ap (λ t. when t Twice f.line ++ (function_faults (record { globals = g; index = i; in_main = false; in_loop = false }) (raw_function f) ++ functions_faults g (g.arrays ++ take (i + 1) (map function_name c.args.raw.now)) (i + 1) (map raw_function (drop (i + 1) c.args.raw.now)))) (function_twice c.args.arrays.now c.args.raw.now g i f c.requires c.loop-index-test.true c.index-raw-index.is ∙ ap not (sym c.is_function.ensures) ∙ ap not c.if-not-is_function.false)) (ahead _ _ _ c.in_err-resolved.ensures))

pub loop-index-preserved : goal.loop-index-preserved
loop-index-preserved c =
    let i = c.loop-index.index in
    let f = c.index-raw-index.result in
    let g = c.args.globals.now in
    one_function g c.args.raw.now c.loop-index.functions.items c.push.new.self.items i f c.in_ok-resolved.resolved c.loop-index-test.true c.index-raw-index.is c.loop-index.invariant
    (function_twice c.args.arrays.now c.args.raw.now g i f c.requires c.loop-index-test.true c.index-raw-index.is ∙ ap not (sym c.is_function.ensures) ∙ ap not c.if-not-is_function.false)
    (c.in_ok-resolved.ensures {u = tt}).0 (c.in_ok-resolved.ensures {u = tt}).1 (c.in_ok-push.ensures {u = tt}).items

use Rattle.std.proofs.Common.{take, drop, map, not, sym, ap, ◌∙◌, ◌+◌, ◌++◌}
use Rattle.spf_ast.specs.View.{array as seen_array}
use Rattle.spf_types_names.specs.declared.fault.TypeFault.TheVariants.{Twice}
use Rattle.spf_types_names.specs.Faults.{first, when, arrays_faults}
use Rattle.spf_types.proofs.Programs.{array_twice, array_behind, array_name}
use Rattle.spf_types.proofs.program.new_arrays.Goals as goal

pub returns-then-not-is_array : goal.returns-then-not-is_array
returns-then-not-is_array c =
    let i = c.loop-index.index in
    let a = c.index-raw-index.result in
    ap first (array_behind c.args.raw.now i a c.loop-index-test.true c.index-raw-index.is c.loop-index.invariant)
    ∙ ap (λ t. first (when t Twice a.line ++ arrays_faults (take (i + 1) (map array_name c.args.raw.now)) (map seen_array (drop (i + 1) c.args.raw.now)))) (array_twice c.args.raw.now c.args.functions.now c.args.globals.now i a c.requires c.loop-index-test.true c.index-raw-index.is ∙ ap not (sym c.is_array.ensures) ∙ ap not c.if-not-is_array.true)

pub loop-index-preserved : goal.loop-index-preserved
loop-index-preserved c =
    let i = c.loop-index.index in
    let a = c.index-raw-index.result in
    array_behind c.args.raw.now i a c.loop-index-test.true c.index-raw-index.is c.loop-index.invariant
    ∙ ap (λ t. when t Twice a.line ++ arrays_faults (take (i + 1) (map array_name c.args.raw.now)) (map seen_array (drop (i + 1) c.args.raw.now))) (array_twice c.args.raw.now c.args.functions.now c.args.globals.now i a c.requires c.loop-index-test.true c.index-raw-index.is ∙ ap not (sym c.is_array.ensures) ∙ ap not c.if-not-is_array.false)

use Rattle.std.proofs.Common.{map, ap, ◌∙◌}
use Rattle.spf_ast.specs.View.{array as seen_array}
use Rattle.spf_ast.specs.RawView.{raw_function}
use Rattle.spf_types_names.specs.Found.{found}
use Rattle.spf_types_names.specs.Globals.{either}
use Rattle.spf_types_names.specs.declared.globals.Outer.{Outer}
use Rattle.spf_types_names.specs.declared.globals.Outer.TheVariants as outer
use Rattle.std.specs.Option.{option_map}
use Rattle.spf_types_names.specs.Names.{index_in}
use Rattle.std.proofs.Common.{ℕ, List, cond, Some, None}
use Rattle.std.specs.Str.{bytes_eq}
use Rattle.spf_types_names.proofs.Tables.{table_more, no_more_names, either_none, global_named-seen}
use Rattle.spf_types_names.proofs.globals.GlobalTable.make.Goals as goal

pub loop-index-preserved : goal.loop-index-preserved
loop-index-preserved c q =
    table_more {X = Outer} outer.Array (λ a. (seen_array a).name) c.args.arrays.now c.loop-index.index c.in_ok-short.field-0 c.index-arrays-index.result q.now (found c.loop-index.table q) None (found c.enter.new.table q) c.loop-index-test.true c.index-arrays-index.is (c.in_ok-short.ensures {u = tt}).value
    (c.loop-index.invariant q)
    ((c.in_ok-enter.ensures {u = tt}).first q ∙ ap (λ (n : List ℕ). either (found c.loop-index.table q) (cond (bytes_eq n q.now) (Some (outer.Array c.in_ok-short.field-0)) None)) c.deref.ensures.value)

pub loop-index-2-preserved : goal.loop-index-2-preserved
loop-index-2-preserved c q =
    table_more {X = Outer} outer.Function (λ f. (raw_function f).name) c.args.functions.now c.loop-index-2.index c.in_ok-short-2.field-0 c.index-functions-index.result q.now (found c.loop-index-2.table q) _ (found c.enter-in-loop-index-2.new.table q) c.loop-index-2-test.true c.index-functions-index.is (c.in_ok-short-2.ensures {u = tt}).value
    (c.loop-index-2.invariant q)
    ((c.in_ok-enter-2.ensures {u = tt}).first q ∙ ap (λ (n : List ℕ). either (found c.loop-index-2.table q) (cond (bytes_eq n q.now) (Some (outer.Function c.in_ok-short-2.field-0)) None)) c.deref-in-loop-index-2.ensures.value)

pub loop-index-2-init : goal.loop-index-2-init
loop-index-2-init c q =
    c.loop-index.invariant q ∙ no_more_names outer.Array (λ a. (seen_array a).name) c.args.arrays.now c.loop-index.index q.now c.loop-index-test.false ∙ either_none _

pub invariant_of-result : goal.invariant_of-result
invariant_of-result c q =
    c.loop-index-2.invariant q ∙ ap (either (option_map outer.Array (index_in (map (λ a. (seen_array a).name) c.args.arrays.now) q.now))) (no_more_names outer.Function (λ f. (raw_function f).name) c.args.functions.now c.loop-index-2.index q.now c.loop-index-2-test.false) ∙ global_named-seen c.args.arrays.now c.args.functions.now q.now

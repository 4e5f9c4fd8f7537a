use Rattle.std.proofs.Common.{◌≡◌, ◌+◌, length, map, rules, refl, sym, ap, ◌∙◌, subst}
use Rattle.spf_ast.specs.View.{function}
use Rattle.spf_types_size.specs.Sizes.{capped, IsTable, counts_before}
use Rattle.spf_types.proofs.Kept.{none_measured, one_measured, refused_function, all_measured}
use Rattle.spf_types.proofs.limits.sizes_of.Goals as goal

pub loop-index-init : goal.loop-index-init
loop-index-init c = rw c.new-sizes.ensures.items (none_measured c.args.functions.now)

pub loop-index-preserved : goal.loop-index-preserved
loop-index-preserved c =
    let raw = c.args.functions.now in
    let i = c.loop-index.index in
    let f = c.index-functions-index.result in
    let size = c.function_size-size.result in
    let counts = counts_before (map function raw) i in
    let has = c.function_size-size.ensures counts (subst (IsTable counts) (sym c.deref.ensures.value) c.loop-index.invariant.counted.table) in
    let slots : c.len.result ≡ length f.slots.items = c.len.ensures ∙ search rules in
    one_measured raw c.loop-index.sizes.items i f size c.with_slots.result c.push.new.self.items c.loop-index-test.true c.index-functions-index.is c.loop-index.invariant has
    (sym c.is_function_small.ensures ∙ c.if-not-is_function_small.false) c.with_slots.ensures.nodes c.with_slots.ensures.depth (c.with_slots.ensures.slots ∙ ap (λ n. capped (n + size.slots)) slots) (c.in_ok-push.ensures {u = tt}).items

pub returns-then-not-is_function_small-clause-answers : goal.returns-then-not-is_function_small-clause-answers
returns-then-not-is_function_small-clause-answers c =
    let raw = c.args.functions.now in
    let i = c.loop-index.index in
    let counts = counts_before (map function raw) i in
    let has = c.function_size-size.ensures counts (subst (IsTable counts) (sym c.deref.ensures.value) c.loop-index.invariant.counted.table) in
    rw c.too_large.ensures (refused_function raw c.loop-index.sizes.items i c.index-functions-index.result c.function_size-size.result c.loop-index-test.true c.index-functions-index.is c.loop-index.invariant has (sym c.is_function_small.ensures ∙ c.if-not-is_function_small.true))

pub returns-clause-answers : goal.returns-clause-answers
returns-clause-answers c =
    ((all_measured c.args.functions.now c.loop-index.sizes.items c.loop-index.index c.loop-index-test.false c.loop-index.auto.index-end c.loop-index.invariant).0, refl)

pub returns-clause-sizes : goal.returns-clause-sizes
returns-clause-sizes c =
    (all_measured c.args.functions.now c.loop-index.sizes.items c.loop-index.index c.loop-index-test.false c.loop-index.auto.index-end c.loop-index.invariant).1

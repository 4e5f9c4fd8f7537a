use Rattle.std.proofs.Common.{◌≡◌, ◌+◌, length, map, rules, sym, ap, ◌∙◌, subst}
use Rattle.spf_ast.specs.View.{function}
use Rattle.spf_types_size.specs.Sizes.{capped, IsTable, counts_before}
use Rattle.spf_types_size.proofs.Tables.{none_counted, one_counted, all_counted}
use Rattle.spf_types_size.proofs.functions.sizes.Goals as goal

pub loop-function-init : goal.loop-function-init
loop-function-init c = rw c.new-sizes.ensures.items (none_counted c.args.functions.now)

pub loop-function-preserved : goal.loop-function-preserved
loop-function-preserved c =
    let raw = c.args.functions.now in
    let i = c.loop-function.function-index in
    let f = c.function-item.result in
    let size = c.function_size-size.result in
    let counts = counts_before (map function raw) i in
    let has = c.function_size-size.ensures counts (subst (IsTable counts) (sym c.deref.ensures.value) c.loop-function.invariant.table) in
    let slots : c.len.result ≡ length f.slots.items = c.len.ensures ∙ search rules in
    one_counted raw c.loop-function.sizes.items i f size c.with_slots.result c.push.new.self.items c.loop-function-test.true c.function-item.is c.loop-function.invariant has
    c.with_slots.ensures.nodes c.with_slots.ensures.depth (c.with_slots.ensures.slots ∙ ap (λ n. capped (n + size.slots)) slots) (c.in_ok-push.ensures {u = tt}).items

pub returns : goal.returns
returns c = record {
  sizes = all_counted c.args.functions.now c.loop-function.sizes.items c.loop-function.function-index c.loop-function-test.false c.loop-function.auto.function-index-end c.loop-function.invariant;
}

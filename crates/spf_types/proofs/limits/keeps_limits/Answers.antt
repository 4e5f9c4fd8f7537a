use Rattle.std.proofs.Common.{◌+◌, ◌≡◌, length, rules, refl, sym, ap, ◌∙◌, subst}
use Rattle.std.proofs.lemmas.List.{length-map}
use Rattle.std.proofs.lemmas.Result.{err_from_is_err_and}
use Rattle.spf_ast.specs.View.{program, name}
use Rattle.spf_types_size.specs.Sizes.{capped, IsTable, all_counts}
use Rattle.spf_types_forms.proofs.Steps.{ahead, behind}
use Rattle.spf_types.proofs.Kept.{same_main, none_at_main, refused_main}
use Rattle.spf_types.proofs.limits.keeps_limits.Goals as goal

pub returns-in_err-few_arrays : goal.returns-in_err-few_arrays
returns-in_err-few_arrays c =
    let p = err_from_is_err_and c.from_residual.result c.from_residual.ensures.1 in
    let a = rw c.deref.ensures.value at c.in_err-few_arrays.ensures in
    rw (p.1, p.2) (ahead _ _ _ a)

pub returns-in_err-sizes : goal.returns-in_err-sizes
returns-in_err-sizes c =
    let p = err_from_is_err_and c.from_residual-in_err-sizes.result c.from_residual-in_err-sizes.ensures.1 in
    let a = rw c.deref.ensures.value at c.in_ok-few_arrays.ensures in
    let f = rw c.deref-2.ensures.value at c.in_err-sizes.ensures.answers in
    rw (p.1, p.2) (behind _ _ _ a.0 (ahead _ _ _ f))

pub returns-then-is_main_small : goal.returns-then-is_main_small
returns-then-is_main_small c =
    let p = program c.args.program.now in
    let a = rw c.deref.ensures.value at c.in_ok-few_arrays.ensures in
    let f = rw c.deref-2.ensures.value at (c.in_ok-sizes.ensures {u = tt}).answers in
    let t = rw c.deref-2.ensures.value at (c.in_ok-sizes.ensures {u = tt}).sizes in
    let m = rw c.deref-4.ensures.value at c.block-main.ensures (all_counts p.functions) (subst (IsTable (all_counts p.functions)) (sym c.deref-3.ensures.value) t) in
    let n : c.len.result ≡ length p.slots = c.len.ensures ∙ search rules ∙ sym (length-map c.args.program.now.slots.items name) in
    let same = same_main p c.block-main.result c.with_slots.result m c.with_slots.ensures.nodes c.with_slots.ensures.depth (c.with_slots.ensures.slots ∙ ap (λ k. capped (k + c.block-main.result.slots)) n) in
    (none_at_main c.args.main_line p a.0 f.0 (sym same ∙ sym c.is_main_small.ensures ∙ c.if-is_main_small.true), refl)

pub returns : goal.returns
returns c =
    let p = program c.args.program.now in
    let a = rw c.deref.ensures.value at c.in_ok-few_arrays.ensures in
    let f = rw c.deref-2.ensures.value at (c.in_ok-sizes.ensures {u = tt}).answers in
    let t = rw c.deref-2.ensures.value at (c.in_ok-sizes.ensures {u = tt}).sizes in
    let m = rw c.deref-4.ensures.value at c.block-main.ensures (all_counts p.functions) (subst (IsTable (all_counts p.functions)) (sym c.deref-3.ensures.value) t) in
    let n : c.len.result ≡ length p.slots = c.len.ensures ∙ search rules ∙ sym (length-map c.args.program.now.slots.items name) in
    let same = same_main p c.block-main.result c.with_slots.result m c.with_slots.ensures.nodes c.with_slots.ensures.depth (c.with_slots.ensures.slots ∙ ap (λ k. capped (k + c.block-main.result.slots)) n) in
    rw c.too_large.ensures (refused_main c.args.main_line p a.0 f.0 (sym same ∙ sym c.is_main_small.ensures ∙ c.if-is_main_small.false))

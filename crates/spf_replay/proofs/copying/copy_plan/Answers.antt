use Rattle.std.proofs.Common.{◌≡◌, ℕ, suc, List, ◌+◌, ◌<◌, Bool, ap, ◌∙◌, sym, subst, arith, length, drop, map, get_or}
use Rattle.std.specs.Global.{Vec}
use Rattle.spf_ast.specs.Event.{word_at}
use Rattle.spf_region.specs.declared.span.Span.{Span}
use Rattle.spf_region.specs.Cells.{in_spans}
use Rattle.std.specs.Prelude.{◌||◌, if◌then◌else◌}
use Rattle.spf_replay.specs.Copying.{in_plan}
use Rattle.spf_replay.proofs.Copies.{first-copied, plan-step}
use Rattle.spf_replay.proofs.copying.copy_plan.Goals as goal

pub loop-spans-preserved : goal.loop-spans-preserved
loop-spans-preserved c =
    let k = c.loop-spans.spans-index in
    let vs = c.args.plan.now.blocks.items in
    let v = c.spans-item.result in
    let blocks = map (λ (v : Vec Span). v.items) vs in
    let low = c.loop-spans-test.true in
    let size = c.deref-spans-items.ensures.len in
    let next : suc k ≡ k + 1 = omega arith in
    let here : (d : ℕ) → in_plan (drop k blocks) d ≡ (in_spans v.items d || in_plan (drop (k + 1) blocks) d) = λ d. subst (λ (j : ℕ). in_plan (drop k blocks) d ≡ (in_spans v.items d || in_plan (drop j blocks) d)) next (plan-step vs k v d (subst (λ (l : List (Vec Span)). k < length l) c.deref-spans-items.ensures.value (omega (arith, low, size)))
    (c.spans-item.is ∙ ap (λ (l : List (Vec Span)). get_or l k v) c.deref-spans-items.ensures.value)) in
    record {
      size = c.copy_spans.ensures.same ∙ c.loop-spans.invariant.size;
      left = λ d.
          first-copied (in_spans v.items d) (in_plan (drop (k + 1) blocks) d) (word_at c.args.from.now d) (word_at c.loop-spans.to d) (word_at c.copy_spans.new.to d)
          (c.copy_spans.ensures.copied d ∙ ap (λ (l : List Span). if in_spans l d then word_at c.args.from.now d else word_at c.loop-spans.to d) c.deref.ensures.value)
          ∙ ap (λ (b : Bool). if b then word_at c.args.from.now d else word_at c.loop-spans.to d) (sym (here d))
          ∙ c.loop-spans.invariant.left d;
    }

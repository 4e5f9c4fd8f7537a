use Rattle.std.proofs.Common.{◌⊎◌, inl, inr, ◌≤◌, length, ◌++◌, arith, sym, ap, ◌∙◌}
use Rattle.spf_region.proofs.MergeEnds.{append-none, met-end}
use Rattle.spf_region.proofs.merge.common_ranges.Goals as goal
use Rattle.spf_region.proofs.merge.common_ranges.Goals.{then-loop-i-test+else-j-right, else-loop-i-test}

pub returns : goal.returns
returns c =
    let end : (length c.args.left.now ≤ c.loop-i.i) ⊎ (length c.args.right.now ≤ c.loop-i.j) = elim c.loop-i-test.branch [
      | then-loop-i-test+else-j-right w ↦ inr (omega arith)
      | else-loop-i-test w ↦ inl (omega arith)
    ] in
    sym (append-none c.loop-i.common.items) ∙ ap (λ rest. c.loop-i.common.items ++ rest) (sym (met-end c.args.left.now c.args.right.now c.loop-i.i c.loop-i.j end)) ∙ c.loop-i.invariant.common

use Rattle.std.proofs.Common.{◌⊎◌, inl, inr, ◌≤◌, length, ◌++◌, drop, arith, sym, ap, ◌∙◌, append_assoc}
use Rattle.spf_region.proofs.MergeEnds.{interleaved-end, whole-rest}
use Rattle.spf_region.proofs.merge.interleave.Goals as goal
use Rattle.spf_region.proofs.merge.interleave.Goals.{then-loop-i-test+else-j-right, else-loop-i-test}

pub returns : goal.returns
returns c =
    let end : (length c.args.left.now ≤ c.loop-i.i) ⊎ (length c.args.right.now ≤ c.loop-i.j) = elim c.loop-i-test.branch [
      | then-loop-i-test+else-j-right w ↦ inr (omega arith)
      | else-loop-i-test w ↦ inl (omega arith)
    ] in
    let rest = interleaved-end c.args.left.now c.args.right.now c.loop-i.i c.loop-i.j end in
    let first = rw (whole-rest c.args.left.now c.loop-i.i) at c.in_ok-extend_from_slice.ensures.items in
    let second = rw (whole-rest c.args.right.now c.loop-i.j) at c.in_ok-extend_from_slice-2.ensures.items in
    second ∙ ap (λ all. all ++ drop c.loop-i.j c.args.right.now) first
    ∙ append_assoc c.loop-i.all.items (drop c.loop-i.i c.args.left.now) (drop c.loop-i.j c.args.right.now)
    ∙ ap (λ all. c.loop-i.all.items ++ all) (sym rest) ∙ c.loop-i.invariant.all

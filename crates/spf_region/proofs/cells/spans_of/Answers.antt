use Rattle.std.proofs.Common.{take, ap, ◌∙◌, w64, to_z, of_z}
use Rattle.std.proofs.lemmas.Int.{to_z-of_z}
use Rattle.std.proofs.lemmas.List.{take_all}
use Rattle.spf_region.specs.Cells.{cells_at}
use Rattle.spf_region.specs.declared.range.Range.TheVariants.{Whole}
use Rattle.spf_region.proofs.Spans.{more-cells, skipped-cells, more-filled}
use Rattle.spf_region.proofs.cells.spans_of.Goals as goal
use Rattle.spf_region.proofs.cells.spans_of.Goals.{then-span+in_ok-push, else-span}

pub loop-range-preserved : goal.loop-range-preserved
loop-range-preserved c =
    let g = c.args.extents.now in
    let k = to_z w64 (of_z w64 c.args.k) in
    let i = c.loop-range.range-index in
    let s = c.span_in-span.result in
    let inv = c.loop-range.invariant in
    elim c.if-span.branch [
      | then-span+in_ok-push w ↦
          let items = ap (λ v. v.items) w.spans-is ∙ w.in_ok-push.ensures.items in
          record {
            cells = λ cell. rw items (more-cells g k c.args.ranges.now i (Whole 0) cell c.loop-range.spans.items s c.loop-range-test.true (inv.cells cell) (c.span_in-span.ensures cell));
            filled = rw items (more-filled c.loop-range.spans.items s w.if-span.true inv.filled);
          }
      | else-span w ↦
          let items = ap (λ v. v.items) w.spans-is in
          record {
            cells = λ cell. rw items (skipped-cells g k c.args.ranges.now i (Whole 0) cell c.loop-range.spans.items s c.loop-range-test.true w.if-span.false (inv.cells cell) (c.span_in-span.ensures cell));
            filled = rw items inv.filled;
          }
    ]

pub returns-clause-cells : goal.returns-clause-cells
returns-clause-cells c = λ cell.
    c.loop-range.invariant.cells cell
    ∙ ap (λ k. cells_at c.args.extents.now k (take c.loop-range.range-index c.args.ranges.now) cell) (to_z-of_z w64 _ c.ranges.k)
    ∙ ap (λ l. cells_at c.args.extents.now c.args.k l cell) (take_all c.loop-range.range-index c.args.ranges.now c.loop-range-test.false)

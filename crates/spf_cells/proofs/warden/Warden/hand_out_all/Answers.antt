use Rattle.std.proofs.Common.{◌≡◌, ◌+◌, length, ap, sym, ◌∙◌, subst, List, [], ◌∷◌, ◌++◌, arith, Vec, Global}
use Rattle.spf_region.specs.declared.span.Span.{Span}
use Rattle.spf_cells.specs.Spans.{cells_of}
use Rattle.spf_cells.specs.Segments.{HasNoCellTwice}
use Rattle.spf_cells.specs.Values.{WardenValue}
use Rattle.spf_cells.specs.Made.{spans_in, new_lanes, new_lane}
use Rattle.spf_cells.proofs.Plans.{reached, plan_room, plan_longer, new_lanes-snoc}
use Rattle.spf_cells.proofs.Segments.{block_once}
use Rattle.spf_cells.proofs.warden.Warden.hand_out_all.Goals as goal

pub segments_of-requires-clause-once : goal.segments_of-requires-clause-once
segments_of-requires-clause-once c =
    let r = reached {V = Vec Span Global} (λ v. v.items) c.args.plan.now.blocks.items c.deref-spans-items.result.now c.loop-block.block c.spans-item.result c.as_slice-spans.result.now c.deref-spans-items.ensures.value c.loop-block-test.true c.spans-item.is c.as_slice-spans.ensures.value in
    subst (λ (l : List Span). HasNoCellTwice (cells_of l)) (sym r.1) (block_once (spans_in c.args.plan.now) _ c.loop-block.block c.requires.disjoint r.0)

pub segments_of-requires-clause-small : goal.segments_of-requires-clause-small
segments_of-requires-clause-small c =
    let r = reached {V = Vec Span Global} (λ v. v.items) c.args.plan.now.blocks.items c.deref-spans-items.result.now c.loop-block.block c.spans-item.result c.as_slice-spans.result.now c.deref-spans-items.ensures.value c.loop-block-test.true c.spans-item.is c.as_slice-spans.ensures.value in
    let e = ap (λ (l : List Span). length (cells_of l)) r.1 in
    let small = c.requires.small in
    let first = c.loop-block.invariant.first in
    omega (arith, plan_room (spans_in c.args.plan.now) c.loop-block.block r.0)

pub size_of_spans-first-requires : goal.size_of_spans-first-requires
size_of_spans-first-requires c =
    let r = reached {V = Vec Span Global} (λ v. v.items) c.args.plan.now.blocks.items c.deref-spans-items.result.now c.loop-block.block c.spans-item.result c.as_slice-spans.result.now c.deref-spans-items.ensures.value c.loop-block-test.true c.spans-item.is c.as_slice-spans.ensures.value in
    let e = ap (λ (l : List Span). length (cells_of l)) r.1 in
    let small = c.requires.small in
    omega (arith, plan_room (spans_in c.args.plan.now) c.loop-block.block r.0)

pub overflow_add-first : goal.overflow_add-first
overflow_add-first c =
    let r = reached {V = Vec Span Global} (λ v. v.items) c.args.plan.now.blocks.items c.deref-spans-items.result.now c.loop-block.block c.spans-item.result c.as_slice-spans.result.now c.deref-spans-items.ensures.value c.loop-block-test.true c.spans-item.is c.as_slice-spans.ensures.value in
    let e = ap (λ (l : List Span). length (cells_of l)) r.1 in
    let small = c.requires.small in
    let size = c.size_of_spans-first.ensures in
    let first = c.loop-block.invariant.first in
    omega (arith, plan_room (spans_in c.args.plan.now) c.loop-block.block r.0)

pub loop-block-preserved : goal.loop-block-preserved
loop-block-preserved c =
    let r = reached {V = Vec Span Global} (λ v. v.items) c.args.plan.now.blocks.items c.deref-spans-items.result.now c.loop-block.block c.spans-item.result c.as_slice-spans.result.now c.deref-spans-items.ensures.value c.loop-block-test.true c.spans-item.is c.as_slice-spans.ensures.value in
    let e = ap (λ (l : List Span). length (cells_of l)) r.1 in
    let size = c.size_of_spans-first.ensures in
    let first = c.loop-block.invariant.first in
    let w = c.loop-block.invariant.warden in
    let zero_plus : 0 + c.loop-block.block ≡ c.loop-block.block = omega arith in record {
      warden = c.hand_out.ensures.made ∙ ap (λ (x : WardenValue). record x { view = record x.view { made = x.view.made + 1 } }) w;
      lanes = c.in_ok-push.ensures.items ∙ ((λ t. c.loop-block.invariant.lanes t ++ c.hand_out.ensures.lane t ∷ []) ∙ (ap (λ k. new_lanes c.args.cells.now 0 c.loop-block.block ++ new_lane c.args.cells.now k ∷ []) (sym zero_plus) ∙ sym (new_lanes-snoc c.args.cells.now 0 c.loop-block.block)));
      first = omega (arith, plan_longer (spans_in c.args.plan.now) c.loop-block.block r.0);
    }

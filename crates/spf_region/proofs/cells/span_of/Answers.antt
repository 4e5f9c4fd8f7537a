use Rattle.std.proofs.Common.{rules, ◌≡◌, sym, subst, w64, FitsSigned, ◌+ℤ◌, ◌+◌, pos}
use Rattle.std.proofs.lemmas.Int.{to_z-of_z}
use mir.Syntax.{w128}
use Rattle.spf_region.specs.Cells.{at_block, in_span, is_cell}
use Rattle.spf_region.specs.declared.range.Range.{Range}
use Rattle.spf_region.proofs.Spans.{span-cells}
use Rattle.spf_region.proofs.Wide.{next-fits}
use Rattle.spf_region.proofs.cells.span_of.Goals as goal

pub returns-in-Affine : goal.returns-in-Affine
returns-in-Affine c =
    let p = c.in-Affine in
    let factor : FitsSigned w64 p.factor = search rules in
    let from : FitsSigned w64 p.from = search rules in
    let to : FitsSigned w64 p.to = search rules in
    let low : FitsSigned w128 c.at_block.result = search rules in
    let high : FitsSigned w128 c.at_block-in-Affine.result = search rules in
    let next : FitsSigned w128 (c.at_block-in-Affine.result +ℤ pos 1) = next-fits c.at_block-in-Affine.result high c.at_block-in-Affine.ensures.size in
    let a = rw (to_z-of_z w64 _ c.ranges.k, to_z-of_z w64 _ factor, to_z-of_z w64 _ from) at c.at_block.ensures.value in
    let b = rw (to_z-of_z w64 _ c.ranges.k, to_z-of_z w64 _ factor, to_z-of_z w64 _ to) at c.at_block-in-Affine.ensures.value in
    let first = rw (to_z-of_z w128 _ low, a) at c.clamp-first.ensures.value in
    let end = rw (to_z-of_z w128 _ high, to_z-of_z w128 _ next, b) at c.clamp-end.ensures.value in
    λ cell. subst (λ (r : Range). in_span (record { from = c.args.base + c.clamp-first.result; to = c.args.base + c.clamp-end.result }) cell ≡ is_cell (c.args.base, c.args.size) c.args.k r cell) (sym p.is)
    (span-cells c.args.base c.args.size (at_block c.args.k p.factor p.from) (at_block c.args.k p.factor p.to) c.clamp-first.result c.clamp-end.result cell first end)

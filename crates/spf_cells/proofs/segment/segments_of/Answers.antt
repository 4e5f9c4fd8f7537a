use Rattle.std.proofs.Common.{rules, ℕ, ◌+◌, arith, ap, subst, sym, ◌∙◌, take, List}
use Rattle.std.proofs.lemmas.List.Sorted.{IsNonDecreasingBy-from_sort_by_key}
use Rattle.spf_region.specs.declared.span.Span.{Span}
use Rattle.spf_cells.specs.declared.segment.Segment.{Segment}
use Rattle.spf_cells.specs.Spans.{cells_of}
use Rattle.spf_cells.proofs.Spans.{cells_room, cells_longer}
use Rattle.spf_cells.proofs.Segments.{AreUnsortedOf, span_more, span_empty, all_spans, still_segments, searchable}
use Rattle.spf_cells.proofs.segment.segments_of.Goals as goal
use Rattle.spf_cells.proofs.segment.segments_of.Goals.{then-span+in_ok-push, else-span}

abbrev none_span : Span
none_span = record { from = 0; to = 0 }

pub overflow_add-word : goal.overflow_add-word
overflow_add-word c = let small = c.requires.small in let word = c.loop-span.invariant.word in omega (arith, cells_room c.args.spans.now c.loop-span.span-index none_span c.loop-span-test.true)

pub loop-span-preserved : goal.loop-span-preserved
loop-span-preserved c =
    let spans : List Span = c.args.spans.now in
    let i : ℕ = c.loop-span.span-index in
    let inv = c.loop-span.invariant in
    let word = inv.word in
    let longer = cells_longer spans i none_span c.loop-span-test.true in
    elim c.if-span.branch [
      | then-span+in_ok-push w ↦ record {
        are = span_more spans i c.args.first c.loop-span.word none_span c.loop-span.segments.items c.if-span.segments.items c.loop-span-test.true c.requires.once w.if-span.true inv.are word (ap (λ v. v.items) w.segments-is ∙ w.in_ok-push.ensures.items);
        word = let is = w.word-is in let full = w.if-span.true in omega arith;
      }
      | else-span w ↦ record {
        are = subst (λ (ss : List Segment). AreUnsortedOf ss (cells_of (take (i + 1) spans)) c.args.first) (sym (ap (λ v. v.items) w.segments-is)) (span_empty spans i c.args.first none_span c.loop-span.segments.items c.loop-span-test.true w.if-span.false inv.are);
        word = let is = w.word-is in let empty = w.if-span.false in omega arith;
      }
    ]

pub returns-clause-segments : goal.returns-clause-segments
returns-clause-segments c =
    let all : AreUnsortedOf c.loop-span.segments.items (cells_of c.args.spans.now) c.args.first = all_spans c.args.spans.now c.loop-span.span-index c.args.first _ (let end = c.loop-span-test.false in omega arith) c.loop-span.invariant.are in
    still_segments c.loop-span.segments.items c.sort_unstable_by_key.new.self.items (cells_of c.args.spans.now) c.args.first all c.sort_unstable_by_key.ensures.permutation

pub returns-clause-order : goal.returns-clause-order
returns-clause-order c =
    let all : AreUnsortedOf c.loop-span.segments.items (cells_of c.args.spans.now) c.args.first = all_spans c.args.spans.now c.loop-span.span-index c.args.first _ (let end = c.loop-span-test.false in omega arith) c.loop-span.invariant.are in
    searchable c.loop-span.segments.items c.sort_unstable_by_key.new.self.items (cells_of c.args.spans.now) c.args.first all c.sort_unstable_by_key.ensures.permutation
    (IsNonDecreasingBy-from_sort_by_key (λ (s : Segment). s.span.from) _ c.sort_unstable_by_key.ensures.sorted (λ a r q k. search rules))

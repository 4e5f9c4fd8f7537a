use Rattle.std.proofs.Common.{rules, leb, leb-true, arith}
use Rattle.std.proofs.lemmas.Bool.{leb-false}
use Rattle.std.proofs.lemmas.List.Sorted.{IsPartitionPoint-from_clause, IsPartitionedBy-leb}
use Rattle.spf_cells.specs.declared.segment.Segment.{Segment}
use Rattle.spf_cells.proofs.Segments.{not_found, all_behind, at_none}
use Rattle.spf_cells.proofs.segment.find_word.Goals as goal

abbrev no_segment : Segment
no_segment = record { span = record { from = 0; to = 0 }; word = 0 }

pub returns-then-count-eq0-clause-none : goal.returns-then-count-eq0-clause-none
returns-then-count-eq0-clause-none c =
    let point = IsPartitionPoint-from_clause (λ (s : Segment). leb s.span.from c.args.cell) _ _ c.partition_point-count.ensures.partitioned (IsPartitionedBy-leb (λ (s : Segment). s.span.from) _ c.args.cell c.requires.order.sorted) (λ a r q k. search rules) in
    all_behind c.args.segments.now c.partition_point-count.result c.args.cell no_segment c.if-count-eq0.true (λ k low high. leb-false _ _ (point.1 k no_segment low high))

pub returns-clause-none : goal.returns-clause-none
returns-clause-none c =
    let point = IsPartitionPoint-from_clause (λ (s : Segment). leb s.span.from c.args.cell) _ _ c.partition_point-count.ensures.partitioned (IsPartitionedBy-leb (λ (s : Segment). s.span.from) _ c.args.cell c.requires.order.sorted) (λ a r q k. search rules) in
    let bound = c.partition_point-count.ensures.bound in
    let more = c.if-count-eq0.false in
    at_none c.word_of-2.result
    (not_found c.args.segments.now c.partition_point-count.result c.args.cell no_segment c.requires.order (omega arith) bound
    (λ k low. leb-true _ _ (point.0 k no_segment (omega arith) low)) (λ k low high. leb-false _ _ (point.1 k no_segment low high)))
    c.word_of-2.ensures.none

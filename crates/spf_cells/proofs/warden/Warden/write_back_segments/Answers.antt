use Rattle.std.proofs.Common.{◌≡◌, ℕ, ◌-◌, ◌<◌, length, List, ap, sym, ◌∙◌, subst, arith, ℤ, take, get_or}
use Rattle.std.specs.List.{Contains}
use Rattle.std.proofs.lemmas.List.{take_all}
use Rattle.std.proofs.lemmas.List.Elements.{Contains-get_or}
use lib.ListN.{length-map}
use Rattle.spf_region.specs.declared.span.Span.{Span}
use Rattle.spf_cells.specs.declared.view.Setting.{Setting}
use Rattle.spf_cells.specs.declared.segment.Segment.{Segment}
use Rattle.spf_cells.specs.Spans.{consecutive, cells_of}
use Rattle.spf_cells.specs.Segments.{first_word}
use Rattle.spf_cells.specs.Values.{content_at, spans_of}
use Rattle.spf_cells.specs.Finish.{write_back, HaveWordsFrom}
use Rattle.spf_cells.proofs.Segments.{segment_room, segment_stands, segment_inside}
use Rattle.spf_cells.proofs.WritingBack.{length-write_back, write_back_more}
use Rattle.spf_cells.proofs.Finished.{spans_of_segments, span_at, write_back_segments_same}
use Rattle.spf_cells.proofs.warden.Warden.write_back_segments.Goals as goal

abbrev none_span : Span
none_span = record { from = 0; to = 0 }

abbrev no_segment : Segment
no_segment = record { span = none_span; word = 0 }

pub write_back_span-requires-clause-words : goal.write_back_span-requires-clause-words
write_back_span-requires-clause-words c =
    let s : Segment = get_or c.args.segments.now c.loop-segment.segment-index no_segment in
    let there : Contains c.args.segments.now s = Contains-get_or c.args.segments.now c.loop-segment.segment-index no_segment c.loop-segment-test.true in
    subst (λ (z : Setting). HaveWordsFrom z c.args.lane.now.value.block s.word (consecutive s.span.from (s.span.to - s.span.from))) c.requires.setting
    (segment_stands c.args.lane.now.value.setting c.args.lane.now.value.block c.args.segments.now c.requires.segments s there c.requires.block)

pub write_back_span-requires-clause-inside : goal.write_back_span-requires-clause-inside
write_back_span-requires-clause-inside c = λ j k at.
    let s : Segment = get_or c.args.segments.now c.loop-segment.segment-index no_segment in
    let there : Contains c.args.segments.now s = Contains-get_or c.args.segments.now c.loop-segment.segment-index no_segment c.loop-segment-test.true in
    let i = segment_inside c.args.lane.now.value.setting c.args.lane.now.value.block c.args.segments.now c.requires.segments s there j k at in
    let h = c.requires.inside i.0 k i.1 in
    let e = ap length c.loop-segment.invariant.into in
    omega (arith, length-write_back (content_at c.args.lane.now.value) (cells_of (take c.loop-segment.segment-index (spans_of_segments c.args.segments.now))) c.args.into.now)

pub write_back_span-requires-clause-small : goal.write_back_span-requires-clause-small
write_back_span-requires-clause-small c =
    let s : Segment = get_or c.args.segments.now c.loop-segment.segment-index no_segment in
    let there : Contains c.args.segments.now s = Contains-get_or c.args.segments.now c.loop-segment.segment-index no_segment c.loop-segment-test.true in
    let small = c.requires.small in
    omega (arith, segment_room c.args.lane.now.value.setting c.args.lane.now.value.block c.args.segments.now c.requires.segments s there (c.requires.order.filled s there))

pub loop-segment-preserved : goal.loop-segment-preserved
loop-segment-preserved c =
    let i : ℕ = c.loop-segment.segment-index in
    let f : ℕ → ℤ = content_at c.args.lane.now.value in
    let all : List Span = spans_of_segments c.args.segments.now in
    let room : i < length all = let h = c.loop-segment-test.true in omega (arith, length-map {B = Span} c.args.segments.now (λ s. s.span)) in
    let is : (get_or c.args.segments.now i no_segment).span ≡ get_or all i none_span = sym (span_at c.args.segments.now i no_segment none_span c.loop-segment-test.true) in
    let into = c.loop-segment.invariant.into in record {
      same = c.write_back_span.ensures.same ∙ c.loop-segment.invariant.same;
      into = c.write_back_span.ensures.into ∙ ((λ t. write_back f (consecutive (is t).from ((is t).to - (is t).from)) (into t)) ∙ write_back_more f all i none_span c.args.into.now room);
    }

pub returns-clause-into : goal.returns-clause-into
returns-clause-into c =
    let f : ℕ → ℤ = content_at c.args.lane.now.value in
    let all : List Span = spans_of_segments c.args.segments.now in
    let end = c.loop-segment-test.false in
    let whole : take c.loop-segment.segment-index all ≡ all = take_all c.loop-segment.segment-index all (omega (arith, length-map {B = Span} c.args.segments.now (λ s. s.span))) in
    c.loop-segment.invariant.into ∙ (ap (λ (l : List Span). write_back f (cells_of l) c.args.into.now) whole
    ∙ write_back_segments_same f c.args.segments.now (cells_of (spans_of c.args.lane.now.value)) (first_word c.args.lane.now.value.setting c.args.lane.now.value.block) c.args.into.now c.requires.segments)

use Rattle.std.proofs.Common.{rules, ◌≡◌, ◌-◌, ◌<◌, length, ap, ◌∙◌, arith, set, w64, to_z, of_z}
use Rattle.std.proofs.lemmas.Int.{to_z-of_z}
use mir.Val.{SFits}
use Rattle.spf_cells.specs.Spans.{consecutive}
use Rattle.spf_cells.specs.Values.{content_at}
use Rattle.spf_cells.proofs.WritingBack.{length-write_back, write_back-consecutive, consecutive_here}
use Rattle.spf_cells.proofs.warden.Warden.write_back_span.Goals as goal

pub read_back-requires-clause-word : goal.read_back-requires-clause-word
read_back-requires-clause-word c = c.requires.words (c.loop-cell.cell - c.args.span.from) c.loop-cell.cell (consecutive_here c.args.span.from c.args.span.to c.loop-cell.cell c.loop-cell.auto.cell c.loop-cell-test.true)

pub bounds-into-cell : goal.bounds-into-cell
bounds-into-cell c =
    let h = c.requires.inside (c.loop-cell.cell - c.args.span.from) c.loop-cell.cell (consecutive_here c.args.span.from c.args.span.to c.loop-cell.cell c.loop-cell.auto.cell c.loop-cell-test.true) in
    let e = ap length c.loop-cell.invariant.into in
    omega (arith, length-write_back (content_at c.args.lane.now.value) (consecutive c.args.span.from (c.loop-cell.cell - c.args.span.from)) c.args.into.now)

pub offset_bounds-into-cell : goal.offset_bounds-into-cell
offset_bounds-into-cell c =
    let h = c.requires.inside (c.loop-cell.cell - c.args.span.from) c.loop-cell.cell (consecutive_here c.args.span.from c.args.span.to c.loop-cell.cell c.loop-cell.auto.cell c.loop-cell-test.true) in
    let e = ap length c.loop-cell.invariant.into in
    let k : c.loop-cell.cell < length c.loop-cell.into = omega (arith, length-write_back (content_at c.args.lane.now.value) (consecutive c.args.span.from (c.loop-cell.cell - c.args.span.from)) c.args.into.now) in
    search rules

pub loop-cell-preserved : goal.loop-cell-preserved
loop-cell-preserved c =
    let high = c.loop-cell-test.true in let low = c.loop-cell.auto.cell in
    let fits : SFits w64 c.read_back.result = record { sfits = c.read_back.type_inv } in
    let value : to_z w64 (of_z w64 c.read_back.result) ≡ content_at c.args.lane.now.value c.loop-cell.cell = to_z-of_z w64 c.read_back.result fits ∙ c.read_back.ensures.value in
    let into = c.loop-cell.invariant.into in record {
      same = c.read_back.ensures.same ∙ c.loop-cell.invariant.same;
      into = (λ t. set (into t) c.loop-cell.cell (value t)) ∙ write_back-consecutive (content_at c.args.lane.now.value) c.args.span.from c.loop-cell.cell c.args.into.now low;
      empty = λ h. absurd (omega arith);
    }

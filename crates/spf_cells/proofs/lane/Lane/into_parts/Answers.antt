use Rattle.std.proofs.Common.{◌+◌, ◌^◌, ◌<◌, length, subst, arith}
use Rattle.spf_cells.specs.Spans.{cells_of}
use Rattle.spf_cells.specs.Segments.{first_word}
use Rattle.spf_cells.specs.Values.{LaneValue, spans_of}
use Rattle.spf_cells.proofs.LaneSteps.{cells_fit}
use Rattle.spf_cells.proofs.lane.Lane.into_parts.Goals as goal

pub returns-clause-small : goal.returns-clause-small
returns-clause-small c = let small = c.self.invariant.small in
    subst (λ (v : LaneValue). first_word v.setting v.block + length (cells_of (spans_of v)) < 2 ^ 63) c.self.view_is (omega (arith, cells_fit c.self.inside c.self.invariant))

use Rattle.std.proofs.Common.{◌≡◌, ◌<◌, ℕ, true, false, subst, List, Option, Some, None, IfSome, IfNone}
use Rattle.std.specs.List.{Contains}
use Rattle.spf_cells.specs.declared.segment.Segment.{Segment}
use Rattle.spf_cells.specs.declared.lane.Lane.TheInside.{Inside}
use Rattle.spf_cells.specs.Segments.{Holds}
use Rattle.spf_region.specs.Cells.{in_spans}
use Rattle.spf_cells.specs.Lane.{IsLane, lane_value}
use Rattle.spf_cells.specs.Values.{LaneValue, spans_of, IsWordOf}
use Rattle.spf_cells.proofs.Covering.{cover-spans, outside}
use Rattle.spf_cells.proofs.LaneSteps.{segment_fits, cell_word, cell_held}
use Rattle.spf_cells.proofs.lane.Lane.word_of.Goals as goal

pub find_word-requires-clause-order : goal.find_word-requires-clause-order
find_word-requires-clause-order c = rw c.as_slice.ensures.value c.self.invariant.order

pub find_word-requires-clause-first : goal.find_word-requires-clause-first
find_word-requires-clause-first c = rw c.as_slice.ensures.value c.self.invariant.first

pub find_word-requires-clause-small : goal.find_word-requires-clause-small
find_word-requires-clause-small c = rw c.as_slice.ensures.value (segment_fits c.self.inside c.self.invariant)

found : (a : Inside) → IsLane a → (ss : List Segment) → ss ≡ a.segments.items → (c : ℕ) (o : Option ℕ) → IfSome o (λ w. (s : Segment) × Contains ss s × Holds s c w)
    → IfSome o (λ w. (in_spans (spans_of (lane_value a)) c ≡ true) × IsWordOf (lane_value a) c w × (w < (lane_value a).table.words))
found a h ss is c (Some w) there =
    let r = cell_word a h c w (subst (λ (l : List Segment). (s : Segment) × Contains l s × Holds s c w) is there) in (cover-spans (spans_of (lane_value a)) c r.0, r.1, r.2)
found a h ss is c None there = tt

not_found : (a : Inside) → IsLane a → (ss : List Segment) → ss ≡ a.segments.items → (c : ℕ) (o : Option ℕ) → IfNone o ((s : Segment) (w : ℕ) → Contains ss s → ¬ Holds s c w)
    → IfNone o (in_spans (spans_of (lane_value a)) c ≡ false)
not_found a h ss is c (Some w) not = tt
not_found a h ss is c None not = outside (spans_of (lane_value a)) c (λ there. cell_held a h c there (subst (λ (l : List Segment). (s : Segment) (w : ℕ) → Contains l s → ¬ Holds s c w) is not))

pub returns-clause-inside : goal.returns-clause-inside
returns-clause-inside c =
    subst (λ (v : LaneValue). IfSome c.find_word.result (λ w. (in_spans (spans_of v) c.args.cell ≡ true) × IsWordOf v c.args.cell w × (w < v.table.words))) c.self.view_is
    (found c.self.inside c.self.invariant c.as_slice.result.now c.as_slice.ensures.value c.args.cell c.find_word.result c.find_word.ensures.some)

pub returns-clause-outside : goal.returns-clause-outside
returns-clause-outside c =
    subst (λ (v : LaneValue). IfNone c.find_word.result (in_spans (spans_of v) c.args.cell ≡ false)) c.self.view_is
    (not_found c.self.inside c.self.invariant c.as_slice.result.now c.as_slice.ensures.value c.args.cell c.find_word.result c.find_word.ensures.none)

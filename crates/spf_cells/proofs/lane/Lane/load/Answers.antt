use Rattle.std.proofs.Common.{◌≡◌, ℕ, ℤ, false, List, Option, Some, None, IfNone, refl}
use Rattle.std.specs.Option.{IsSome}
use Rattle.spf_region.specs.declared.span.Span.{Span}
use Rattle.spf_region.specs.Cells.{in_spans}
use Rattle.spf_cells.specs.Spans.{Covers}
use Rattle.spf_cells.specs.Values.{spans_of}
use Rattle.spf_cells.proofs.Covering.{cover-spans}
use Rattle.spf_cells.proofs.lane.Lane.load.Goals as goal

loads : (spans : List Span) (c : ℕ) (o : Option ℤ) (Same : Type 0) → Covers spans c → IfNone o ((in_spans spans c ≡ false) × Same) → IsSome o
loads spans c (Some word) Same there not = refl
loads spans c None Same there not = absurd (let t = cover-spans spans c there in let f = not.0 in cc)

pub unwrap-requires : goal.unwrap-requires
unwrap-requires c = loads (spans_of c.args.self.now) c.args.cell c.try_load.result (c.try_load.new.self ≡ c.args.self.now) c.requires.inside c.try_load.ensures.outside

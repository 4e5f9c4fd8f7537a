use Rattle.std.proofs.Common.{◌≡◌, ◌<◌, ℕ, true, false, sym, subst, List, Option, Some, None, IfSome, IfNone, Bool, refl, ◌↔◌, IsTrue}
use Rattle.std.specs.Option.{is_some}
use Rattle.spf_region.specs.declared.span.Span.{Span}
use Rattle.spf_region.specs.Cells.{in_spans}
use Rattle.spf_cells.specs.Spans.{Covers}
use Rattle.spf_cells.specs.Values.{spans_of, IsWordOf}
use Rattle.spf_cells.proofs.Covering.{spans-cover, cover-spans}
use Rattle.spf_cells.proofs.lane.Lane.has.Goals as goal

tells : (spans : List Span) (c : ℕ) (o : Option ℕ) (A B : ℕ → Type 0) → IfSome o (λ w. (in_spans spans c ≡ true) × A w × B w) → IfNone o (in_spans spans c ≡ false) → IsTrue (is_some o) ↔ Covers spans c
tells spans c (Some w) A B found not = ((λ _. spans-cover spans c found.0), (λ _. refl))
tells spans c None A B found not = ((λ f. cc), (λ there. absurd (let t = cover-spans spans c there in cc)))

pub returns : goal.returns
returns c =
    subst (λ (x : Bool). IsTrue x ↔ Covers (spans_of c.args.self.now) c.args.cell) (sym c.is_some.ensures)
    (tells (spans_of c.args.self.now) c.args.cell c.word_of.result (λ w. IsWordOf c.args.self.now c.args.cell w) (λ w. w < c.args.self.now.table.words) c.word_of.ensures.inside c.word_of.ensures.outside)

use Rattle.std.proofs.Common.{◌≡◌, ap, sym, ◌∙◌, arith, subst, to_z, of_z, w64}
use Rattle.std.proofs.lemmas.Int.{to_z-of_z}
use Rattle.spf_cells.specs.declared.view.LogEntry.TheVariants.{Load}
use Rattle.spf_cells.specs.Log.{content}
use Rattle.spf_cells.specs.Rule.{cell_of_word, log_of}
use Rattle.spf_cells.specs.Values.{LaneValue, logged, IsWordOf, content_at}
use Rattle.spf_cells.specs.Lane.{setting_of, lane_value}
use Rattle.spf_cells.proofs.LaneSteps.{may_load, grows, grown, cell_here}
use Rattle.spf_cells.proofs.lane.Lane.try_load.Goals as goal

pub load-requires : goal.load-requires
load-requires c =
    let same : c.self.inside.seat.table_id ≡ c.cells.inside.table.shared.table_id = ap (λ v. v.table) c.self.view_is ∙ (c.requires.own ∙ sym (ap (λ v. v.table) c.cells.view_is)) in
    let e = ap (λ z. z.words) same in
    let t = ap (λ v. v.table.words) c.self.view_is in
    let w : IsWordOf (lane_value c.self.inside) c.args.cell c.in-Some.word = subst (λ (v : LaneValue). IsWordOf v c.args.cell c.in-Some.word) (sym c.self.view_is) c.in-Some.ensures.inside.1 in
    let inside = c.in-Some.ensures.inside.2 in
    (same, omega arith, may_load c.self.inside c.self.invariant _ _ c.in-Some.word w.0 c.args.cell w.1 w.2)

-- the event as the step names it, and as the contract does
event_is : (c : goal.After-cast_signed) → Load (cell_of_word (setting_of c.self.inside) c.in-Some.word) (to_z w64 c.load.result) ≡ Load c.args.cell (to_z w64 (of_z w64 c.cast_signed.result))
event_is c = let w : IsWordOf (lane_value c.self.inside) c.args.cell c.in-Some.word = subst (λ (v : LaneValue). IsWordOf v c.args.cell c.in-Some.word) (sym c.self.view_is) c.in-Some.ensures.inside.1 in
    λ t. Load (cell_here c.self.inside c.in-Some.word c.args.cell w t) ((sym c.cast_signed.ensures ∙ sym (to_z-of_z w64 c.cast_signed.result record { sfits = c.cast_signed.type_inv })) t)

pub invariant_of-self : goal.invariant_of-self
invariant_of-self c = let e = c.load.ensures in
    grows c.self.inside c.self.invariant _ c.load.new.seat e.0 e.2.0 e.2.1 tt

pub returns-in-Some-clause-value : goal.returns-in-Some-clause-value
returns-in-Some-clause-value c = let e = c.load.ensures in
    let w : IsWordOf (lane_value c.self.inside) c.args.cell c.in-Some.word = subst (λ (v : LaneValue). IsWordOf v c.args.cell c.in-Some.word) (sym c.self.view_is) c.in-Some.ensures.inside.1 in
    to_z-of_z w64 c.cast_signed.result record { sfits = c.cast_signed.type_inv } ∙ (c.cast_signed.ensures ∙ (e.2.1
    ∙ (ap (content (setting_of c.self.inside) (log_of c.self.inside.seat.me.0.role)) (cell_here c.self.inside c.in-Some.word c.args.cell w) ∙ ap (λ (v : LaneValue). content_at v c.args.cell) c.self.view_is)))

pub returns-in-Some-clause-log : goal.returns-in-Some-clause-log
returns-in-Some-clause-log c = let e = c.load.ensures in
    grown c.self.inside c.self.invariant _ c.load.new.seat e.0 e.2.0 ∙ (λ t. logged (c.self.view_is t) (event_is c t))

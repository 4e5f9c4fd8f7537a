use Rattle.std.proofs.Common.{◌≡◌, ap, sym, ◌∙◌, arith, subst, to_z, of_z, w64}
use Rattle.std.proofs.lemmas.Int.{to_z-of_z}
use Rattle.spf_cells.specs.declared.view.LogEntry.TheVariants.{Store}
use Rattle.spf_cells.specs.Values.{LaneValue, logged, IsWordOf, content_at}
use Rattle.spf_cells.specs.Lane.{lane_value}
use Rattle.spf_cells.proofs.Covering.{spans-cover}
use Rattle.spf_cells.proofs.LaneSteps.{own_inside, stored_here, stored_else, may_store, grows, grown, cell_here}
use Rattle.spf_cells.proofs.lane.Lane.try_store.Goals as goal

pub store-requires : goal.store-requires
store-requires c =
    let same : c.self.inside.seat.table_id ≡ c.cells.inside.table.shared.table_id = ap (λ v. v.table) c.self.view_is ∙ (c.requires.own ∙ sym (ap (λ v. v.table) c.cells.view_is)) in
    let e = ap (λ z. z.words) same in
    let t = ap (λ v. v.table.words) c.self.view_is in
    let w : IsWordOf (lane_value c.self.inside) c.args.cell c.in-Some.word = subst (λ (v : LaneValue). IsWordOf v c.args.cell c.in-Some.word) (sym c.self.view_is) c.in-Some.ensures.inside.1 in
    let inside = c.in-Some.ensures.inside.2 in
    (same, omega arith, may_store c.self.inside c.self.invariant _ _ c.in-Some.word w.0 c.args.cell _ w.1 w.2)

pub invariant_of-self : goal.invariant_of-self
invariant_of-self c = let e = c.store.ensures in
    grows c.self.inside c.self.invariant _ c.store.new.seat e.0 e.2 tt tt

pub returns-in-Some-clause-log : goal.returns-in-Some-clause-log
returns-in-Some-clause-log c = let e = c.store.ensures in
    let w : IsWordOf (lane_value c.self.inside) c.args.cell c.in-Some.word = subst (λ (v : LaneValue). IsWordOf v c.args.cell c.in-Some.word) (sym c.self.view_is) c.in-Some.ensures.inside.1 in
    let back : to_z w64 (of_z w64 c.args.value) ≡ c.args.value = to_z-of_z w64 c.args.value c.ranges.value in
    let word : to_z w64 c.cast_unsigned.result ≡ c.args.value = ap (to_z w64) (c.cast_unsigned.ensures ∙ ap (of_z w64) back) ∙ back in
    grown c.self.inside c.self.invariant _ c.store.new.seat e.0 e.2 ∙ (λ t. logged (c.self.view_is t) (Store (cell_here c.self.inside c.in-Some.word c.args.cell w t) (word t)))

pub returns-in-Some-clause-content : goal.returns-in-Some-clause-content
returns-in-Some-clause-content c = λ _. ap (λ (v : LaneValue). content_at v c.args.cell) (returns-in-Some-clause-log c)
    ∙ stored_here c.args.self.now c.args.cell c.args.value (own_inside c.self.inside c.self.invariant c.args.self.now c.self.view_is c.args.cell (spans-cover _ c.args.cell c.in-Some.ensures.inside.0))

pub returns-in-Some-clause-others : goal.returns-in-Some-clause-others
returns-in-Some-clause-others c = λ d other. ap (λ (v : LaneValue). content_at v d) (returns-in-Some-clause-log c) ∙ stored_else c.args.self.now c.args.cell d c.args.value other

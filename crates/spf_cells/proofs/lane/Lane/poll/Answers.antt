use Rattle.std.proofs.Common.{subst, ◌≡◌, ap, sym, ◌∙◌, arith}
use Rattle.spf_cells.specs.declared.view.LogEntry.TheVariants.{Turn}
use Rattle.spf_cells.specs.Values.{LaneValue, logged}
use Rattle.spf_cells.specs.Log.{IsPossibleFlag}
use Rattle.spf_cells.proofs.LaneSteps.{may_poll, grows, grown}
use Rattle.spf_cells.proofs.lane.Lane.poll.Goals as goal

pub load-requires : goal.load-requires
load-requires c =
    let same : c.self.inside.seat.table_id ≡ c.cells.inside.table.shared.table_id = ap (λ v. v.table) c.self.view_is ∙ (c.requires.own ∙ sym (ap (λ v. v.table) c.cells.view_is)) in
    let i = c.self.invariant in
    let words = i.words in let block = i.block in
    (same, (let e = ap (λ z. z.words) same in omega arith), may_poll c.self.inside i _ _)

pub invariant_of-self : goal.invariant_of-self
invariant_of-self c = let e = c.load.ensures in let s = e.2 in
    grows c.self.inside c.self.invariant (Turn c.load.result) c.load.new.seat e.0 s.0 tt s.1

pub returns-clause-log : goal.returns-clause-log
returns-clause-log c = let e = c.load.ensures in let s = e.2 in
    grown c.self.inside c.self.invariant (Turn c.load.result) c.load.new.seat e.0 s.0 ∙ ap (λ v. logged v (Turn c.load.result)) c.self.view_is

pub returns-clause-possible : goal.returns-clause-possible
returns-clause-possible c = subst (λ (v : LaneValue). IsPossibleFlag v.setting v.block c.load.result) c.self.view_is c.load.ensures.2.1

use Rattle.std.proofs.Common.{◌≡◌, ◌<◌, ap, sym, ◌∙◌, arith, subst, length}
use Rattle.spf_cells.specs.Rule.{blocks, HasNoBlockTwice}
use Rattle.spf_cells.specs.Warden.{warden_of}
use Rattle.spf_cells.proofs.WardenSteps.{may_raise, same_taken}
use Rattle.spf_cells.proofs.warden.Warden.take.Goals as goal

pub fetch_max-requires : goal.fetch_max-requires
fetch_max-requires c =
    let i = c.self.invariant in
    let words = i.words in
    let table : c.take_over.new.self.table ≡ c.args.self.now.table = ap (λ v. v.table) c.take_over.ensures in
    let same : c.self.inside.seat.table_id ≡ c.cells.inside.table.shared.table_id = ap (λ v. v.table) c.self.view_is ∙ (table ∙ (c.requires.own.0 ∙ sym (ap (λ v. v.table) c.cells.view_is))) in
    let e = ap (λ z. z.words) same in
    let plan : length c.self.inside.seat.me.0.setting.plan ≡ length c.args.lane.setting.plan =
    ap (λ v. length v.setting.plan) c.self.view_is ∙ (ap (λ v. length v.setting.plan) c.take_over.ensures ∙ (ap (λ z. length z.plan) c.requires.own.1 ∙ sym (ap (λ z. length z.plan) c.requires.lane.1))) in
    let inside = c.block-block.ensures.inside in
    let room : c.block-block.result < blocks c.self.inside.seat.me.0.setting = omega arith in
    (same, omega arith, may_raise c.self.inside i _ _ c.block-block.result 0 room (omega arith) (λ above. absurd (omega arith)))

pub returns-clause-once : goal.returns-clause-once
returns-clause-once c = let e = c.fetch_max.ensures.2 in
    subst HasNoBlockTwice (sym (ap (λ m. (warden_of m.0.role).taken) e.0 ∙ same_taken c.self.inside.seat.me.0.role c.block-block.result 0)) e.1

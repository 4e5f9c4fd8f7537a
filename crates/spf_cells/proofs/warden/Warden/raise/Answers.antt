use Rattle.std.proofs.Common.{◌≡◌, ◌<◌, ap, sym, ◌∙◌, arith, subst, length}
use Rattle.std.specs.List.{Contains}
use Rattle.spf_cells.specs.Values.{WardenValue}
use Rattle.spf_cells.specs.Rule.{blocks}
use Rattle.spf_cells.proofs.WardenSteps.{may_raise}
use Rattle.spf_cells.proofs.warden.Warden.raise.Goals as goal

pub fetch_max-requires : goal.fetch_max-requires
fetch_max-requires c =
    let i = c.self.invariant in
    let words = i.words in
    let same : c.self.inside.seat.table_id ≡ c.cells.inside.table.shared.table_id = ap (λ v. v.table) c.self.view_is ∙ (c.requires.own.0 ∙ sym (ap (λ v. v.table) c.cells.view_is)) in
    let e = ap (λ z. z.words) same in
    let room : c.args.block < blocks c.self.inside.seat.me.0.setting = subst (λ (w : WardenValue). c.args.block < length w.setting.plan) (sym c.self.view_is) c.requires.inside in
    let one = c.requires.attempt in
    (same, omega arith, may_raise c.self.inside i _ _ c.args.block c.args.attempt room (omega arith) (λ _. subst (λ (w : WardenValue). Contains w.setting.raisable c.args.block) (sym c.self.view_is) c.requires.raisable))

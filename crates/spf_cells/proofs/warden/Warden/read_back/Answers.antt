use Rattle.std.proofs.Common.{◌≡◌, length, List, ap, sym, ◌∙◌, arith, w64}
use Rattle.std.proofs.lemmas.Int.{to_z-of_z}
use mathlib.Core.Option.{some}
use lib.ListN.{get_elem?}
use Rattle.spf_cells.specs.declared.view.Setting.{Setting}
use Rattle.spf_cells.specs.declared.view.TakenLane.{TakenLane}
use Rattle.spf_cells.specs.Log.{content}
use Rattle.spf_cells.specs.Spans.{cells_with_blocks}
use Rattle.spf_cells.specs.Rule.{taken_of}
use Rattle.spf_cells.specs.Finish.{taken_as}
use Rattle.spf_cells.proofs.Spans.{below}
use Rattle.spf_cells.proofs.WardenSteps.{may_read_back, taken_keep}
use Rattle.spf_cells.proofs.warden.Warden.read_back.Goals as goal

pub load-requires : goal.load-requires
load-requires c =
    let i = c.self.invariant in
    let words = i.words in
    let same : c.self.inside.seat.table_id ≡ c.cells.inside.table.shared.table_id = ap (λ v. v.table) c.self.view_is ∙ (c.requires.own.0 ∙ sym (ap (λ v. v.table) c.cells.view_is)) in
    let e = ap (λ z. z.words) same in
    let setting : c.self.inside.seat.me.0.setting ≡ c.args.cells.now.setting = ap (λ v. v.setting) c.self.view_is ∙ c.requires.own.1 in
    let plan = ap (λ (z : Setting). length z.plan) setting in
    let pairs_are = ap (λ (z : Setting). length (cells_with_blocks z.plan)) setting in
    let w = c.requires.word in
    let at = w.1 in
    let low = below (cells_with_blocks c.args.cells.now.setting.plan) w.0 _ w.2 in
    (same, omega arith, may_read_back c.self.inside i _ _ c.args.word w.0 (omega arith))

pub returns-clause-value : goal.returns-clause-value
returns-clause-value c =
    let e = c.load.ensures.2 in
    let w = c.requires.word in
    let t = c.requires.taken in
    let setting : c.self.inside.seat.me.0.setting ≡ c.args.cells.now.setting = ap (λ v. v.setting) c.self.view_is ∙ c.requires.own.1 in
    let plan = ap (λ (z : Setting). length z.plan) setting in
    let at = w.1 in
    let list : taken_of c.self.inside.seat.me.0.role ≡ c.args.self.now.view.taken = taken_keep c.self.inside.seat.me.0.role ∙ ap (λ v. v.view.taken) c.self.view_is in
    let mine : get_elem? (taken_of c.self.inside.seat.me.0.role) t.0 ≡ some (taken_as c.args.lane.now.value) = ap (λ (l : List TakenLane). get_elem? l t.0) list ∙ t.1 in
    let pair : get_elem? (cells_with_blocks c.self.inside.seat.me.0.setting.plan) w.0 ≡ some (c.args.lane.now.value.block, c.args.cell) = ap (λ (z : Setting). get_elem? (cells_with_blocks z.plan) w.0) setting ∙ w.2 in
    let got = e.1 w.0 c.args.cell t.0 (taken_as c.args.lane.now.value) (omega arith) mine pair in
    to_z-of_z w64 c.cast_signed.result record { sfits = c.cast_signed.type_inv } ∙ (c.cast_signed.ensures ∙ (got ∙ ap (λ (z : Setting). content z c.args.lane.now.value.log c.args.cell) (setting ∙ sym c.requires.setting)))

use Rattle.std.proofs.Common.{◌≡◌, List, [], ◌∷◌, ◌++◌, map, length, ap, sym, ◌∙◌, subst, arith, get_or, append_assoc}
use Rattle.std.proofs.lemmas.List.{append-nil, map-append}
use mathlib.Core.Option.{some}
use lib.ListN.{get_elem?}
use Rattle.spf_cells.specs.declared.view.Setting.{Setting}
use Rattle.spf_cells.specs.Spans.{cells_of, IsDisjointWithin}
use Rattle.spf_cells.specs.Values.{LaneValue, CellsValue, spans_of, content_at}
use Rattle.spf_cells.specs.declared.view.TakenLane.{TakenLane}
use Rattle.spf_cells.specs.Finish.{write_back, write_back_all, taken_as}
use Rattle.spf_cells.proofs.WritingBack.{next_is, cells_inside, length-write_back_all, write_back_all-snoc, logs_of, no_rest}
use Rattle.spf_cells.proofs.Finished.{KeepLogs, keep_snoc, finished}
use Rattle.spf_cells.proofs.cells.Cells.finish.Goals as goal

pub collect-requires-clause-lane : goal.collect-requires-clause-lane
collect-requires-clause-lane c =
    let all : c.args.lanes.items ≡ c.loop-lane.yielded ++ c.in-Some.lane ∷ c.next.new.self.rest.items = sym c.into_iter-lane-iterator.ensures.into_iter_gives.0 ∙ (c.loop-lane.invariant.left ∙ ap (λ (l : List LaneValue). c.loop-lane.yielded ++ l) c.in-Some.ensures.steps.0) in
    (next_is c.args.self c.args.lanes.items c.loop-lane.yielded c.next.new.self.rest.items c.in-Some.lane c.requires.lanes all).0

pub collect-requires-clause-inside : goal.collect-requires-clause-inside
collect-requires-clause-inside c = λ j k at.
    let all : c.args.lanes.items ≡ c.loop-lane.yielded ++ c.in-Some.lane ∷ c.next.new.self.rest.items = sym c.into_iter-lane-iterator.ensures.into_iter_gives.0 ∙ (c.loop-lane.invariant.left ∙ ap (λ (l : List LaneValue). c.loop-lane.yielded ++ l) c.in-Some.ensures.steps.0) in
    let n = next_is c.args.self c.args.lanes.items c.loop-lane.yielded c.next.new.self.rest.items c.in-Some.lane c.requires.lanes all in
    let apart : IsDisjointWithin c.args.self.setting.plan (length c.args.self.setting.entry) = subst (λ (w : CellsValue). IsDisjointWithin w.setting.plan (length w.setting.entry)) c.self.view_is c.self.invariant.disjoint in
    let pair : get_elem? (cells_of (get_or c.args.self.setting.plan c.in-Some.lane.block [])) j ≡ some k = ap (λ (z : Setting). get_elem? (cells_of (get_or z.plan c.in-Some.lane.block [])) j) (sym n.0.1) ∙ at in
    let h = cells_inside c.args.self.setting c.in-Some.lane.block (length c.args.self.setting.entry) apart n.1 j k pair in
    let e = ap length c.loop-lane.invariant.into in
    let size = c.requires.size in
    omega (arith, length-write_back_all c.loop-lane.yielded c.args.into.now)

pub loop-lane-preserved : goal.loop-lane-preserved
loop-lane-preserved c =
    let inv = c.loop-lane.invariant in
    let l : LaneValue = c.in-Some.lane in
    let rest : List LaneValue = c.next.new.self.rest.items in
    let steps = c.in-Some.ensures.steps in
    let kept = c.collect.ensures.taken in
    let count = ap length steps.0 in
    let len = inv.len in
    let one = steps.1 in record {
      can = tt;
      ends = tt;
      left = inv.left ∙ (ap (λ (x : List LaneValue). c.loop-lane.yielded ++ x) steps.0 ∙ sym (append_assoc c.loop-lane.yielded (l ∷ []) rest));
      len = omega arith;
      table = ap (λ w. w.table) kept ∙ inv.table;
      setting = ap (λ w. w.setting) kept ∙ inv.setting;
      taken = ap (λ w. w.view.taken) kept ∙ (ap (λ (x : List TakenLane). x ++ taken_as l ∷ []) inv.taken ∙ sym (map-append taken_as c.loop-lane.yielded (l ∷ [])));
      logs = keep_snoc c.loop-lane.yielded l inv.logs c.collect.ensures.log;
      into = c.collect.ensures.into ∙ (ap (write_back (content_at l) (cells_of (spans_of l))) inv.into ∙ sym (write_back_all-snoc c.loop-lane.yielded l c.args.into.now));
    }

pub returns : goal.returns
returns c =
    let inv = c.loop-lane.invariant in
    let none = no_rest c.loop-lane.lane-iterator.rest.len c.loop-lane.lane-iterator.rest.items c.in-None.ensures.steps.0 inv.len in
    let all : c.loop-lane.yielded ≡ c.args.lanes.items = sym (sym c.into_iter-lane-iterator.ensures.into_iter_gives.0 ∙ (inv.left ∙ (ap (λ (x : List LaneValue). c.loop-lane.yielded ++ x) none ∙ append-nil c.loop-lane.yielded))) in
    let apart : IsDisjointWithin c.args.self.setting.plan (length c.args.self.setting.entry) = subst (λ (w : CellsValue). IsDisjointWithin w.setting.plan (length w.setting.entry)) c.self.view_is c.self.invariant.disjoint in
    finished c.args.self c.args.lanes.items _ c.args.into.now _
    c.requires.lanes (subst (IsDisjointWithin c.args.self.setting.plan) (sym c.requires.size) apart)
    (subst KeepLogs all inv.logs)
    (logs_of c.loop-lane.yielded c.loop-lane.warden.view.taken inv.taken ∙ ap (map (λ (l : LaneValue). l.log)) all)
    (inv.into ∙ ap (λ (x : List LaneValue). write_back_all x c.args.into.now) all)

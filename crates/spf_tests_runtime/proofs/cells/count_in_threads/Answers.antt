use Rattle.std.proofs.Common.{◌≡◌, List, length, drop, sym, subst, arith}
use Rattle.spf_tests_runtime.specs.Examples.{AreSameLanes}
use Rattle.spf_cells.specs.Finish.{AreAllLanes}
use Rattle.spf_cells.specs.Values.{LaneValue}
use Rattle.spf_tests_runtime.proofs.Examples.{still_all, written}
use Rattle.spf_tests_runtime.proofs.cells.count_in_threads.Goals as goal

pub finish-trace-requires-clause-lanes : goal.finish-trace-requires-clause-lanes
finish-trace-requires-clause-lanes g c =
    let new : List LaneValue = c.count_and_raise.new.lanes in
    let old : List LaneValue = c.in_ok-cells.lanes.items in
    let same : AreSameLanes old new = subst (λ (l : List LaneValue). AreSameLanes l new) c.as_mut_slice.ensures.value c.count_and_raise.ensures.lanes in
    let all : AreAllLanes c.in_ok-cells.cells new = still_all c.in_ok-cells.cells old new c.in_ok-cells.ensures.lanes same in
    let long : c.in_ok-cells.lanes.len ≡ length new = let e = same.0 in let f = c.in_ok-cells.lanes.ok in omega arith in
    subst (λ (l : List LaneValue). AreAllLanes c.in_ok-cells.cells l) (sym (written c.in_ok-cells.lanes.len new (drop (length new) old) long)) all

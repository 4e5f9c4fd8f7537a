use Rattle.std.proofs.Common.{◌≡◌, sym, ap, ◌∙◌, get_or, List}
use mathlib.Core.Option.{some}
use lib.ListN.{get_elem?}
use Rattle.spf_pool.specs.Ends.{EndValue}
use Rattle.spf_pool.proofs.Sweeps.{here}
use Rattle.spf_pool.proofs.pool.row.Goals as goal

pub guest-requires : goal.guest-requires
guest-requires g c =
    let l : List (EndValue g.row.K.Denot) = c.loop-index.owners in
    let at : get_elem? l c.loop-index.index ≡ some (get_or l c.loop-index.index c.index-owners-index.result) = here l c.loop-index.index c.index-owners-index.result c.loop-index-test.true c.index-owners-index.is ∙ ap some c.index-owners-index.is in
    c.requires c.loop-index.index (get_or l c.loop-index.index c.index-owners-index.result) (ap (λ (x : List (EndValue g.row.K.Denot)). get_elem? x c.loop-index.index) (sym c.loop-index.invariant.same) ∙ at)

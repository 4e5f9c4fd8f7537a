use Rattle.std.proofs.Common.{◌≡◌, ◌+◌, List, [], ◌∷◌, ◌++◌, map, length, length-append, sym, ap, ◌∙◌, Vec, Global}
use lib.ListN.{get_elem?}
use Rattle.spf_pool.specs.Ends.{EndValue}
use Rattle.spf_pool.specs.Made.{as_guest}
use Rattle.spf_pool.proofs.Made.{each-snoc}
use Rattle.spf_pool.proofs.pool.rows.Goals as goal

pub loop-preserved : goal.loop-preserved
loop-preserved g c =
    let i = c.loop.invariant in
    let v : Vec (EndValue g.row.K.Denot) Global = c.in_ok-row.field-0 in
    let grown : c.push.new.self.items ≡ c.loop.rows.items ++ v ∷ [] = c.in_ok-push.ensures.items in record {
      same = c.in_ok-row.ensures.same ∙ i.same;
      count = ap length grown ∙ (length-append c.loop.rows.items (v ∷ []) ∙ ap (λ n. n + 1) i.count);
      rows = λ j w at. each-snoc (λ (x : Vec (EndValue g.row.K.Denot) Global). x.items ≡ map as_guest c.args.owners.now) c.loop.rows.items v i.rows (c.in_ok-row.ensures.row ∙ ap (map as_guest) i.same) j w (ap (λ (l : List (Vec (EndValue g.row.K.Denot) Global)). get_elem? l j) (sym grown) ∙ at);
    }

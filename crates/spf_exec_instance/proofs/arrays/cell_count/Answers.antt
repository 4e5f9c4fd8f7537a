use Rattle.std.proofs.Common.{arith, ap}
use Rattle.std.proofs.Math.ListN.{drop_of_length-le}
use Rattle.std.specs.Prelude.{map}
use Rattle.spf_ast.specs.View.{array}
use Rattle.spf_ast.specs.Program.{sizes}
use Rattle.spf_exec_instance.proofs.Cells.{next_sizes, counted_sum}
use Rattle.spf_exec_instance.proofs.arrays.cell_count.Goals as goal

pub loop-array-preserved : goal.loop-array-preserved
loop-array-preserved c =
    let next = next_sizes c.args.len c.args.arrays.now c.loop-array.array-index c.array-item.result c.loop-array-test.true c.array-item.is in
    record {
      whole = counted_sum c.loop-array.count c.size.result _ _ _ (rw (next, ← c.size.ensures) at c.loop-array.invariant.whole) c.saturating_add-count.ensures;
      small = c.saturating_add-count.type_inv;
    }

pub returns : goal.returns
returns c =
    let none = ap (λ l. sizes c.args.len (map array l)) (drop_of_length-le c.args.arrays.now c.loop-array-test.false) in
    let w = rw none at c.loop-array.invariant.whole in
    omega (arith, w, c.loop-array.invariant.small)

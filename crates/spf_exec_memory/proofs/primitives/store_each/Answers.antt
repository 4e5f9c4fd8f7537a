use Rattle.spf_ast.specs.Meaning.{stores_each}
use Rattle.spf_exec_memory.specs.Performs.{state}
use Rattle.std.proofs.Common.{◌+◌, ◌-◌, w64, ◌∙◌}
use Rattle.std.proofs.lemmas.Int.{to_z-of_z}
use Rattle.spf_exec_memory.proofs.Steps.{steps, store_now}
use Rattle.spf_exec_memory.proofs.Turns.{still, store_more}
use Rattle.spf_exec_memory.proofs.primitives.store_each.Goals as goal

pub loop-cell-preserved : goal.loop-cell-preserved
loop-cell-preserved g c =
    let l = rw (to_z-of_z w64 c.args.value c.ranges.value) at c.store.ensures.leads in
    let k = rw (to_z-of_z w64 c.args.value c.ranges.value) at c.loop-cell.invariant.goes in
    rw (c.store.ensures.output, to_z-of_z w64 c.args.value c.ranges.value)
    (record {
      goes = steps {s = state c.args.registers.now (g.M.Memory.output c.loop-cell.memory)} (λ _. stores_each (c.loop-cell.cell + 1) (c.args.from + c.args.count - (c.loop-cell.cell + 1)) c.args.value) g.met.M.Memory.laws (still (store_more c.loop-cell.cell (c.args.from + c.args.count) c.args.value c.loop-cell-test.true) k) (store_now _ _ _ _ _ l);
      cells = g.met.M.Memory.keeps_cells _ _ _ c.store.ensures.leads ∙ c.loop-cell.invariant.cells;
    })

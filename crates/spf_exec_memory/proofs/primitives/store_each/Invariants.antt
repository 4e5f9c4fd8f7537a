use Rattle.std.proofs.Common.{◌≡◌, ◌+◌, ◌-◌}
use Rattle.spf_ast.specs.Meaning.{stores_each}
use Rattle.spf_exec_memory.specs.Performs.{state}
use Rattle.spf_exec_memory.proofs.Steps.{Continues}
use Rattle.spf_exec_memory.proofs.primitives.store_each.Given as goal

-- the cells that are left lead to all of them
abbrev pub invariant-loop-cell : goal.invariant-loop-cell
invariant-loop-cell g l = record {
  goes : Continues g.M.Memory.leads g.M.Memory.stop g.M.Memory.may_lack_memory (stores_each l.from l.count l.value (state l.registers (g.M.Memory.output l.initial.memory))) l.initial.memory (stores_each l.cell (l.from + l.count - l.cell) l.value (state l.registers (g.M.Memory.output l.memory))) l.memory;
  cells : g.M.Memory.cell_count l.memory ≡ g.M.Memory.cell_count l.initial.memory;
}

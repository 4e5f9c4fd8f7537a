use Rattle.std.proofs.Common.{◌≡◌, length}
use Rattle.spf_ast.specs.Meaning.{main_means}
use Rattle.spf_ast.specs.Program.{environment_of}
use Rattle.spf_exec_instance.specs.Frame.{main_slots}
use Rattle.spf_exec_instance.specs.Instance.{program_of}
use Rattle.spf_exec_memory.specs.Performs.{state}
use Rattle.spf_exec_memory.proofs.Steps.{Continues}
use Rattle.spf_exec.proofs.Sources.{between}
use Rattle.spf_exec.proofs.plain_run.perform_statements.Given as goal

-- the statements that are left lead to all of them
abbrev pub invariant-loop-index : goal.invariant-loop-index
invariant-loop-index g l = record {
  goes : Continues g.M.Memory.leads g.M.Memory.stop g.M.Memory.may_lack_memory
      (main_means (environment_of (program_of l.instance) l.instance.input) (between l.instance.source.main.items l.from l.to) (state (main_slots (program_of l.instance) l.initial.registers) (g.M.Memory.output l.initial.memory))) l.initial.memory
      (main_means (environment_of (program_of l.instance) l.instance.input) (between l.instance.source.main.items l.index l.to) (state (main_slots (program_of l.instance) l.registers) (g.M.Memory.output l.memory))) l.memory;
  cells : g.M.Memory.cell_count l.memory ≡ g.M.Memory.cell_count l.initial.memory;
  count : length l.registers ≡ length l.initial.registers;
}
